-- Two jobs that are apart, by their slots.
use Rattle.std.proofs.Common.{◌≡◌, ℕ, Bool, true, false, cond, not, ◌&&◌, eqb, List, [], ◌∷◌, Some, None, Option, Ordering, refl, ap, ◌∙◌}
use Rattle.std.specs.List.{list_any}
use Rattle.runs.specs.declared.table.Table.{Table}
use Rattle.sheets.specs.Tables.{memb}
use Rattle.strategies.specs.Strategy.{spans_meet}
use Rattle.books.specs.Booked.{is_going, span_held, crosses, jobs_apart}
use Rattle.books.specs.Job.{Running}
use Rattle.slots.specs.Sound.{free_or_so, level_in, same_level, span_in, apart_by}

none_shared : (ns : List ℕ) → list_any (λ n. memb n []) ns ≡ false
none_shared [] = refl
none_shared (n ∷ ns) = none_shared ns

-- ---- levels
pub no_level : (b : Bool) (d : ℕ) → same_level (cond b (Some d) None) None ≡ false
no_level true d = refl
no_level false d = refl

levels : (a b : Bool) (d e : ℕ) (m : Bool) → (same_level (cond a (Some d) None) (cond b (Some e) None) && m) ≡ (a && (b && (eqb d e && m)))
levels true true d e m = refl
levels true false d e m = refl
levels false b d e m = refl

module _ {K : Type 0} (cmp : K → K → Ordering) (ts : List (Table K)) where
  -- a job crosses that of a slot, if any
  pub crosses_slot : (j k : Running) → (same_level (level_in (Some j)) (level_in (Some k)) && spans_meet cmp (span_held cmp ts j) (span_held cmp ts k)) ≡ crosses cmp ts j k
  crosses_slot j k = levels (is_going j.kind) (is_going k.kind) j.destination k.destination (spans_meet cmp (span_held cmp ts j) (span_held cmp ts k))

  pub apart_slots : (a b : Option Running) → apart_by cmp ts (span_in cmp ts a) a b ≡ free_or_so (jobs_apart cmp ts) a b
  apart_slots None b = refl
  apart_slots (Some j) None =
      ap (λ s. not s && not (same_level (level_in (Some j)) None && spans_meet cmp (span_held cmp ts j) None)) (none_shared j.numbers)
      ∙ ap (λ l. not (l && spans_meet cmp (span_held cmp ts j) None)) (no_level (is_going j.kind) j.destination)
  apart_slots (Some j) (Some k) = ap (λ l. not (list_any (λ n. memb n k.numbers) j.numbers) && not l) (crosses_slot j k)
