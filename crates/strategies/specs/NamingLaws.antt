-- What a choice of those standing tables that pass a test owes to keep the law.
-- Lemmas for a law that an impl owes, whose term can cite specs/ alone: they are proved, and nothing here has to be believed.
use Rattle.std.specs.Prelude.{◌≡◌, ℕ, ◌≤◌, Bool, false, List, filter, ◌≢◌, refl}
use Rattle.std.specs.declared.cmp.Ordering.{Ordering}
use Rattle.std.proofs.Common.{sym, ap, subst, ◌∙◌, inl, inr, arith}
use Rattle.std.proofs.lemmas.Bool.{both_ways, cases_Bool}
use Rattle.keys.specs.KeyRange.{meets}
use Rattle.runs.specs.declared.table.Table.{Table}
use Rattle.runs.specs.Run.{span_of}
use Rattle.picks.specs.Movable.{meets_span}
use Rattle.sheets.specs.Level.{numbers_of, size_of}
use Rattle.sheets.specs.Members.{In, Pairs, none, more}
use Rattle.sheets.specs.Sound.{Differ}
use Rattle.sheets.specs.Tables.{named}
use Rattle.sheets.proofs.Each.{in_kept, kept_in, kept_pairs, in_map}
use Rattle.strategies.specs.declared.choice.Kind.{Kind}
use Rattle.strategies.specs.declared.choice.Kind.TheVariants.{Move, Merge, Drop}
use Rattle.strategies.specs.Answer.{Answer, nothing, chooses, declines, naming}
use Rattle.strategies.specs.Strategy.{Goes, Told, LawfulAnswer}
use Rattle.strategies.specs.NamingParts.{same_named, in_named}

-- a choice says what it names; doing nothing and refusing say nothing
abbrev pub ToldAnswer : {K : Type 0} → (K → K → Ordering) → List (Table K) → Answer → Type 0
ToldAnswer cmp ts nothing = Unit {0}
ToldAnswer cmp ts (chooses c) = Told cmp ts c
ToldAnswer cmp ts (declines d) = Unit {0}

pub merge_moves : (P : Type 0) → ◌≡◌ {A = Kind} Merge Move → P
merge_moves P e = absurd (let z : ◌≡◌ {A = ℕ} 0 1 = cc in omega arith)

pub drop_moves : (P : Type 0) → ◌≡◌ {A = Kind} Drop Move → P
drop_moves P e = absurd (let z : ◌≡◌ {A = ℕ} 0 1 = cc in omega arith)

-- numbers of tables that differ pair by pair
numbers_once : {K : Type 0} {ts : List (Table K)} → Pairs Differ ts → Pairs (λ m n. m ≢ n) (numbers_of ts)
numbers_once none = none
numbers_once (more {x = t} {xs = ts} h ps) = more (λ n m e. let w = in_map (λ u. u.number) ts n m in h w.0 w.1 (e ∙ w.2)) (numbers_once ps)

module _ {K : Type 0} (cmp : K → K → Ordering) {ts : List (Table K)} (differ : Pairs Differ ts) (kind : Kind) (d c z : ℕ) (p : Table K → Bool) where
  -- what the choice says of what it names
  pub naming_told : ToldAnswer cmp ts (naming kind d c z p ts)
  naming_told = record { order = ap numbers_of (sym (same_named differ p)); bytes = ap size_of (sym (same_named differ p)) }

  -- The choice is lawful if its destination is 1 to 6, no table of the destination that fails the test meets the span of those that pass,
  -- and tables of a move do not meet.
  pub naming_lawful : (Goes kind → (1 ≤ d) × (d ≤ 6))
      → (Goes kind → (u : Table K) → In u ts → u.level ≡ d → p u ≡ false → meets_span cmp (λ t. t.range) (span_of cmp (λ t. t.range) (filter p ts)) u ≡ false)
      → (kind ≡ Move → (t u : Table K) → In t (filter p ts) → In u (filter p ts) → Differ t u → meets cmp t.range u.range ≡ false)
      → LawfulAnswer cmp ts (naming kind d c z p ts)
  naming_lawful to others apart =
      let numbers = numbers_of (filter p ts) in
      let same = same_named differ p in
      let fails : (u : Table K) → In u ts → named numbers u ≡ false → p u ≡ false =
      λ u m h. elim (cases_Bool (p u)) [ inl y ↦ absurd (both_ways _ h (in_named (filter p ts) u (kept_in p ts u m y))) | inr y ↦ y ] in
      record {
        stands = λ n m. let w = in_map (λ t. t.number) (filter p ts) n m in (w.0, (in_kept p ts w.0 w.1).0, sym w.2);
        once = numbers_once (kept_pairs Differ p differ);
        destined = to;
        apart = λ e t u m n. apart e t u (subst (In t) same m) (subst (In u) same n);
        others = λ g u m e h. ap (λ us. meets_span cmp (λ t. t.range) (span_of cmp (λ t. t.range) us) u) same ∙ others g u m e (fails u m h);
      }

-- any drop is lawful
pub drop_lawful : {K : Type 0} (cmp : K → K → Ordering) {ts : List (Table K)} → Pairs Differ ts → (p : Table K → Bool) → LawfulAnswer cmp ts (naming Drop 0 0 0 p ts)
drop_lawful cmp differ p = naming_lawful cmp differ Drop 0 0 0 p (λ g. absurd (g refl)) (λ g. absurd (g refl)) (λ e. drop_moves _ e)
