-- What leveled names, as stretches of the sheet: what the code writes and sums.
-- Lemmas for a law that an impl owes, whose term can cite specs/ alone: they are proved, and nothing here has to be believed.
use Rattle.std.specs.Prelude.{◌≡◌, ℕ, suc, ◌≤◌, true, List, ◌++◌, drop, filter}
use Rattle.std.specs.declared.cmp.Ordering.{Ordering}
use Rattle.std.proofs.Math.Path.{ap}
use Rattle.std.proofs.Common.{◌∙◌}
use native.Mathlib.Omega.{arith}
use Rattle.std.proofs.lemmas.Bool.{and_parts, eqb-true}
use Rattle.std.proofs.lemmas.List.Sums.{sum_by-append}
use Rattle.keys.specs.KeyKind.{Laws}
use Rattle.runs.specs.declared.table.Table.{Table}
use Rattle.windows.specs.declared.slice_windows.Window.{Window}
use Rattle.runs.specs.Run.{span_of}
use Rattle.windows.specs.SliceWindows.{tables_of}
use Rattle.sheets.specs.Level.{size_of, in_level, level_of, Stacked}
use Rattle.sheets.specs.Members.{In, Pairs}
use Rattle.sheets.specs.Sound.{Differ, Sound, tables_ok}
use Rattle.sheets.proofs.Ascends.{sound_stacked}
use Rattle.sheets.proofs.Each.{in_kept}
use Rattle.sheets.proofs.Soundness.{sound_from_test}
use Rattle.picks.specs.Merge.{inside_span, contained, cost}
use Rattle.picks.specs.Movable.{meets_span}
use Rattle.levels.specs.declared.settings.Settings.{Settings}
use Rattle.leveled.specs.Leveled.{met, zero_and, moved, covered, merged}
use Rattle.strategies.specs.NamingParts.{Part, part_kept, part_take, part_drop, part_chain, part_in, kept_twice, named_part, named_in, kept_levels}

module _ {K : Type 0} (cmp : K → K → Ordering) (s : Settings) (ts : List (Table K)) (hs : List ℕ) where
  -- what each step names: level 0 and then what meets it; a window; what a window contains and then the window, with their bytes
  pub record Stretches : Type 0 where
    pub zero : (l : ℕ) → 1 ≤ l → filter (zero_and cmp s ts hs l) ts ≡ level_of 0 ts ++ filter (met cmp s ts hs l) ts
    pub meeting : (l : ℕ) → filter (met cmp s ts hs l) ts ≡ filter (meets_span cmp (λ t. t.range) (span_of cmp (λ t. t.range) (level_of 0 ts))) (level_of l ts)
    pub window : (n : ℕ) (w : Window) → filter (moved cmp s ts hs n w) ts ≡ tables_of w (level_of n ts)
    pub both : (n : ℕ) (w : Window) → filter (merged cmp s ts hs n w) ts ≡ contained cmp (λ t. t.range) (level_of n ts) (level_of (suc n) ts) w ++ tables_of w (level_of (suc n) ts)
    pub bytes : (n : ℕ) (w : Window) → size_of (filter (merged cmp s ts hs n w) ts) ≡ cost cmp (λ t. t.range) (level_of n ts) (level_of (suc n) ts) (λ t. t.size) w

  -- a window of a level is a part of the level, and of the sheet
  level_part : (n : ℕ) (w : Window) → Part (tables_of w (level_of n ts)) (level_of n ts)
  level_part n w = part_chain (part_drop w.start (level_of n ts)) (part_take w.len (drop w.start (level_of n ts)))

  window_part : (n : ℕ) (w : Window) → Part (tables_of w (level_of n ts)) ts
  window_part n w = part_chain (part_kept (in_level n) ts) (level_part n w)

  pub window_level : (n : ℕ) (w : Window) (t : Table K) → In t (tables_of w (level_of n ts)) → t.level ≡ n
  window_level n w t m = eqb-true t.level n (in_kept (in_level n) ts t (part_in (level_part n w) m)).1

  pub met_is : (l : ℕ) → filter (met cmp s ts hs l) ts ≡ filter (meets_span cmp (λ t. t.range) (span_of cmp (λ t. t.range) (level_of 0 ts))) (level_of l ts)
  met_is l = kept_twice (in_level l) (meets_span cmp (λ t. t.range) (span_of cmp (λ t. t.range) (level_of 0 ts))) ts

  covered_is : (n : ℕ) (w : Window) → filter (covered cmp s ts hs n w) ts ≡ contained cmp (λ t. t.range) (level_of n ts) (level_of (suc n) ts) w
  covered_is n w = kept_twice (in_level n) (inside_span cmp (λ t. t.range) (span_of cmp (λ t. t.range) (tables_of w (level_of (suc n) ts)))) ts

  module _ (differ : Pairs Differ ts) where
    -- a table that is named with a window is of the window
    pub window_named : (n : ℕ) (w : Window) (t : Table K) → In t ts → moved cmp s ts hs n w t ≡ true → In t (tables_of w (level_of n ts))
    window_named n w t m h = named_in differ (window_part n w) t m h

    pub moved_is : (n : ℕ) (w : Window) → filter (moved cmp s ts hs n w) ts ≡ tables_of w (level_of n ts)
    moved_is n w = named_part (window_part n w) differ

  pub zero_and_is : Stacked ts → (l : ℕ) → 1 ≤ l → filter (zero_and cmp s ts hs l) ts ≡ level_of 0 ts ++ filter (met cmp s ts hs l) ts
  zero_and_is stacks l h =
      kept_levels 0 l (omega arith) (in_level 0) (met cmp s ts hs l) stacks
      (λ t m e. eqb-true t.level 0 e) (λ t m e. eqb-true t.level l (and_parts (in_level l t) _ e).0)

  module _ (differ : Pairs Differ ts) (stacks : Stacked ts) where
    pub merged_is : (n : ℕ) (w : Window) → filter (merged cmp s ts hs n w) ts ≡ contained cmp (λ t. t.range) (level_of n ts) (level_of (suc n) ts) w ++ tables_of w (level_of (suc n) ts)
    merged_is n w =
        kept_levels n (suc n) (omega arith) (covered cmp s ts hs n w) (moved cmp s ts hs (suc n) w) stacks
        (λ t m e. eqb-true t.level n (and_parts (in_level n t) _ e).0)
        (λ t m e. window_level (suc n) w t (window_named differ (suc n) w t m e))
        ∙ ap (λ l. l ++ filter (moved cmp s ts hs (suc n) w) ts) (covered_is n w)
        ∙ ap (λ l. contained cmp (λ t. t.range) (level_of n ts) (level_of (suc n) ts) w ++ l) (moved_is differ (suc n) w)

    -- the bytes of a merge are the pick's
    pub merged_bytes : (n : ℕ) (w : Window) → size_of (filter (merged cmp s ts hs n w) ts) ≡ cost cmp (λ t. t.range) (level_of n ts) (level_of (suc n) ts) (λ t. t.size) w
    unfolding cost
    merged_bytes n w =
        let e = ap size_of (merged_is n w) in
        let f = sum_by-append (λ (t : Table K). t.size) (contained cmp (λ t. t.range) (level_of n ts) (level_of (suc n) ts) w) (tables_of w (level_of (suc n) ts)) in
        e ∙ f ∙ omega arith

    pub stretches : Stretches
    stretches = record { zero = zero_and_is stacks; meeting = met_is; window = moved_is differ; both = merged_is; bytes = merged_bytes }

-- ---- on a sound sheet, and on one that passed the test
module _ {K : Type 0} {cmp : K → K → Ordering} (laws : Laws cmp) (s : Settings) (ts : List (Table K)) (hs : List ℕ) where
  pub stretches_sound : {room standing blobs : ℕ} → Sound cmp room standing blobs ts → Stretches cmp s ts hs
  stretches_sound d = stretches cmp s ts hs d.ordered.numbers (sound_stacked laws d)

  pub stretches_tested : tables_ok cmp ts ≡ true → Stretches cmp s ts hs
  stretches_tested h = stretches_sound (sound_from_test laws 0 0 0 ts h)
