-- Two pairs of runs whose tables pair have one pick: `S t u` says that a table of one kind pairs with one of another, with ranges that pair, one size and one number.
use Rattle.std.proofs.Common.{◌≡◌, ℕ, Bool, cond, ltb, List, [], ◌∷◌, length, Some, None, sum_by, Option, Ordering, refl, ap, ◌∙◌}
use Rattle.keys.specs.declared.key_range.KeyRange.{KeyRange}
use Rattle.keys.specs.Pairing.{Both, CompareAlike, TwinRange}
use Rattle.keys.proofs.Alike.{length_alike, take_alike, drop_alike, sum_alike, count_alike, kept_alike, lt_alike, meets_alike, inside_alike}
use Rattle.windows.specs.declared.slice_windows.Window.{Window}
use Rattle.runs.specs.Pairing.{TwinSpans, no_span, a_span}
use Rattle.runs.specs.Run.{span_of}
use Rattle.windows.specs.SliceWindows.{tables_of, growing, shrinking}
use Rattle.runs.proofs.Alike.{span_alike}
use Rattle.sheets.specs.Tables.{memb}
use Rattle.picks.specs.declared.pick.Pick.TheVariants.{Merge}
use Rattle.picks.specs.Marks.{hidden_among}
use Rattle.picks.specs.Merge.{cheaper, cheapest_of, inside_span, before_span, contained, begun_before, cost, merging, admissible, cheapest_merge}
use Rattle.picks.specs.Movable.{first_of, meets_span, movable, longest_movable}
use Rattle.picks.specs.Pick.{merge_or_nothing, move_or_merge, pick}

-- ---- the first and the cheapest of a list, by tests and costs that agree
module _ {X : Type 0} where
  first_alike : (p q : X → Bool) → ((x : X) → p x ≡ q x) → (xs : List X) → first_of p xs ≡ first_of q xs
  unfolding first_of
  first_alike p q e [] = refl
  first_alike p q e (x ∷ xs) = ap (λ b. cond b (Some x) (first_of p xs)) (e x) ∙ ap (cond (q x) (Some x)) (first_alike p q e xs)

  cheaper_alike : (f g : X → ℕ) → ((x : X) → f x ≡ g x) → (o p : Option X) → cheaper f o p ≡ cheaper g o p
  unfolding cheaper
  cheaper_alike f g e None p = refl
  cheaper_alike f g e (Some x) None = refl
  cheaper_alike f g e (Some x) (Some y) = ap (λ n. cond (ltb n (f x)) (Some y) (Some x)) (e y) ∙ ap (λ n. cond (ltb (g y) n) (Some y) (Some x)) (e x)

  cheapest_alike : (p q : X → Bool) (f g : X → ℕ) → ((x : X) → p x ≡ q x) → ((x : X) → f x ≡ g x) → (xs : List X) → cheapest_of p f xs ≡ cheapest_of q g xs
  unfolding cheapest_of
  cheapest_alike p q f g e h [] = refl
  cheapest_alike p q f g e h (x ∷ xs) =
      ap (λ b. cheaper f (cond b (Some x) None) (cheapest_of p f xs)) (e x)
      ∙ ap (cheaper f (cond (q x) (Some x) None)) (cheapest_alike p q f g e h xs)
      ∙ cheaper_alike f g h (cond (q x) (Some x) None) (cheapest_of q g xs)

-- ---- windows and picks
module _ {A B T U : Type 0} (cmp_a : A → A → Ordering) (cmp_b : B → B → Ordering) (R : A → B → Type 0) (alike : CompareAlike cmp_a cmp_b R) (spansA : T → KeyRange A) (spansB : U → KeyRange B)
    (S : T → U → Type 0) (ranges : (t : T) (u : U) → S t u → TwinRange R (spansA t) (spansB u)) where
  pub meets_span_alike : {o : Option (KeyRange A)} {p : Option (KeyRange B)} → TwinSpans R o p → (t : T) (u : U) → S t u → meets_span cmp_a spansA o t ≡ meets_span cmp_b spansB p u
  meets_span_alike no_span t u s = refl
  meets_span_alike (a_span x) t u s = meets_alike cmp_a cmp_b R alike (ranges t u s) x

  pub inside_span_alike : {o : Option (KeyRange A)} {p : Option (KeyRange B)} → TwinSpans R o p → (t : T) (u : U) → S t u → inside_span cmp_a spansA o t ≡ inside_span cmp_b spansB p u
  inside_span_alike no_span t u s = refl
  inside_span_alike (a_span x) t u s = inside_alike cmp_a cmp_b R alike x (ranges t u s)

  before_span_alike : {o : Option (KeyRange A)} {p : Option (KeyRange B)} → TwinSpans R o p → (t : T) (u : U) → S t u → before_span cmp_a spansA o t ≡ before_span cmp_b spansB p u
  before_span_alike no_span t u s = refl
  before_span_alike (a_span x) t u s = lt_alike cmp_a cmp_b R alike (ranges t u s).min x.min

  pub tables_alike : (w : Window) {ts : List T} {us : List U} → Both S ts us → Both S (tables_of w ts) (tables_of w us)
  tables_alike w b = take_alike S w.len (drop_alike S w.start b)

  pub window_span : (w : Window) {ts : List T} {us : List U} → Both S ts us → TwinSpans R (span_of cmp_a spansA (tables_of w ts)) (span_of cmp_b spansB (tables_of w us))
  window_span w b = span_alike cmp_a cmp_b R alike spansA spansB S ranges (tables_alike w b)

  module _ {curr next : List T} {curr' next' : List U} (c : Both S curr curr') (n : Both S next next') where
    pub contained_alike : (w : Window) → Both S (contained cmp_a spansA curr next w) (contained cmp_b spansB curr' next' w)
    contained_alike w = kept_alike S _ _ (inside_span_alike (window_span w n)) c

    begun_before_alike : (w : Window) → begun_before cmp_a spansA curr next w ≡ begun_before cmp_b spansB curr' next' w
    begun_before_alike w = count_alike S _ _ (before_span_alike (window_span w n)) c

    module _ (bytesA : T → ℕ) (bytesB : U → ℕ) (sizes : (t : T) (u : U) → S t u → bytesA t ≡ bytesB u) where
      size_alike : {ts : List T} {us : List U} → Both S ts us → sum_by bytesA ts ≡ sum_by bytesB us
      size_alike b = sum_alike S bytesA bytesB sizes b

      pub cost_alike : (w : Window) → cost cmp_a spansA curr next bytesA w ≡ cost cmp_b spansB curr' next' bytesB w
      unfolding cost
      cost_alike w = rw (size_alike (tables_alike w n), size_alike (contained_alike w)) refl

      pub merging_alike : (w : Window) → merging cmp_a spansA curr next bytesA w ≡ merging cmp_b spansB curr' next' bytesB w
      unfolding merging
      merging_alike w = rw (begun_before_alike w, length_alike S (contained_alike w), cost_alike w) refl

      module _ (namedA : T → ℕ) (namedB : U → ℕ) (numbers : (t : T) (u : U) → S t u → namedA t ≡ namedB u) (hs : List ℕ) (target : ℕ) where
        hidden_alike : {ts : List T} {us : List U} → Both S ts us → hidden_among namedA hs ts ≡ hidden_among namedB hs us
        hidden_alike b = count_alike S (λ t. memb (namedA t) hs) (λ u. memb (namedB u) hs) (λ t u s. ap (λ k. memb k hs) (numbers t u s)) b

        pub movable_alike : (w : Window) → movable cmp_a spansA namedA hs curr next w ≡ movable cmp_b spansB namedB hs curr' next' w
        unfolding movable
        movable_alike w = rw (hidden_alike (tables_alike w c), count_alike S _ _ (meets_span_alike (window_span w c)) n) refl

        pub admissible_alike : (w : Window) → admissible cmp_a spansA bytesA namedA hs curr next target w ≡ admissible cmp_b spansB bytesB namedB hs curr' next' target w
        unfolding admissible
        admissible_alike w = rw (size_alike (tables_alike w n), hidden_alike (tables_alike w n), size_alike (contained_alike w), hidden_alike (contained_alike w)) refl

        longest_alike : longest_movable cmp_a spansA namedA hs curr next ≡ longest_movable cmp_b spansB namedB hs curr' next'
        longest_alike = ap (λ k. first_of (movable cmp_a spansA namedA hs curr next) (shrinking k)) (length_alike S c) ∙ first_alike _ _ movable_alike (shrinking (length curr'))

        merge_alike : cheapest_merge cmp_a spansA bytesA namedA hs curr next target ≡ cheapest_merge cmp_b spansB bytesB namedB hs curr' next' target
        merge_alike =
            ap (λ k. cheapest_of (admissible cmp_a spansA bytesA namedA hs curr next target) (cost cmp_a spansA curr next bytesA) (growing k)) (length_alike S n)
            ∙ cheapest_alike _ _ _ _ admissible_alike cost_alike (growing (length next'))

        at_merge : (o : Option Window) → merge_or_nothing cmp_a spansA bytesA namedA hs curr next target o ≡ merge_or_nothing cmp_b spansB bytesB namedB hs curr' next' target o
        at_merge None = refl
        at_merge (Some w) = ap (λ m. Some (Merge m)) (merging_alike w)

        at_move : (o : Option Window) → move_or_merge cmp_a spansA bytesA namedA hs curr next target o ≡ move_or_merge cmp_b spansB bytesB namedB hs curr' next' target o
        at_move None = ap (merge_or_nothing cmp_a spansA bytesA namedA hs curr next target) merge_alike ∙ at_merge (cheapest_merge cmp_b spansB bytesB namedB hs curr' next' target)
        at_move (Some w) = refl

        pub pick_alike : pick cmp_a spansA bytesA namedA hs curr next target ≡ pick cmp_b spansB bytesB namedB hs curr' next' target
        pick_alike = ap (move_or_merge cmp_a spansA bytesA namedA hs curr next target) longest_alike ∙ at_move (longest_movable cmp_b spansB namedB hs curr' next')
