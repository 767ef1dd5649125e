-- The pick keeps its promise, by its definition alone: for every two lists of tables, sorted or not.
use Rattle.std.proofs.Common.{◌≡◌, ℕ, ◌*◌, ◌<◌, ◌≤◌, Bool, true, false, eqb, ltb, leb, List, [], ◌∷◌, length, sum_by, count_by, Some, None, Option, Ordering, sym, refl, ap, ◌∙◌, subst, inl, inr, arith}
use Rattle.std.specs.Option.{option_map}
use Rattle.std.proofs.lemmas.Bool.{both_ways, cases_Bool, cases_lt, and_parts, eqb-true, ltb-true, leb-true}
use Rattle.keys.specs.declared.key_range.KeyRange.{KeyRange}
use Rattle.windows.specs.declared.slice_windows.Window.{Window}
use Rattle.runs.specs.Run.{span_of}
use Rattle.runs.proofs.Falls.{count_yes, count_no}
use Rattle.sheets.specs.Members.{Every}
use Rattle.sheets.specs.Tables.{memb}
use Rattle.sheets.proofs.Each.{none_in, in_cases}
use Rattle.windows.specs.SliceWindows.{tables_of, Within, Shorter, Longer}
use Rattle.picks.specs.declared.merge.Merging.{Merging}
use Rattle.picks.specs.declared.pick.Pick.{Pick}
use Rattle.picks.specs.declared.pick.Pick.TheVariants.{Move, Merge}
use Rattle.picks.specs.declared.merge.Merging.{Merging}
use Rattle.picks.specs.Merge.{contained, begun_before, admissible, cost, merging, cheapest_merge}
use Rattle.picks.specs.Marks.{hidden_among}
use Rattle.picks.specs.Movable.{meets_span, movable, longest_movable}
use Rattle.picks.specs.Pick.{merge_or_nothing, move_or_merge, pick}
use Rattle.picks.specs.PickLaw.{AllFree, PickLaw, NoneMovable, Moves, Merges, OnlyPick, weight}
use Rattle.windows.proofs.WindowLists.{same_window}
use Rattle.picks.proofs.Bests.{Best, longest_best, growing_best, shorter_total}

-- where none is counted, none passes
none_pass : {X : Type 0} (p : X → Bool) (xs : List X) → count_by p xs ≡ 0 → Every (λ x. p x ≡ false) xs
none_pass p [] h x m = absurd (none_in m)
none_pass p (y ∷ ys) h x m = elim (cases_Bool (p y)) [
  | inl e ↦ absurd (omega (arith, count_yes p y ys e))
  | inr e ↦ elim (in_cases m) [ inl q ↦ ap p q ∙ e | inr n ↦ none_pass p ys (omega (arith, count_no p y ys e)) x n ]
]

module _ {K T : Type 0} (cmp : K → K → Ordering) (spans : T → KeyRange K) (bytes named : T → ℕ) (hs : List ℕ) (curr next : List T) (target : ℕ) where
  -- what the two tests say
  abbrev Free : List T → Type 0
  Free ts = AllFree cmp spans bytes named hs curr next target ts

  abbrev is_hidden : T → Bool
  is_hidden t = memb (named t) hs

  moves_clear : (w : Window) → movable cmp spans named hs curr next w ≡ true → Free (tables_of w curr) × Every (λ u. meets_span cmp spans (span_of cmp spans (tables_of w curr)) u ≡ false) next
  unfolding movable
  moves_clear w e =
      let p = and_parts (eqb (hidden_among named hs (tables_of w curr)) 0) _ e in
      (none_pass is_hidden (tables_of w curr) (eqb-true _ _ p.0), none_pass (meets_span cmp spans (span_of cmp spans (tables_of w curr))) next (eqb-true _ _ p.1))

  merges_free : (w : Window) → admissible cmp spans bytes named hs curr next target w ≡ true
      → (sum_by bytes (tables_of w next) ≤ 50 * target) × (0 < sum_by bytes (contained cmp spans curr next w)) × (Free (tables_of w next) × Free (contained cmp spans curr next w))
  unfolding admissible
  merges_free w e =
      let p = and_parts (leb (sum_by bytes (tables_of w next)) (50 * target)) _ e in
      let q = and_parts (eqb (hidden_among named hs (tables_of w next)) 0) _ p.1 in
      let r = and_parts (ltb 0 (sum_by bytes (contained cmp spans curr next w))) _ q.1 in
      (leb-true _ _ p.0, ltb-true _ _ r.0, (none_pass is_hidden (tables_of w next) (eqb-true _ _ q.0), none_pass is_hidden (contained cmp spans curr next w) (eqb-true _ _ r.1)))

  -- ---- the law
  abbrev ok : Window → Bool
  ok v = movable cmp spans named hs curr next v

  abbrev fine : Window → Bool
  fine v = admissible cmp spans bytes named hs curr next target v

  abbrev all : Window → ℕ
  all v = cost cmp spans curr next bytes v

  at_merge : NoneMovable cmp spans bytes named hs curr next target → (p : Option Window) → Best fine all (Within (length next)) Shorter p
      → PickLaw cmp spans bytes named hs curr next target (merge_or_nothing cmp spans bytes named hs curr next target p)
  unfolding merging cost
  at_merge still None b = record { stays = still; bars = b }
  at_merge still (Some w) b = record { stays = still; window = b.here; merges = b.passes; most = (merges_free w b.passes).0; some = (merges_free w b.passes).1; free = (merges_free w b.passes).2; place = refl; count = refl; weighs = refl; fewest = b.least; first = b.first }

  at_move : (o : Option Window) → Best ok (λ v. 0) (Within (length curr)) Longer o → PickLaw cmp spans bytes named hs curr next target (move_or_merge cmp spans bytes named hs curr next target o)
  at_move None b = at_merge b (cheapest_merge cmp spans bytes named hs curr next target) (growing_best fine all (length next))
  at_move (Some w) b = record {
    window = b.here;
    moves = b.passes;
    free = (moves_clear w b.passes).0;
    clear = (moves_clear w b.passes).1;
    longest = λ v r e. elim (cases_lt w.len v.len) [ inl l ↦ absurd (omega (arith, b.first v r e (inl l))) | inr l ↦ l ];
    leftmost = λ v r e q. elim (cases_lt v.start w.start) [ inl l ↦ absurd (omega (arith, b.first v r e (inr (q, l)))) | inr l ↦ l ];
  }

  pub pick_law : PickLaw cmp spans bytes named hs curr next target (pick cmp spans bytes named hs curr next target)
  pick_law = at_move (longest_movable cmp spans named hs curr next) (longest_best ok (length curr))

  law_of : (r : Option Pick) → r ≡ pick cmp spans bytes named hs curr next target → PickLaw cmp spans bytes named hs curr next target r
  law_of r e = subst (λ (x : Option Pick). PickLaw cmp spans bytes named hs curr next target x) (sym e) pick_law

  same_merge : (o : Option Window) → option_map Merge (option_map (merging cmp spans curr next bytes) o) ≡ merge_or_nothing cmp spans bytes named hs curr next target o
  same_merge None = refl
  same_merge (Some w) = refl

  -- the answers of the two searches keep the promise
  pub move_law : (w : Window) → Some w ≡ longest_movable cmp spans named hs curr next → PickLaw cmp spans bytes named hs curr next target (Some (Move w))
  move_law w e = law_of (Some (Move w)) (ap (move_or_merge cmp spans bytes named hs curr next target) e)

  pub rest_law : (m : Option Merging) → None ≡ longest_movable cmp spans named hs curr next → m ≡ option_map (merging cmp spans curr next bytes) (cheapest_merge cmp spans bytes named hs curr next target) → PickLaw cmp spans bytes named hs curr next target (option_map Merge m)
  rest_law m e f =
      law_of (option_map Merge m) (ap (option_map Merge) f ∙ same_merge (cheapest_merge cmp spans bytes named hs curr next target) ∙ ap (move_or_merge cmp spans bytes named hs curr next target) e)

  -- ---- no two answers keep it
  abbrev Moving : Window → Type 0
  Moving w = Moves cmp spans bytes named hs curr next target w

  abbrev Merged : Merging → Type 0
  Merged m = Merges cmp spans bytes named hs curr next target m

  one_move : (v w : Window) → Moving v → Moving w → v ≡ w
  one_move v w a b =
      let e : v.len ≡ w.len = omega (arith, a.longest w b.window b.moves, b.longest v a.window a.moves) in
      same_window v w (omega (arith, a.leftmost w b.window b.moves (sym e), b.leftmost v a.window a.moves e)) e

  one_next : (m n : Merging) → Merged m → Merged n → m.next ≡ n.next
  one_next m n a b = elim (shorter_total m.next n.next) [
    | inl e ↦ e
    | inr d ↦ elim d [
      | inl l ↦ absurd (omega (arith, b.first m.next a.window a.merges l, a.fewest n.next b.window b.merges, a.weighs, b.weighs))
      | inr l ↦ absurd (omega (arith, a.first n.next b.window b.merges l, b.fewest m.next a.window a.merges, a.weighs, b.weighs))
    ]
  ]

  same_merging : (m n : Merging) → m.next ≡ n.next → m.curr ≡ n.curr → m.bytes ≡ n.bytes → m ≡ n
  same_merging m n e f g =
      ap (λ w. record { next = w; curr = m.curr; bytes = m.bytes }) e ∙ ap (λ w. record { next = n.next; curr = w; bytes = m.bytes }) f ∙ ap (λ b. record { next = n.next; curr = n.curr; bytes = b }) g

  one_merge : (m n : Merging) → Merged m → Merged n → m ≡ n
  one_merge m n a b =
      let e = one_next m n a b in
      same_merging m n e
      (same_window m.curr n.curr (a.place ∙ ap (begun_before cmp spans curr next) e ∙ sym b.place) (a.count ∙ ap (λ v. length (contained cmp spans curr next v)) e ∙ sym b.count))
      (a.weighs ∙ ap (weight cmp spans bytes named hs curr next target) e ∙ sym b.weighs)

  one_answer : (p q : Option Pick) → PickLaw cmp spans bytes named hs curr next target p → PickLaw cmp spans bytes named hs curr next target q → p ≡ q
  one_answer (Some (Move v)) (Some (Move w)) a b = ap (λ x. Some (Move x)) (one_move v w a b)
  one_answer (Some (Move v)) (Some (Merge n)) a b = absurd (both_ways _ (b.stays v a.window) a.moves)
  one_answer (Some (Move v)) None a b = absurd (both_ways _ (b.stays v a.window) a.moves)
  one_answer (Some (Merge m)) (Some (Move w)) a b = absurd (both_ways _ (a.stays w b.window) b.moves)
  one_answer (Some (Merge m)) (Some (Merge n)) a b = ap (λ x. Some (Merge x)) (one_merge m n a b)
  one_answer (Some (Merge m)) None a b = absurd (both_ways _ (b.bars m.next a.window) a.merges)
  one_answer None (Some (Move w)) a b = absurd (both_ways _ (a.stays w b.window) b.moves)
  one_answer None (Some (Merge n)) a b = absurd (both_ways _ (a.bars n.next b.window) b.merges)
  one_answer None None a b = refl

  pub only_one : (r : Option Pick) → PickLaw cmp spans bytes named hs curr next target r → OnlyPick cmp spans bytes named hs curr next target r
  only_one r a p b = one_answer p r b a
