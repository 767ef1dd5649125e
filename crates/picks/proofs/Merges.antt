-- One pass over the next level finds the cheapest merge.
use Rattle.std.proofs.Common.{◌≡◌, ℕ, zero, suc, ◌+◌, ◌-◌, ◌*◌, ◌<◌, ◌≤◌, Bool, true, false, cond, ◌&&◌, ◌||◌, eqb, ltb, ◌⊎◌, List, length, take, drop, Some, None, sum_by, Option, Ordering, sym, refl, ap, ◌∙◌, inl, inr, arith}
use Rattle.std.specs.Option.{option_map}
use Rattle.std.proofs.lemmas.List.{length-take, length-drop}
use Rattle.std.proofs.lemmas.Bool.{cases_Bool, and_parts, and_cases, or_cases, or_parts, eqb-true, eqb-false, ltb-true, ltb-false}
use Rattle.keys.specs.declared.key_range.KeyRange.{KeyRange}
use Rattle.keys.specs.KeyKind.{Laws}
use Rattle.runs.specs.Search.{Min, Before}
use Rattle.windows.specs.declared.slice_windows.Window.{Window}
use Rattle.runs.specs.Run.{sorted}
use Rattle.windows.specs.SliceWindows.{win, tables_of, growing, Within, Shorter}
use Rattle.picks.specs.declared.edges.Edge.{Edge}
use Rattle.picks.specs.declared.merge.Merging.{Merging}
use Rattle.picks.specs.Edges.{begun, ended, left_of, right_of, Shortest, allowed, merged, sooner}
use Rattle.picks.specs.Marks.{hidden_among, Marked}
use Rattle.picks.specs.Merge.{contained, begun_before, admissible, cost, merging, cheapest_of, cheapest_merge}
use Rattle.picks.proofs.Bests.{IsBest, Best, same_region, best_unique, growing_best, shorter_total}
use Rattle.picks.proofs.Counts.{marked_at, marked_mono, marks_window, marks_between, sum_window, sum_between, sum_mono}
use Rattle.picks.proofs.Places.{inside_places, before_places, place_within}
use Rattle.picks.proofs.Shortest.{From, At, Sooner, Rises, none_at, first_at, new_at, old_at, all_barred, shortest_best}
use Rattle.picks.proofs.Turns.{ended_last, ended_within, ended_mono}

-- a window of the next level, by its edges
module _ {K T : Type 0} {cmp : K → K → Ordering} (laws : Laws cmp) (spans : T → KeyRange K) (curr next : List T) (curr_ok : sorted cmp spans curr ≡ true) (next_ok : sorted cmp spans next ≡ true) where
  -- what it contains is a stretch of the level
  contained_is : (s n e : ℕ) → e ≡ s + suc n → e ≤ length next
      → contained cmp spans curr next (win s (suc n)) ≡ take (ended cmp spans curr next e - begun cmp spans curr next s) (drop (begun cmp spans curr next s) curr)
  contained_is s n e q h =
      inside_places laws spans next curr next_ok curr_ok s n (s + n) refl (omega arith)
      ∙ ap (λ x. take (x - begun cmp spans curr next s) (drop (begun cmp spans curr next s) curr)) (sym (ended_last laws spans curr next e (s + n) (omega arith)))

  module _ (s n e : ℕ) (q : e ≡ s + suc n) (h : e ≤ length next) where
    sum_contained : (f : T → ℕ) → sum_by f (contained cmp spans curr next (win s (suc n))) ≡ sum_by f (take (ended cmp spans curr next e) curr) - sum_by f (take (begun cmp spans curr next s) curr)
    sum_contained f = ap (sum_by f) (contained_is s n e q h) ∙ sum_between f curr (begun cmp spans curr next s) (ended cmp spans curr next e)

    sum_own : (f : T → ℕ) → sum_by f (tables_of (win s (suc n)) next) ≡ sum_by f (take e next) - sum_by f (take s next)
    sum_own f = sum_window f next s (suc n) ∙ ap (λ k. sum_by f (take k next) - sum_by f (take s next)) (sym q)

    length_contained : length (contained cmp spans curr next (win s (suc n))) ≡ ended cmp spans curr next e - begun cmp spans curr next s
    length_contained =
        ap length (contained_is s n e q h)
        ∙ omega (arith, length-take (ended cmp spans curr next e - begun cmp spans curr next s) (drop (begun cmp spans curr next s) curr), length-drop (begun cmp spans curr next s) curr, ended_within laws spans curr next e)

    place_contained : begun_before cmp spans curr next (win s (suc n)) ≡ begun cmp spans curr next s
    place_contained = before_places laws spans next curr next_ok curr_ok s n (s + n) refl (omega arith)

  at_stretch : (bytes : T → ℕ) (s len : ℕ) → 0 < len → s + len ≤ length next → tables_of (merging cmp spans curr next bytes (win s len)).curr curr ≡ contained cmp spans curr next (win s len)
  unfolding merging
  at_stretch bytes s zero z h = absurd (omega arith)
  at_stretch bytes s (suc n) z h =
      ap (λ k. take k (drop (begun_before cmp spans curr next (win s (suc n))) curr)) (length_contained s n (s + suc n) refl h)
      ∙ ap (λ k. take (ended cmp spans curr next (s + suc n) - begun cmp spans curr next s) (drop k curr)) (place_contained s n (s + suc n) refl h)
      ∙ sym (contained_is s n (s + suc n) refl h)

  -- the stretch of the level that a merge gives is what its window contains
  pub stretch_contained : (bytes : T → ℕ) (w : Window) → Within (length next) w → tables_of (merging cmp spans curr next bytes w).curr curr ≡ contained cmp spans curr next w
  stretch_contained bytes w r = at_stretch bytes w.start w.len r.some r.ends

-- what the pass has found among the windows that start before i
pub record Found (ok : Window → Bool) (cost : Window → ℕ) (merging : Window → Merging) (n i : ℕ) (b : Option Merging) : Type 0 where
  pub window : Option Window
  pub is : b ≡ option_map merging window
  pub best : Best ok cost (From ok cost n i) Shorter window

module _ {K T : Type 0} (cmp : K → K → Ordering) (spans : T → KeyRange K) (bytes named : T → ℕ) (hs : List ℕ) (curr next : List T) (target : ℕ) where
  abbrev ok : Window → Bool
  ok w = admissible cmp spans bytes named hs curr next target w

  abbrev all : Window → ℕ
  all w = cost cmp spans curr next bytes w

  abbrev merge : Window → Merging
  merge w = merging cmp spans curr next bytes w

  abbrev pub MergeTo : ℕ → Option Merging → Type 0
  MergeTo i b = Found ok all merge (length next) i b

  pub found_none : MergeTo 0 None
  found_none = record { window = None; is = refl; best = λ v r. absurd (omega (arith, r.1)) }

  pub found_all : (i : ℕ) (b : Option Merging) → length next ≤ i → MergeTo i b → b ≡ option_map merge (cheapest_merge cmp spans bytes named hs curr next target)
  found_all i b h p =
      p.is ∙ ap (option_map merge)
      (best_unique ok all (Within (length next)) Shorter shorter_total p.window (cheapest_of ok all (growing (length next)))
      (same_region ok all (Within (length next)) (From ok all (length next) i) Shorter (λ v r. r.0) (λ v r. (r, omega (arith, r.some, r.ends))) p.window p.best) (growing_best ok all (length next)))

  -- the sooner of two stays
  at_sooner : (i : ℕ) (o : Option Window) (w : Window) → Best ok all (From ok all (length next) i) Shorter o → IsBest ok all (At ok all (length next) i) Shorter w → MergeTo (i + 1) (sooner (option_map merge o) (merge w))
  unfolding merging
  at_sooner i None w p q = record { window = Some w; is = refl; best = first_at _ _ (length next) i w p q }
  at_sooner i (Some x) w p q =
      elim (cases_Bool (ltb (all w) (all x) || (eqb (all w) (all x) && ltb w.len x.len))) [
        | inl e ↦
            let s : Sooner ok all (length next) w x =
            elim (or_cases (ltb (all w) (all x)) (eqb (all w) (all x) && ltb w.len x.len) e) [
              | inl k ↦ inl (ltb-true _ _ k)
              | inr k ↦ let a = and_parts (eqb (all w) (all x)) (ltb w.len x.len) k in inr (eqb-true _ _ a.0, ltb-true _ _ a.1)
            ] in
            record { window = Some w; is = ap (λ t. cond t (Some (merge w)) (Some (merge x))) e; best = new_at _ _ (length next) i x w p q s }
        | inr e ↦
            let a = or_parts (ltb (all w) (all x)) (eqb (all w) (all x) && ltb w.len x.len) e in
            let le = ltb-false (all w) (all x) a.0 in
            let s : (all x < all w) ⊎ ((all x ≤ all w) × (x.len ≤ w.len)) =
            elim (and_cases (eqb (all w) (all x)) (ltb w.len x.len) a.1) [
              | inl k ↦ inl (omega (arith, le, eqb-false (all w) (all x) k))
              | inr k ↦ inr (le, ltb-false w.len x.len k)
            ] in
            record { window = Some x; is = ap (λ t. cond t (Some (merge w)) (Some (merge x))) e; best = old_at _ _ (length next) i x w p q s }
      ]

-- a turn of the pass, for the hidden numbers that the marks stand for
module _ {K T : Type 0} {cmp : K → K → Ordering} (laws : Laws cmp) (spans : T → KeyRange K) (curr next : List T) (curr_ok : sorted cmp spans curr ≡ true) (next_ok : sorted cmp spans next ≡ true)
    (bytes named : T → ℕ) (hs : List ℕ) (target : ℕ) (cm nm : List Bool) (curr_marked : Marked named hs curr cm) (next_marked : Marked named hs next nm) where
  abbrev L : ℕ → Edge
  L s = left_of cmp spans curr next bytes cm nm s

  abbrev R : ℕ → Edge
  R e = right_of cmp spans curr next bytes cm nm e

  hidden_own : (s n e : ℕ) → e ≡ s + suc n → e ≤ length next → hidden_among named hs (tables_of (win s (suc n)) next) ≡ marked_at nm e - marked_at nm s
  hidden_own s n e q h = marks_window named hs next nm next_marked s (suc n) (omega arith) ∙ ap (λ k. marked_at nm k - marked_at nm s) (sym q)

  hidden_contained : (s n e : ℕ) → e ≡ s + suc n → e ≤ length next → hidden_among named hs (contained cmp spans curr next (win s (suc n))) ≡ marked_at cm (ended cmp spans curr next e) - marked_at cm (begun cmp spans curr next s)
  hidden_contained s n e q h =
      ap (hidden_among named hs) (contained_is laws spans curr next curr_ok next_ok s n e q h)
      ∙ marks_between named hs curr cm curr_marked (begun cmp spans curr next s) (ended cmp spans curr next e) (place_within laws spans Min Min Before curr next s) (ended_within laws spans curr next e)

  is_admissible : (s len e : ℕ) → 0 < len → e ≡ s + len → e ≤ length next → admissible cmp spans bytes named hs curr next target (win s len) ≡ allowed (50 * target) (L s) (R e)
  unfolding admissible
  is_admissible s zero e z q h = absurd (omega arith)
  is_admissible s (suc n) e z q h =
      rw (sum_own laws spans curr next curr_ok next_ok s n e q h bytes, hidden_own s n e q h, sum_contained laws spans curr next curr_ok next_ok s n e q h bytes, hidden_contained s n e q h) refl

  is_cost : (s len e : ℕ) → 0 < len → e ≡ s + len → e ≤ length next → cost cmp spans curr next bytes (win s len) ≡ ((R e).next.sum - (L s).next.sum) + ((R e).curr.sum - (L s).curr.sum)
  unfolding cost
  is_cost s zero e z q h = absurd (omega arith)
  is_cost s (suc n) e z q h = rw (sum_own laws spans curr next curr_ok next_ok s n e q h bytes, sum_contained laws spans curr next curr_ok next_ok s n e q h bytes) refl

  is_merging : (s len e : ℕ) → 0 < len → e ≡ s + len → e ≤ length next → merging cmp spans curr next bytes (win s len) ≡ merged (L s) (R e)
  unfolding merging
  is_merging s zero e z q h = absurd (omega arith)
  is_merging s (suc n) e z q h =
      let own : suc n ≡ e - s = omega arith in
      ap (λ k. record { next = win s k; curr = win (begun_before cmp spans curr next (win s (suc n))) (length (contained cmp spans curr next (win s (suc n)))); bytes = cost cmp spans curr next bytes (win s (suc n)) }) own
      ∙ ap (λ k. record { next = win s (e - s); curr = win k (length (contained cmp spans curr next (win s (suc n)))); bytes = cost cmp spans curr next bytes (win s (suc n)) }) (place_contained laws spans curr next curr_ok next_ok s n e q h)
      ∙ ap (λ k. record { next = win s (e - s); curr = win (begun cmp spans curr next s) k; bytes = cost cmp spans curr next bytes (win s (suc n)) }) (length_contained laws spans curr next curr_ok next_ok s n e q h)
      ∙ ap (λ k. record { next = win s (e - s); curr = win (begun cmp spans curr next s) (ended cmp spans curr next e - begun cmp spans curr next s); bytes = k }) (is_cost s (suc n) e z q h)

  rises : Rises R
  rises = record {
    next_sum = λ i j h. sum_mono bytes next i j h;
    next_hidden = λ i j h. marked_mono nm i j h;
    curr_sum = λ i j h. sum_mono bytes curr _ _ (ended_mono laws spans curr next next_ok i j h);
    curr_hidden = λ i j h. marked_mono cm _ _ (ended_mono laws spans curr next next_ok i j h);
  }

  module _ (i e : ℕ) (p : Shortest cmp spans curr next bytes cm nm i e) (b : Option Merging) (found : MergeTo cmp spans bytes named hs curr next target i b) where
    pub turn_bars : allowed (50 * target) (L i) (R e) ≡ false → MergeTo cmp spans bytes named hs curr next target (i + 1) b
    turn_bars bad = record {
      window = found.window;
      is = found.is;
      best = none_at _ _ (length next) i found.window found.best
          (all_barred (50 * target) (length next) (admissible cmp spans bytes named hs curr next target) (cost cmp spans curr next bytes) L R is_admissible is_cost rises i e p.past p.lights.within p.lights.light p.reaches (is_admissible i (e - i) e (omega (arith, p.past)) (omega (arith, p.past)) p.lights.within ∙ bad));
    }

    pub turn_finds : allowed (50 * target) (L i) (R e) ≡ true → MergeTo cmp spans bytes named hs curr next target (i + 1) (sooner b (merged (L i) (R e)))
    turn_finds good =
        let q = shortest_best (50 * target) (length next) (admissible cmp spans bytes named hs curr next target) (cost cmp spans curr next bytes) L R is_admissible is_cost rises i e p.past p.lights.within p.lights.light (is_admissible i (e - i) e (omega (arith, p.past)) (omega (arith, p.past)) p.lights.within ∙ good) in
        let m = is_merging i (e - i) e (omega (arith, p.past)) (omega (arith, p.past)) p.lights.within in
        rw (found.is, sym m) (at_sooner cmp spans bytes named hs curr next target i found.window (win i (e - i)) found.best q)
