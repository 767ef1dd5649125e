-- One pass over a run finds the longest movable window.
use Rattle.std.proofs.Common.{◌≡◌, ℕ, zero, suc, ◌+◌, ◌-◌, ◌<◌, ◌≤◌, Bool, true, ◌&&◌, eqb, ltb, ◌⊎◌, List, length, Some, None, count_by, Option, Ordering, sym, refl, ap, ◌∙◌, subst, inl, inr, arith}
use Rattle.std.proofs.lemmas.Bool.{cases_Bool, cases_lt, both_ways, and_parts, and_from, eqb-true, eq-eqb, ltb-true, ltb-false}
use Rattle.keys.specs.declared.key_range.KeyRange.{KeyRange}
use Rattle.runs.specs.Search.{Min, Max, Before, UpTo}
use Rattle.keys.specs.KeyKind.{Laws}
use Rattle.runs.specs.Run.{sorted, span_of}
use Rattle.windows.specs.declared.slice_windows.Window.{Window}
use Rattle.windows.specs.SliceWindows.{win, tables_of, Within, Longer}
use Rattle.picks.specs.Marks.{Marked}
use Rattle.picks.specs.Movable.{longer, meets_span, movable, longest_movable}
use Rattle.picks.proofs.Bests.{IsBest, Best, best_unique, longest_best, longer_total}
use Rattle.picks.proofs.Counts.{marked_at, marks_window, marked_mono}
use Rattle.picks.specs.Edges.{place}
use Rattle.picks.proofs.Places.{met_places, place_mono, place_before_upto}

-- the best of the windows that end up to i, and then up to i + 1
module _ (ok : Window → Bool) where
  abbrev pub BestUpTo : ℕ → Option Window → Type 0
  BestUpTo i o = Best ok (λ v. 0) (Within i) Longer o

  not_before : (i : ℕ) (w v : Window) → IsBest ok (λ v. 0) (Within i) Longer w → Within i v → ok v ≡ true → v.len ≤ w.len
  not_before i w v p r e = elim (cases_lt w.len v.len) [ inl l ↦ absurd (omega (arith, p.first v r e (inl l))) | inr l ↦ l ]

  -- nothing that ends at i + 1 passes
  pub none_more : (i : ℕ) (o : Option Window) → BestUpTo i o → ((v : Window) → 0 < v.len → v.start + v.len ≡ i + 1 → ok v ≡ true → ⊥) → BestUpTo (i + 1) o
  none_more i None p f = λ v r. elim (cases_lt (v.start + v.len) (i + 1)) [
    | inl l ↦ p v (record { some = r.some; ends = omega arith })
    | inr l ↦ elim (cases_Bool (ok v)) [ inl y ↦ absurd (f v r.some (omega (arith, r.ends)) y) | inr y ↦ y ]
  ]
  none_more i (Some w) p f = record {
    here = record { some = p.here.some; ends = omega (arith, p.here.ends) };
    passes = p.passes;
    least = λ v r y. omega arith;
    first = λ v r y l. elim (cases_lt (v.start + v.len) (i + 1)) [ inl h ↦ p.first v (record { some = r.some; ends = omega arith }) y l | inr h ↦ absurd (f v r.some (omega (arith, r.ends)) y) ];
  }

  -- the longest that ends at i + 1 is a window from a place on
  module _ (i from len : ℕ) (e : from + len ≡ i + 1) (z : 0 < len) (passes : ok (win from len) ≡ true) (f : (v : Window) → 0 < v.len → v.start + v.len ≡ i + 1 → ok v ≡ true → from ≤ v.start) where
    new_best : ((v : Window) → Within i v → ok v ≡ true → v.len < len) → IsBest ok (λ v. 0) (Within (i + 1)) Longer (win from len)
    new_best old = record {
      here = record { some = omega arith; ends = omega arith };
      passes = passes;
      least = λ v r q. omega arith;
      first = λ v r q l. absurd (elim (cases_lt (v.start + v.len) (i + 1)) [
        | inl k ↦ let s = old v (record { some = r.some; ends = omega arith }) q in elim l [ inl m ↦ omega arith | inr m ↦ omega (arith, m.0) ]
        | inr k ↦ let s : from ≤ v.start = f v r.some (omega (arith, r.ends)) q in elim l [ inl m ↦ omega (arith, r.ends) | inr m ↦ omega (arith, m.1) ]
      ]);
    }

    old_best : (b : Window) → IsBest ok (λ v. 0) (Within i) Longer b → len ≤ b.len → IsBest ok (λ v. 0) (Within (i + 1)) Longer b
    old_best b p h = record {
      here = record { some = p.here.some; ends = omega (arith, p.here.ends) };
      passes = p.passes;
      least = λ v r y. omega arith;
      first = λ v r y l. absurd (elim (cases_lt (v.start + v.len) (i + 1)) [
        | inl k ↦ omega (arith, p.first v (record { some = r.some; ends = omega arith }) y l)
        | inr k ↦ let s : from ≤ v.start = f v r.some (omega (arith, r.ends)) y in elim l [ inl m ↦ omega (arith, r.ends) | inr m ↦ omega (arith, p.here.ends, r.ends, m.0, m.1) ]
      ]);
    }

    pub longer_more : (o : Option Window) → BestUpTo i o → BestUpTo (i + 1) (longer o (win from len))
    longer_more None p = new_best (λ v r y. absurd (both_ways _ (p v r) y))
    longer_more (Some b) p = elim (cases_Bool (ltb b.len len)) [
      | inl c ↦ rw c (new_best (λ v r y. omega (arith, not_before i b v p r y, ltb-true _ _ c)))
      | inr c ↦ rw c (old_best b p (ltb-false _ _ c))
    ]

-- the windows that end at i: movable are those that start at `from` or behind it
module _ (H A B : ℕ → ℕ) where
  abbrev pub Mv : ℕ → ℕ → Type 0
  Mv s l = (H (l + 1) ≤ H s) × (B l ≤ A s)

  pub record Stretch (i from gap : ℕ) : Type 0 where
    pub low : from ≤ i
    pub runs : (s l : ℕ) → l + 1 ≡ i → from ≤ s → s ≤ l → Mv s l
    pub stops : (s l : ℕ) → l + 1 ≡ i → s < from → s ≤ l → Mv s l → ⊥
    pub is_gap : from < i → gap ≡ A from
    pub under : gap ≤ A i

  module _ (H_mono : (i j : ℕ) → i ≤ j → H i ≤ H j) (A_mono : (i j : ℕ) → i ≤ j → A i ≤ A j) (B_mono : (i j : ℕ) → i ≤ j → B i ≤ B j) (i from gap : ℕ) (p : Stretch i from gap) (A_B : (k : ℕ) → k ≤ i → A k ≤ B k) where
    pub stretch_blocked : (H i < H (i + 1)) ⊎ (A i < B i) → Stretch (i + 1) (i + 1) gap
    stretch_blocked why = record {
      low = omega arith;
      runs = λ s l e a b. absurd (omega arith);
      stops = λ s l e a b m.
          let q : l ≡ i = omega arith in
          elim why [
            | inl h ↦ omega (arith, m.0, ap (λ k. H (k + 1)) q, H_mono s i (omega arith))
            | inr h ↦ omega (arith, m.1, ap B q, A_mono s i (omega arith))
          ];
      is_gap = λ h. absurd (omega arith);
      under = omega (arith, p.under, A_mono i (i + 1) (omega arith));
    }

    -- a window up to i is movable only if it is so without its last table
    less : (s l k : ℕ) → l ≡ i → k + 1 ≡ i → s ≤ k → Mv s l → Mv s k
    less s l k e f h m =
        (omega (arith, m.0, ap (λ x. H (x + 1)) e, H_mono (k + 1) (i + 1) (omega arith)), omega (arith, m.1, ap B e, B_mono k i (omega arith)))

    pub stretch_fresh : H (i + 1) ≤ H i → B i ≤ A i → (from ≡ i) ⊎ (gap < A i) → Stretch (i + 1) i (A i)
    stretch_fresh free clear why = record {
      low = omega arith;
      runs = λ s l e a b.
          let q : l ≡ i = omega arith in
          let r : s ≡ i = omega arith in
          (omega (arith, ap (λ k. H (k + 1)) q, ap H r), omega (arith, ap B q, ap A r));
      stops = λ s l e a b m.
          let q : l ≡ i = omega arith in
          let k : i - 1 + 1 ≡ i = omega arith in
          elim (cases_lt s from) [
            | inl h ↦ p.stops s (i - 1) k h (omega arith) (less s l (i - 1) q k (omega arith) m)
            | inr h ↦ elim why [
              | inl x ↦ omega arith
              | inr x ↦
                  let old = p.runs from (i - 1) k (omega arith) (omega arith) in
                  omega (arith, old.1, m.1, ap B q, p.is_gap (omega arith), A_mono s (i - 1) (omega arith), A_B (i - 1) (omega arith))
            ]
          ];
      is_gap = λ h. refl;
      under = A_mono i (i + 1) (omega arith);
    }

    pub stretch_grown : H (i + 1) ≤ H i → B i ≤ A i → from < i → A i ≤ gap → Stretch (i + 1) from gap
    stretch_grown free clear h g = record {
      low = omega arith;
      runs = λ s l e a b.
          let q : l ≡ i = omega arith in
          elim (cases_lt s i) [
            | inl x ↦
                let k : i - 1 + 1 ≡ i = omega arith in
                let old = p.runs s (i - 1) k a (omega arith) in
                (omega (arith, old.0, ap H k, ap (λ x. H (x + 1)) q), omega (arith, ap B q, p.is_gap h, A_mono from s a))
            | inr x ↦
                let r : s ≡ i = omega arith in
                (omega (arith, ap (λ k. H (k + 1)) q, ap H r), omega (arith, ap B q, ap A r))
          ];
      stops = λ s l e a b m.
          let q : l ≡ i = omega arith in
          let k : i - 1 + 1 ≡ i = omega arith in
          p.stops s (i - 1) k a (omega arith) (less s l (i - 1) q k (omega arith) m);
      is_gap = λ x. p.is_gap h;
      under = omega (arith, p.under, A_mono i (i + 1) (omega arith));
    }

-- how far the next level reaches at a table of the level: what ends before it begins, and what begins before it ends
module _ {K T : Type 0} (cmp : K → K → Ordering) (spans : T → KeyRange K) (curr next : List T) where
  abbrev pub from_at : ℕ → ℕ
  from_at s = place cmp spans Min Max Before next curr s

  abbrev pub to_at : ℕ → ℕ
  to_at l = place cmp spans Max Min UpTo next curr l

module _ {K T : Type 0} {cmp : K → K → Ordering} (laws : Laws cmp) (spans : T → KeyRange K) (curr next : List T) (curr_ok : sorted cmp spans curr ≡ true) (next_ok : sorted cmp spans next ≡ true) (marks : List Bool) where
  abbrev A : ℕ → ℕ
  A s = from_at cmp spans curr next s

  abbrev B : ℕ → ℕ
  B l = to_at cmp spans curr next l

  abbrev Now : ℕ → ℕ → ℕ → Type 0
  Now i from gap = Stretch (marked_at marks) A B i from gap

  A_up : (j k : ℕ) → j ≤ k → A j ≤ A k
  A_up j k l = place_mono laws spans Min Max Before next curr j k curr_ok l

  B_up : (j k : ℕ) → j ≤ k → B j ≤ B k
  B_up j k l = place_mono laws spans Max Min UpTo next curr j k curr_ok l

  A_B : (k : ℕ) → A k ≤ B k
  A_B k = place_before_upto laws spans next curr k next_ok curr_ok

  -- a turn of the pass
  module _ (i from gap : ℕ) (p : Now i from gap) where
    -- where the stretch begins with what stands at i: there, if the gap before it is a new one
    pub turn_runs : marked_at marks (i + 1) ≤ marked_at marks i → B i ≤ A i
        → (f' g' : ℕ) → ((gap < A i) × ((f' ≡ i) × (g' ≡ A i))) ⊎ ((A i ≤ gap) × ((f' ≡ from) × (g' ≡ gap))) → Now (i + 1) f' g'
    turn_runs free clear f' g' way =
        elim way [
          | inl w ↦ rw w.1.0 (rw w.1.1 (stretch_fresh _ _ _ (marked_mono marks) A_up B_up i from gap p (λ k l. A_B k) free clear (inr w.0)))
          | inr w ↦ elim (cases_lt from i) [
            | inl l ↦ rw w.1.0 (rw w.1.1 (stretch_grown _ _ _ (marked_mono marks) A_up B_up i from gap p (λ k l. A_B k) free clear l w.0))
            | inr l ↦
                let e : f' ≡ i = omega (arith, w.1.0, p.low) in
                let k : g' ≡ A i = omega (arith, w.0, w.1.1, p.under) in
                rw e (rw k (stretch_fresh _ _ _ (marked_mono marks) A_up B_up i from gap p (λ k l. A_B k) free clear (inl (omega (arith, p.low)))))
          ]
        ]

    -- where what stands at i bars every window over it
    pub turn_stops : (marked_at marks i < marked_at marks (i + 1)) ⊎ (A i < B i) → (g' : ℕ) → g' ≤ A i → Now (i + 1) (i + 1) g'
    turn_stops why g' l =
        let q = stretch_blocked _ _ _ (marked_mono marks) A_up B_up i from gap p (λ k l. A_B k) why in
        record { low = omega arith; runs = q.runs; stops = q.stops; is_gap = λ z. absurd (omega arith); under = omega (arith, A_up i (i + 1) (omega arith)) }

  -- movable, by places, for the hidden numbers that the marks stand for
  module _ (named : T → ℕ) (hs : List ℕ) (marked : Marked named hs curr marks) where
    abbrev ok : Window → Bool
    ok w = movable cmp spans named hs curr next w

    movable_is : (s n l : ℕ) → l ≡ s + n → l < length curr → ok (win s (suc n)) ≡ (eqb (marked_at marks (s + suc n) - marked_at marks s) 0 && eqb (B l - A s) 0)
    unfolding movable
    movable_is s n l e h =
        ap (λ x. eqb x 0 && eqb (count_by (meets_span cmp spans (span_of cmp spans (tables_of (win s (suc n)) curr))) next) 0) (marks_window named hs curr marks marked s (suc n) (omega arith))
        ∙ ap (λ x. eqb (marked_at marks (s + suc n) - marked_at marks s) 0 && eqb x 0) (met_places laws spans curr next curr_ok next_ok s n l e h)

    at_gives : (s len l : ℕ) → 0 < len → l + 1 ≡ s + len → l < length curr → ok (win s len) ≡ true → Mv (marked_at marks) A B s l
    at_gives s zero l z e h y = absurd (omega arith)
    at_gives s (suc n) l z e h y =
        let q = and_parts (eqb (marked_at marks (s + suc n) - marked_at marks s) 0) (eqb (B l - A s) 0) (sym (movable_is s n l (omega arith) h) ∙ y) in
        let k = ap (marked_at marks) e in
        (omega (arith, k, eqb-true _ _ q.0), omega (arith, eqb-true _ _ q.1))

    movable_from : (s len l : ℕ) → 0 < len → l + 1 ≡ s + len → l < length curr → Mv (marked_at marks) A B s l → ok (win s len) ≡ true
    movable_from s zero l z e h m = absurd (omega arith)
    movable_from s (suc n) l z e h m =
        let k = ap (marked_at marks) e in
        let a : marked_at marks (s + suc n) - marked_at marks s ≡ 0 = omega (arith, k, m.0) in
        let b : B l - A s ≡ 0 = omega (arith, m.1) in
        movable_is s n l (omega arith) h ∙ and_from _ _ (eq-eqb _ _ a) (eq-eqb _ _ b)

    -- the best so far, one table further
    module _ (i : ℕ) (h : i < length curr) (from gap : ℕ) (p : Now (i + 1) from gap) (o : Option Window) (q : BestUpTo ok i o) where
      starts : (v : Window) → 0 < v.len → v.start + v.len ≡ i + 1 → ok v ≡ true → from ≤ v.start
      starts v z e y = elim (cases_lt v.start from) [
        | inl l ↦ absurd (p.stops v.start i refl l (omega arith) (at_gives v.start v.len i z (sym e) h y))
        | inr l ↦ l
      ]

      pub turn_keeps : from ≡ i + 1 → BestUpTo ok (i + 1) o
      turn_keeps l = none_more ok i o q (λ v z e y. omega (arith, starts v z e y))

      pub turn_takes : from ≤ i → BestUpTo ok (i + 1) (longer o (win from (i + 1 - from)))
      turn_takes f =
          longer_more ok i from (i + 1 - from) (omega arith) (omega arith)
          (movable_from from (i + 1 - from) i (omega arith) (omega arith) h (p.runs from i refl (omega arith) f)) starts o q

-- what the whole pass has found
pub found_all : {K T : Type 0} (cmp : K → K → Ordering) (spans : T → KeyRange K) (named : T → ℕ) (hs : List ℕ) (curr next : List T) (i : ℕ) (o : Option Window) → i ≡ length curr
    → BestUpTo (movable cmp spans named hs curr next) i o → o ≡ longest_movable cmp spans named hs curr next
found_all cmp spans named hs curr next i o e p =
    let ok = movable cmp spans named hs curr next in
    best_unique ok (λ v. 0) (Within (length curr)) Longer longer_total o (longest_movable cmp spans named hs curr next)
    (subst (λ (n : ℕ). BestUpTo ok n o) e p) (longest_best ok (length curr))
