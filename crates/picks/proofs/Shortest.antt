-- For each start only the shortest window that contains any weight matters: longer ones never get cheaper, and what bars it bars them.
use Rattle.std.proofs.Common.{◌≡◌, ℕ, ◌+◌, ◌-◌, ◌<◌, ◌≤◌, Bool, true, false, ◌&&◌, eqb, ltb, leb, ◌⊎◌, Some, None, Option, sym, refl, ap, ◌∙◌, inl, inr, arith}
use Rattle.std.proofs.lemmas.Bool.{cases_Bool, cases_lt, both_ways, and_parts, and_from, eqb-true, eq-eqb, leb-true, le-leb, ltb-true, lt-ltb}
use Rattle.windows.specs.declared.slice_windows.Window.{Window}
use Rattle.windows.specs.SliceWindows.{win, Within, Shorter}
use Rattle.picks.specs.declared.edges.Edge.{Edge}
use Rattle.picks.specs.Edges.{allowed}
use Rattle.picks.proofs.Bests.{IsBest, Best}

-- what a window is that is allowed between two edges
pub record Allowed (cap : ℕ) (left right : Edge) : Type 0 where
  pub size : right.next.sum - left.next.sum ≤ cap
  pub shows : right.next.hidden ≤ left.next.hidden
  pub weighs : left.curr.sum < right.curr.sum
  pub free : right.curr.hidden ≤ left.curr.hidden

module _ (cap : ℕ) (l r : Edge) where
  pub allowed_gives : allowed cap l r ≡ true → Allowed cap l r
  allowed_gives e =
      let a = and_parts (leb (r.next.sum - l.next.sum) cap) (eqb (r.next.hidden - l.next.hidden) 0 && (ltb 0 (r.curr.sum - l.curr.sum) && eqb (r.curr.hidden - l.curr.hidden) 0)) e in
      let b = and_parts (eqb (r.next.hidden - l.next.hidden) 0) (ltb 0 (r.curr.sum - l.curr.sum) && eqb (r.curr.hidden - l.curr.hidden) 0) a.1 in
      let d = and_parts (ltb 0 (r.curr.sum - l.curr.sum)) (eqb (r.curr.hidden - l.curr.hidden) 0) b.1 in
      record { size = leb-true _ _ a.0; shows = omega (arith, eqb-true _ _ b.0); weighs = omega (arith, ltb-true _ _ d.0); free = omega (arith, eqb-true _ _ d.1) }

  allowed_from : Allowed cap l r → allowed cap l r ≡ true
  allowed_from p =
      let a : r.next.hidden - l.next.hidden ≡ 0 = omega (arith, p.shows) in
      let b : 0 < r.curr.sum - l.curr.sum = omega (arith, p.weighs) in
      let d : r.curr.hidden - l.curr.hidden ≡ 0 = omega (arith, p.free) in
      and_from _ _ (le-leb _ _ p.size) (and_from _ _ (eq-eqb _ _ a) (and_from _ _ (lt-ltb _ _ b) (eq-eqb _ _ d)))

-- the best of the windows that start before i, one start further: the better of two goes by cost and then by length
module _ (ok : Window → Bool) (cost : Window → ℕ) (n : ℕ) where
  -- the windows that start before i, and those that start at i
  abbrev pub From : ℕ → Window → Type 0
  From i v = Within n v × (v.start < i)

  abbrev pub At : ℕ → Window → Type 0
  At i v = Within n v × (v.start ≡ i)

  -- what is left of windows that start up to i
  pub split : (i : ℕ) (v : Window) → From (i + 1) v → From i v ⊎ At i v
  split i v r = elim (cases_lt v.start i) [ inl l ↦ inl (r.0, l) | inr l ↦ inr (r.0, omega arith) ]

  pub none_at : (i : ℕ) (o : Option Window) → Best ok cost (From i) Shorter o → ((v : Window) → At i v → ok v ≡ false) → Best ok cost (From (i + 1)) Shorter o
  none_at i None p f = λ v r. elim (split i v r) [ inl a ↦ p v a | inr b ↦ f v b ]
  none_at i (Some w) p f = record {
    here = (p.here.0, omega (arith, p.here.1));
    passes = p.passes;
    least = λ v r e. elim (split i v r) [ inl a ↦ p.least v a e | inr b ↦ absurd (both_ways _ (f v b) e) ];
    first = λ v r e l. elim (split i v r) [ inl a ↦ p.first v a e l | inr b ↦ absurd (both_ways _ (f v b) e) ];
  }

  abbrev pub Sooner : Window → Window → Type 0
  Sooner y x = (cost y < cost x) ⊎ ((cost y ≡ cost x) × (y.len < x.len))

  pub first_at : (i : ℕ) (y : Window) → Best ok cost (From i) Shorter None → IsBest ok cost (At i) Shorter y → IsBest ok cost (From (i + 1)) Shorter y
  first_at i y p q = record {
    here = (q.here.0, omega (arith, q.here.1));
    passes = q.passes;
    least = λ v r e. elim (split i v r) [ inl a ↦ absurd (both_ways _ (p v a) e) | inr b ↦ q.least v b e ];
    first = λ v r e l. elim (split i v r) [ inl a ↦ absurd (both_ways _ (p v a) e) | inr b ↦ q.first v b e l ];
  }

  pub new_at : (i : ℕ) (x y : Window) → IsBest ok cost (From i) Shorter x → IsBest ok cost (At i) Shorter y → Sooner y x → IsBest ok cost (From (i + 1)) Shorter y
  new_at i x y p q s = record {
    here = (q.here.0, omega (arith, q.here.1));
    passes = q.passes;
    least = λ v r e. elim (split i v r) [ inl a ↦ elim s [ inl k ↦ omega (arith, p.least v a e) | inr k ↦ omega (arith, p.least v a e, k.0) ] | inr b ↦ q.least v b e ];
    first = λ v r e l. elim (split i v r) [
      | inl a ↦ elim s [
        | inl k ↦ omega (arith, p.least v a e)
        | inr k ↦
            let z : Shorter v x = elim l [ inl m ↦ inl (omega (arith, k.1)) | inr m ↦ inl (omega (arith, k.1, m.0)) ] in
            omega (arith, p.first v a e z, k.0)
      ]
      | inr b ↦ q.first v b e l
    ];
  }

  pub old_at : (i : ℕ) (x y : Window) → IsBest ok cost (From i) Shorter x → IsBest ok cost (At i) Shorter y → (cost x < cost y) ⊎ ((cost x ≤ cost y) × (x.len ≤ y.len)) → IsBest ok cost (From (i + 1)) Shorter x
  old_at i x y p q s = record {
    here = (p.here.0, omega (arith, p.here.1));
    passes = p.passes;
    least = λ v r e. elim (split i v r) [ inl a ↦ p.least v a e | inr b ↦ elim s [ inl k ↦ omega (arith, q.least v b e) | inr k ↦ omega (arith, q.least v b e, k.0) ] ];
    first = λ v r e l. elim (split i v r) [
      | inl a ↦ p.first v a e l
      | inr b ↦ elim s [
        | inl k ↦ omega (arith, q.least v b e)
        | inr k ↦ elim l [
          | inl m ↦ let z : Shorter v y = inl (omega (arith, k.1)) in omega (arith, q.first v b e z, k.0)
          | inr m ↦ absurd (omega (arith, m.1, b.1, p.here.1))
        ]
      ]
    ];
  }

-- edges that reach farther hold no less
pub record Rises (R : ℕ → Edge) : Type 0 where
  pub next_sum : (i j : ℕ) → i ≤ j → (R i).next.sum ≤ (R j).next.sum
  pub next_hidden : (i j : ℕ) → i ≤ j → (R i).next.hidden ≤ (R j).next.hidden
  pub curr_sum : (i j : ℕ) → i ≤ j → (R i).curr.sum ≤ (R j).curr.sum
  pub curr_hidden : (i j : ℕ) → i ≤ j → (R i).curr.hidden ≤ (R j).curr.hidden

-- the window from i to e, where e is the first end at which it contains any weight, or the last
module _ (cap n : ℕ) (ok : Window → Bool) (cost : Window → ℕ) (L R : ℕ → Edge)
    (ok_is : (s len e : ℕ) → 0 < len → e ≡ s + len → e ≤ n → ok (win s len) ≡ allowed cap (L s) (R e))
    (cost_is : (s len e : ℕ) → 0 < len → e ≡ s + len → e ≤ n → cost (win s len) ≡ ((R e).next.sum - (L s).next.sum) + ((R e).curr.sum - (L s).curr.sum))
    (up : Rises R) (i e : ℕ) (past : i < e) (within : e ≤ n) (light : (k : ℕ) → i < k → k < e → (R k).curr.sum ≤ (L i).curr.sum) where
  gives : (v : Window) → At ok cost n i v → ok v ≡ true → Allowed cap (L v.start) (R (v.start + v.len))
  gives v r y = allowed_gives cap _ _ (sym (ok_is v.start v.len (v.start + v.len) r.0.some refl r.0.ends) ∙ y)

  later : (v : Window) → At ok cost n i v → ok v ≡ true → e ≤ i + v.len
  later v r y = elim (cases_lt (i + v.len) e) [
    | inl l ↦
        let q : v.start + v.len ≡ i + v.len = omega (arith, r.1) in
        absurd (omega (arith, (gives v r y).weighs, light (i + v.len) (omega (arith, r.0.some)) l, ap (λ k. (R k).curr.sum) q, ap (λ k. (L k).curr.sum) r.1))
    | inr l ↦ l
  ]

  -- what bars the shortest bars the longer ones
  pub all_barred : (((L i).curr.sum < (R e).curr.sum) ⊎ (n ≤ e)) → ok (win i (e - i)) ≡ false → (v : Window) → At ok cost n i v → ok v ≡ false
  all_barred reach bad v r = elim (cases_Bool (ok v)) [
    | inl y ↦
        let l = later v r y in
        let a = gives v r y in
        let t = v.start + v.len in
        let h : e ≤ t = omega (arith, r.1) in
        let w : (L i).curr.sum < (R e).curr.sum = elim reach [
          | inl x ↦ x
          | inr x ↦
              let z : t ≡ e = omega (arith, r.0.ends) in
              omega (arith, a.weighs, ap (λ k. (R k).curr.sum) z, ap (λ k. (L k).curr.sum) r.1)
        ] in
        let b : Allowed cap (L i) (R e) = record {
          size = omega (arith, a.size, up.next_sum e t h, ap (λ k. (L k).next.sum) r.1);
          shows = omega (arith, a.shows, up.next_hidden e t h, ap (λ k. (L k).next.hidden) r.1);
          weighs = w;
          free = omega (arith, a.free, up.curr_hidden e t h, ap (λ k. (L k).curr.hidden) r.1);
        } in
        absurd (both_ways _ bad (ok_is i (e - i) e (omega arith) (omega arith) within ∙ allowed_from cap (L i) (R e) b))
    | inr y ↦ y
  ]

  -- longer ones never get cheaper
  pub shortest_best : ok (win i (e - i)) ≡ true → IsBest ok cost (At ok cost n i) Shorter (win i (e - i))
  shortest_best y = record {
    here = (record { some = omega arith; ends = omega arith }, refl);
    passes = y;
    least = λ v r z.
        let l = later v r z in
        let h : e ≤ v.start + v.len = omega (arith, r.1) in
        omega (
          arith,
          cost_is v.start v.len (v.start + v.len) r.0.some refl r.0.ends,
          cost_is i (e - i) e (omega arith) (omega arith) within,
          up.next_sum e (v.start + v.len) h,
          up.curr_sum e (v.start + v.len) h,
          ap (λ k. (L k).next.sum) r.1,
          ap (λ k. (L k).curr.sum) r.1,
        );
    first = λ v r z l. absurd (elim l [ inl m ↦ omega (arith, later v r z) | inr m ↦ omega (arith, m.1, r.1) ]);
  }
