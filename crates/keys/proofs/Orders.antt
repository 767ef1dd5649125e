-- What the laws of a key kind give of `is_lt`.
use Rattle.std.proofs.Common.{◌≡◌, ℕ, true, false, Ordering, Less, Equal, Greater, sym, refl, ap, ◌∙◌, arith}
use Rattle.std.specs.Ordering.{is_lt, ordering_reverse}
use Rattle.keys.specs.KeyKind.{Laws}

pub less_from : (o : Ordering) → is_lt o ≡ true → o ≡ Less
less_from Less e = refl
less_from Equal e = absurd (let z : ◌≡◌ {A = ℕ} 0 1 = cc in omega arith)
less_from Greater e = absurd (let z : ◌≡◌ {A = ℕ} 0 1 = cc in omega arith)

module _ {K : Type 0} {cmp : K → K → Ordering} (laws : Laws cmp) where
  pub lt_chain : (a b c : K) → is_lt (cmp a b) ≡ true → is_lt (cmp b c) ≡ true → is_lt (cmp a c) ≡ true
  lt_chain a b c p q = ap is_lt (laws.chains a b c (less_from (cmp a b) p) (less_from (cmp b c) q))

  at_lt_le : (a b c : K) (o : Ordering) → cmp b c ≡ o → is_lt (cmp a b) ≡ true → is_lt (cmp c b) ≡ false → is_lt (cmp a c) ≡ true
  at_lt_le a b c Less e p q = lt_chain a b c p (ap is_lt e)
  at_lt_le a b c Equal e p q =
      let f = laws.flips b a in
      let k = laws.flips c a in
      let l = laws.alike b c a e in
      let h : cmp a c ≡ cmp a b = k ∙ ap ordering_reverse (sym l) ∙ sym f in
      ap is_lt h ∙ p
  at_lt_le a b c Greater e p q =
      let f = laws.flips b c in
      let g : is_lt (cmp c b) ≡ true = ap is_lt (f ∙ ap ordering_reverse e) in
      absurd (let z : ◌≡◌ {A = ℕ} 0 1 = cc in omega arith)

  -- a is before b, and c is not before b
  pub lt_le : (a b c : K) → is_lt (cmp a b) ≡ true → is_lt (cmp c b) ≡ false → is_lt (cmp a c) ≡ true
  lt_le a b c p q = at_lt_le a b c (cmp b c) refl p q

  at_le_lt : (a b c : K) (o : Ordering) → cmp a b ≡ o → is_lt (cmp b a) ≡ false → is_lt (cmp b c) ≡ true → is_lt (cmp a c) ≡ true
  at_le_lt a b c Less e p q = lt_chain a b c (ap is_lt e) q
  at_le_lt a b c Equal e p q = ap is_lt (laws.alike a b c e) ∙ q
  at_le_lt a b c Greater e p q =
      let g : is_lt (cmp b a) ≡ true = ap is_lt (laws.flips a b ∙ ap ordering_reverse e) in
      absurd (let z : ◌≡◌ {A = ℕ} 0 1 = cc in omega arith)

  -- b is not before a, and is before c
  pub le_lt : (a b c : K) → is_lt (cmp b a) ≡ false → is_lt (cmp b c) ≡ true → is_lt (cmp a c) ≡ true
  le_lt a b c p q = at_le_lt a b c (cmp a b) refl p q

  -- a is before b, so b is not before a
  pub lt_not : (a b : K) → is_lt (cmp a b) ≡ true → is_lt (cmp b a) ≡ false
  lt_not a b e = ap is_lt (laws.flips a b ∙ ap ordering_reverse (less_from (cmp a b) e))
