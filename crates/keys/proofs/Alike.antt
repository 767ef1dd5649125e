-- On values that are equal but for keys that compare alike, every definition gives alike.
use Rattle.std.proofs.Common.{◌≡◌, ℕ, zero, suc, Bool, true, false, cond, not, List, ◌++◌, map, length, take, drop, sum_by, count_by, filter, Ordering, refl, ap, subst, arith}
use Rattle.std.specs.Ordering.{is_lt}
use Rattle.std.proofs.lemmas.List.Sums.{sum_by-cons}
use Rattle.keys.specs.declared.key_range.KeyRange.{KeyRange}
use Rattle.std.specs.declared.ops.Bound.{Bound}
use Rattle.keys.specs.declared.bounds.OwnedBounds.{OwnedBounds}
use Rattle.keys.specs.Bounds.{starts_by, ends_by, within}
use Rattle.keys.specs.KeyRange.{meets, inside, wider}
use Rattle.keys.specs.Pairing.{Both, nil, cons, CompareAlike, TwinRange, TwinBound, unbounded, included, excluded, TwinBounds}

-- a test that comes out alike takes alike sides
pub cond_alike : {X Y : Type 0} (Q : X → Y → Type 0) (b b' : Bool) → b ≡ b' → (x x₂ : X) (y y₂ : Y) → Q x y → Q x₂ y₂ → Q (cond b x x₂) (cond b' y y₂)
cond_alike Q b b' e x x₂ y y₂ h k = subst (λ c. Q (cond b x x₂) (cond c y y₂)) e (elim b as (λ c. Q (cond c x x₂) (cond c y y₂)) [ true ↦ h | false ↦ k ])

-- ---- lists that pair
module _ {X Y : Type 0} (S : X → Y → Type 0) where
  pub length_alike : {xs : List X} {ys : List Y} → Both S xs ys → length xs ≡ length ys
  length_alike nil = refl
  length_alike (cons s r) = ap suc (length_alike r)

  pub take_alike : (n : ℕ) {xs : List X} {ys : List Y} → Both S xs ys → Both S (take n xs) (take n ys)
  take_alike zero r = nil
  take_alike (suc n) nil = nil
  take_alike (suc n) (cons s r) = cons s (take_alike n r)

  pub drop_alike : (n : ℕ) {xs : List X} {ys : List Y} → Both S xs ys → Both S (drop n xs) (drop n ys)
  drop_alike zero r = r
  drop_alike (suc n) nil = nil
  drop_alike (suc n) (cons s r) = drop_alike n r

  pub append_alike : {xs xs' : List X} {ys ys' : List Y} → Both S xs ys → Both S xs' ys' → Both S (xs ++ xs') (ys ++ ys')
  append_alike nil q = q
  append_alike (cons s r) q = cons s (append_alike r q)

  pub sum_alike : (f : X → ℕ) (g : Y → ℕ) → ((x : X) (y : Y) → S x y → f x ≡ g y) → {xs : List X} {ys : List Y} → Both S xs ys → sum_by f xs ≡ sum_by g ys
  sum_alike f g h nil = refl
  sum_alike f g h (cons {x} {y} {xs} {ys} s r) = omega (arith, sum_by-cons f x xs, sum_by-cons g y ys, h x y s, sum_alike f g h r)

  pub count_alike : (p : X → Bool) (q : Y → Bool) → ((x : X) (y : Y) → S x y → p x ≡ q y) → {xs : List X} {ys : List Y} → Both S xs ys → count_by p xs ≡ count_by q ys
  count_alike p q h r = sum_alike (λ x. cond (p x) 1 0) (λ y. cond (q y) 1 0) (λ x y s. ap (λ b. cond b 1 0) (h x y s)) r

  pub kept_alike : (p : X → Bool) (q : Y → Bool) → ((x : X) (y : Y) → S x y → p x ≡ q y) → {xs : List X} {ys : List Y} → Both S xs ys → Both S (filter p xs) (filter q ys)
  kept_alike p q h nil = nil
  kept_alike p q h (cons {x} {y} s r) = cond_alike (Both S) (p x) (q y) (h x y s) _ _ _ _ (cons s (kept_alike p q h r)) (kept_alike p q h r)

-- the same numbers, names or tests of what pairs
pub map_same : {X Y Z : Type 0} (S : X → Y → Type 0) (f : X → Z) (g : Y → Z) → ((x : X) (y : Y) → S x y → f x ≡ g y) → {xs : List X} {ys : List Y} → Both S xs ys → map f xs ≡ map g ys
map_same S f g h nil = refl
map_same S f g h (cons {x} {y} s r) = rw (h x y s, map_same S f g h r)

pub map_alike : {X Y X' Y' : Type 0} (S : X → Y → Type 0) (S' : X' → Y' → Type 0) (f : X → X') (g : Y → Y') → ((x : X) (y : Y) → S x y → S' (f x) (g y)) → {xs : List X} {ys : List Y} → Both S xs ys → Both S' (map f xs) (map g ys)
map_alike S S' f g h nil = nil
map_alike S S' f g h (cons {x} {y} s r) = cons (h x y s) (map_alike S S' f g h r)

-- ---- ranges and bounds
module _ {A B : Type 0} (cmp_a : A → A → Ordering) (cmp_b : B → B → Ordering) (R : A → B → Type 0) (alike : CompareAlike cmp_a cmp_b R) where
  pub lt_alike : {a a' : A} {b b' : B} → R a b → R a' b' → is_lt (cmp_a a a') ≡ is_lt (cmp_b b b')
  lt_alike r s = ap is_lt (alike _ _ _ _ r s)

  pub meets_alike : {r r' : KeyRange A} {s s' : KeyRange B} → TwinRange R r s → TwinRange R r' s' → meets cmp_a r r' ≡ meets cmp_b s s'
  meets_alike x y = rw (lt_alike x.max y.min, lt_alike y.max x.min)

  pub inside_alike : {r r' : KeyRange A} {s s' : KeyRange B} → TwinRange R r s → TwinRange R r' s' → inside cmp_a r r' ≡ inside cmp_b s s'
  inside_alike x y = rw (lt_alike y.min x.min, lt_alike x.max y.max)

  pub wider_alike : {r r' : KeyRange A} {s s' : KeyRange B} → TwinRange R r s → TwinRange R r' s' → TwinRange R (wider cmp_a r r') (wider cmp_b s s')
  wider_alike x y =
      record {
        min = cond_alike R _ _ (lt_alike y.min x.min) _ _ _ _ y.min x.min;
        max = cond_alike R _ _ (lt_alike x.max y.max) _ _ _ _ y.max x.max;
      }

  pub starts_alike : {l : Bound A} {m : Bound B} → TwinBound R l m → {a : A} {b : B} → R a b → starts_by cmp_a l a ≡ starts_by cmp_b m b
  starts_alike unbounded r = refl
  starts_alike (included q) r = ap not (lt_alike r q)
  starts_alike (excluded q) r = lt_alike q r

  pub ends_alike : {l : Bound A} {m : Bound B} → TwinBound R l m → {a : A} {b : B} → R a b → ends_by cmp_a l a ≡ ends_by cmp_b m b
  ends_alike unbounded r = refl
  ends_alike (included q) r = ap not (lt_alike q r)
  ends_alike (excluded q) r = lt_alike r q

  pub within_alike : {l : OwnedBounds A} {m : OwnedBounds B} → TwinBounds R l m → {r : KeyRange A} {s : KeyRange B} → TwinRange R r s → within cmp_a l r ≡ within cmp_b m s
  within_alike x y = rw (starts_alike x.start y.min, ends_alike x.end y.max)
