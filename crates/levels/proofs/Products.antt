-- With settings within their limits no product is an infinity, and no target size is 0.
use Rattle.std.proofs.Common.{◌≡◌, ℕ, zero, suc, ◌-◌, ◌*◌, ◌/◌, ◌^◌, ◌<◌, ◌≤◌, min, Bool, true, false, cond, T, eqb, ltb, List, [], ◌∷◌, length, get_or, pos, sym, refl, subst, lt_of_le_of_lt, le_of_lt, zero-lt-suc, mul-le-mul, mul-pos, le-div_iff_mul-le, mul-one, arith, lit<, ltb→lt}
use lib.Ieee.{Float, nan, inf, fin, binary32, up, down, round, of_int, mul, le, to_unsigned}
use lib.Ieee.Fits.{and_l, and_r, down_pos}
use lib.Ieee.Order.{round_mono}
use lib.Ieee.Positive.{positive, positive-finite, between, le→cross, mul_mono}
use Rattle.levels.specs.declared.settings.Settings.{Settings}
use Rattle.levels.specs.Rounding.{single}
use Rattle.levels.specs.Settings.{ratios_of, allowed, all_allowed}
use Rattle.levels.specs.Targets.{ratio_at, grown, base_size, product, target_at, AllFinite}
use Rattle.levels.proofs.Digits.{single_is}
use Rattle.levels.proofs.Limits.{Limits}

-- rounding keeps the order
single_mono : (a b : ℕ) → a ≤ b → T (le (single a) (single b))
single_mono a b h =
    subst (λ (z : Float). T (le z (single b))) (sym (single_is a))
    (subst (λ (z : Float). T (le (round binary32 false a 1) z)) (sym (single_is b)) (round_mono binary32 a 1 b 1 (zero-lt-suc 0) (zero-lt-suc 0) (cross a b h)))
  where
    cross : (a b : ℕ) → a ≤ b → a * 1 ≤ b * 1
    cross a b h = omega arith

-- ---- what bounds the products from above: 2 ^ 48 times 1,000.0, up to five times
abbrev most : ℕ → Float
most zero = single (2 ^ 48)
most (suc n) = mul binary32 (most n) (single 1000)

most_positive : (n : ℕ) → n ≤ 5 → T (positive (most n))
unfolding of_int mul
most_positive zero h = tt
most_positive (suc zero) h = tt
most_positive (suc (suc zero)) h = tt
most_positive (suc (suc (suc zero))) h = tt
most_positive (suc (suc (suc (suc zero)))) h = tt
most_positive (suc (suc (suc (suc (suc zero))))) h = tt
most_positive (suc (suc (suc (suc (suc (suc n)))))) h = absurd (omega arith)

one_positive : T (positive (single 1))
unfolding of_int
one_positive = tt

thousand_positive : T (positive (single 1000))
unfolding of_int
thousand_positive = tt

one_squared : mul binary32 (single 1) (single 1) ≡ single 1
unfolding of_int mul
one_squared = refl

ten_allowed : T (allowed (single 10))
unfolding of_int le
ten_allowed = tt

-- ---- each ratio that a product takes is in its limits
given_allowed : (rs : List Float) (i : ℕ) → T (all_allowed rs) → i < length rs → T (allowed (get_or rs i nan))
given_allowed [] i h l = absurd (omega arith)
given_allowed (r ∷ rs) zero h l = and_l (allowed r) (all_allowed rs) h
given_allowed (r ∷ rs) (suc i) h l = given_allowed rs i (and_r (allowed r) (all_allowed rs) h) (omega arith)

ratio_allowed : (rs : List Float) (i : ℕ) → T (all_allowed rs) → T (allowed (ratio_at rs i))
ratio_allowed rs i h = go (ltb i (length rs)) (ltb 0 (length rs)) (ltb→lt i (length rs)) (ltb→lt 0 (length rs))
  where
    before : (z : ℕ) → 0 < z → z - 1 < z
    before z h = omega arith

    go : (b c : Bool) → (T b → i < length rs) → (T c → 0 < length rs) → T (allowed (cond b (get_or rs i nan) (cond c (get_or rs (length rs - 1) nan) (single 10))))
    go true c f g = given_allowed rs i h (f tt)
    go false true f g = given_allowed rs (length rs - 1) h (before (length rs) (g tt))
    go false false f g = ten_allowed

-- ---- each product is at least 1.0, and finite
record Sized (y : Float) (n : ℕ) : Type 0 where
  pub low : T (le (single 1) y)
  pub high : T (le y (most n))

sized_positive : (y : Float) (n : ℕ) → n ≤ 5 → Sized y n → T (positive y)
sized_positive y n h s = between (single 1) y (most n) one_positive (most_positive n h) s.low s.high

times : (y r : Float) (n : ℕ) → suc n ≤ 5 → Sized y n → T (allowed r) → Sized (mul binary32 y r) (suc n)
times y r n h s a =
    let lo = and_l (le (single 1) r) (le r (single 1000)) a in
    let hi = and_r (le (single 1) r) (le r (single 1000)) a in
    let N : n ≤ 5 = omega arith in
    let p = sized_positive y n N s in
    let q = between (single 1) r (single 1000) one_positive thousand_positive lo hi in record {
      low = subst (λ (z : Float). T (le z (mul binary32 y r))) one_squared (mul_mono binary32 (single 1) y (single 1) r one_positive p one_positive q s.low lo);
      high = mul_mono binary32 y (most n) r (single 1000) p (most_positive n N) q thousand_positive s.high hi;
    }

grown_sized : (rs : List Float) (x n : ℕ) → T (all_allowed rs) → 0 < x → x ≤ 2 ^ 48 → n ≤ 5 → Sized (grown rs (single x) n) n
unfolding grown
grown_sized rs x zero a lo hi h = record { low = single_mono 1 x lo; high = single_mono x (2 ^ 48) hi }
grown_sized rs x (suc n) a lo hi h = times (grown rs (single x) n) (ratio_at rs n) n h (grown_sized rs x n a lo hi (omega arith)) (ratio_allowed rs n a)

-- ---- so its whole part is at least 1
one_is : single 1 ≡ fin false 1 (pos 0)
unfolding of_int
one_is = refl

whole_pos : (y : Float) → T (positive y) → T (le (single 1) y) → 0 < to_unsigned 64 y
unfolding to_unsigned
whole_pos nan p h = absurd p
whole_pos (inf s) p h = absurd p
whole_pos (fin true m e) p h = absurd p
whole_pos (fin false m e) p h =
    let g : T (le (fin false 1 (pos 0)) (fin false m e)) = subst (λ (z : Float). T (le z (fin false m e))) one_is h in
    let c : 1 * down e ≤ m * up e * 1 = le→cross (fin false 1 (pos 0)) (fin false m e) tt p g in
    let d : 1 ≤ m * up e / down e = (le-div_iff_mul-le (down_pos e)).1 (subst (λ (z : ℕ). 1 * down e ≤ z) (mul-one (m * up e)) c) in
    least (m * up e / down e) d
  where
    least : (a : ℕ) → 1 ≤ a → 0 < min a (2 ^ 64 - 1)
    least a h = omega arith

-- ---- of settings within their limits
module _ (s : Settings) (l : Limits s) where
  pub base_pos : 0 < base_size s
  base_pos = mul-pos l.some_size l.some_threshold

  pub base_lt : base_size s < 2 ^ 48
  base_lt = lt_of_le_of_lt (mul-le-mul l.size_most l.threshold_most) (lit< tt)

  product_sized : (n : ℕ) → n ≤ 5 → Sized (product s n) n
  product_sized n h = grown_sized (ratios_of s) (base_size s) n l.ratios base_pos (le_of_lt base_lt) h

  product_positive : (n : ℕ) → n ≤ 5 → T (positive (product s n))
  product_positive n h = sized_positive _ n h (product_sized n h)

  pub all_finite : AllFinite s
  all_finite n h = positive-finite _ (product_positive n h)

  pub target_pos : (n : ℕ) → n ≤ 6 → 0 < target_at s n
  target_pos n h = go (eqb n 1)
    where
      small : n - 1 ≤ 5
      small = omega arith

      go : (t : Bool) → 0 < cond t (base_size s) (to_unsigned 64 (product s (n - 1)))
      go true = base_pos
      go false = whole_pos _ (product_positive (n - 1) small) (product_sized (n - 1) small).low
