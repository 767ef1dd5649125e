-- A whole number rounded to binary32: its first 24 binary digits, rounded to the nearest, at a tie to the even one, have its value.
use Rattle.std.proofs.Common.{◌≡◌, ℕ, zero, suc, ◌+◌, ◌-◌, ◌*◌, ◌/◌, ◌%◌, ◌^◌, ◌<◌, ◌≤◌, min, true, false, ◌⊎◌, pos, sym, refl, ap, ◌∙◌, subst, inl, inr, true≢false, le_trans, le_of_eq, lt_of_lt_of_le, lt_of_le_of_lt, le_of_lt, mul-le-mul_right, zero-lt-suc, mul_assoc, mul_comm, eq-or-lt_of_le, mul-pos, one-mul, le-div_iff_mul-le, mul-one, mul_right_comm, div-one, mul-div_cancel, arith, lit<, lit≤, pow_pos, pow_mono, pow-add, shl_lt, shr_lt}
use Prim.Native.Nat.{compare}
use native.Mathlib.Nat.{eq_of_mul-eq-mul_right, mod-one}
use lib.Ieee.{Float, nan, inf, fin, binary32, up, down, size, nearest, units, round, of_int, to_unsigned, mul}
use lib.Ieee.Digits.{size-lt, size-le, size_reaches}
use lib.Ieee.Fits.{core, round_is, nearest-le, kept-lt, of_int-fits, down_pos}
use lib.Count.{count_leading_zeros, leading_top}
use Rattle.std.proofs.lemmas.Bool.{cases_lt}
use lib.Ieee.Exact.{HasValue, units_val, round_exact}
use lib.Ieee.Nearest.{closest, closest_same, nearest-ge}
use lib.Ieee.Back.{round_whole, whole_unique}
use lib.Ieee.Positive.{mul_at, positive_of_value}
use Rattle.levels.specs.Rounding.{single, rounded}

pub single_is : (n : ℕ) → single n ≡ round binary32 false n 1
unfolding of_int
single_is n = refl

-- how many digits a number has, from two powers of two
size_at : (n j : ℕ) → 2 ^ j ≤ n → n < 2 ^ suc j → size n ≡ suc j
size_at n j lo hi =
    let a : size n ≤ suc j = size-le n (suc j) hi in
    let b : (size n ≤ j) → ⊥ = λ g. let x : n < 2 ^ j = lt_of_lt_of_le (size-lt n) (pow_mono g) in omega arith in
    join (size n) j a b
  where
    join : (z j : ℕ) → z ≤ suc j → (z ≤ j → ⊥) → z ≡ suc j
    join z j a b = elim (eq-or-lt_of_le a) [ inl e ↦ e | inr l ↦ absurd (b (le_suc z j l)) ]
      where
        le_suc : (z j : ℕ) → z < suc j → z ≤ j
        le_suc z j h = omega arith

-- x between 2 ^ (23 + k) and 2 ^ (24 + k) drops k digits
round_at : (x k : ℕ) → 2 ^ (23 + k) ≤ x → x < 2 ^ (24 + k) → single x ≡ units binary32 false (closest x (2 ^ k)) (k + 149)
round_at x k lo hi =
    let n = x * 2 ^ 149 in
    let lo' : 2 ^ (23 + k + 149) ≤ n / 1 = subst (λ (z : ℕ). 2 ^ (23 + k + 149) ≤ z) (sym (div-one n)) (le_trans (le_of_eq (pow-add 2 (23 + k) 149)) (mul-le-mul_right (2 ^ 149) lo)) in
    let hi' : n / 1 < 2 ^ suc (23 + k + 149) = subst (λ (z : ℕ). z < 2 ^ suc (23 + k + 149)) (sym (div-one n)) (subst (λ (z : ℕ). n < 2 ^ z) (next k) (shl_lt (24 + k) 149 hi)) in
    let d : size (n / 1) - 24 ≡ k + 149 = less (size (n / 1)) k (size_at (n / 1) (23 + k + 149) lo' hi') in
    single_is x
    ∙ round_is binary32 false x 1
    ∙ ap (λ (z : ℕ). core binary32 false n 1 z) d
    ∙ ap (λ (z : ℕ). units binary32 false z (k + 149)) (closest_same n (1 * 2 ^ (k + 149)) x (2 ^ k) (mul-pos (zero-lt-suc 0) (pow_pos (k + 149))) (pow_pos k) (cross x k))
  where
    next : (k : ℕ) → 24 + k + 149 ≡ suc (23 + k + 149)
    next k = omega arith

    less : (z k : ℕ) → z ≡ suc (23 + k + 149) → z - 24 ≡ k + 149
    less z k e = omega arith

    cross : (x k : ℕ) → x * 2 ^ 149 * 2 ^ k ≡ x * (1 * 2 ^ (k + 149))
    cross x k = mul_assoc x (2 ^ 149) (2 ^ k) ∙ ap (λ (z : ℕ). x * z) (mul_comm (2 ^ 149) (2 ^ k) ∙ sym (pow-add 2 k 149) ∙ sym (one-mul (2 ^ (k + 149))))

-- the number that is kept has at most 24 digits, or is 2 ^ 24
kept_le : (x k : ℕ) → x < 2 ^ (24 + k) → closest x (2 ^ k) ≤ 2 ^ 24
kept_le x k hi = le_trans (nearest-le (x / 2 ^ k) (compare (x % 2 ^ k * 2) (2 ^ k))) (shr_lt 24 k hi)

-- a / 1 from a fraction with an equal factor on both sides
reduced : (y : Float) (a u : ℕ) → 0 < u → HasValue y false (a * u) u → HasValue y false a 1
reduced nan a u U h = h
reduced (inf s) a u U h = h
reduced (fin s m e) a u U h = (h.0, mul-one (m * up e) ∙ eq_of_mul-eq-mul_right u U (m * up e) (a * down e) (h.1 ∙ mul_right_comm a u (down e)))

value_at : (x k : ℕ) → 2 ^ (23 + k) ≤ x → x < 2 ^ (24 + k) → k ≤ 100 → HasValue (single x) false (closest x (2 ^ k) * 2 ^ k) 1
value_at x k lo hi K =
    let q = closest x (2 ^ k) in
    let e : q * 2 ^ (k + 149) ≡ q * 2 ^ k * 2 ^ 149 = ap (λ (z : ℕ). q * z) (pow-add 2 k 149) ∙ sym (mul_assoc q (2 ^ k) (2 ^ 149)) in
    let small : q * 2 ^ (k + 149) < 2 ^ (149 + 128) = lt_of_lt_of_le (shl_lt 25 (k + 149) (lt_of_le_of_lt (kept_le x k hi) (lit< tt))) (pow_mono (room k K)) in
    subst (λ (z : Float). HasValue z false (q * 2 ^ k) 1) (sym (round_at x k lo hi))
    (reduced (units binary32 false q (k + 149)) (q * 2 ^ k) (2 ^ 149) (pow_pos 149) (subst (λ (z : ℕ). HasValue (units binary32 false q (k + 149)) false z (2 ^ 149)) e (units_val binary32 false q (k + 149) small)))
  where
    room : (k : ℕ) → k ≤ 100 → 25 + (k + 149) ≤ 149 + 128
    room k K = omega arith

-- what has a whole number's value casts to it
cast_is : (y : Float) (a : ℕ) → a < 2 ^ 64 → HasValue y false a 1 → to_unsigned 64 y ≡ a
unfolding to_unsigned
cast_is nan a A h = absurd h
cast_is (inf s) a A h = absurd h
cast_is (fin true m e) a A h = absurd (true≢false h.0)
cast_is (fin false m e) a A h =
    let q : m * up e / down e ≡ a = ap (λ (x : ℕ). x / down e) (sym (mul-one (m * up e)) ∙ h.1) ∙ mul-div_cancel a (down_pos e) in
    ap (λ (x : ℕ). min x (2 ^ 64 - 1)) q ∙ least a A
  where
    least : (a : ℕ) → a < 2 ^ 64 → min a (2 ^ 64 - 1) ≡ a
    least a h = omega arith

-- q * 2 ^ k is a value of binary32, for a q of at most 24 digits, or 2 ^ 24
exact_at : (q k : ℕ) → q ≤ 2 ^ 24 → k ≤ 100 → HasValue (single (q * 2 ^ k)) false (q * 2 ^ k) 1
exact_at q k Q K = subst (λ (z : Float). HasValue z false (q * 2 ^ k) 1) (sym (single_is (q * 2 ^ k))) (go (eq-or-lt_of_le Q))
  where
    bound : (k : ℕ) → k ≤ 100 → 25 + (k + 149) ≤ 149 + 128
    bound k K = omega arith

    scaled : (k : ℕ) → q * 2 ^ k * 2 ^ 149 ≡ q * 2 ^ (k + 149) * 1
    scaled k = mul_assoc q (2 ^ k) (2 ^ 149) ∙ ap (λ (z : ℕ). q * z) (sym (pow-add 2 k 149)) ∙ sym (mul-one (q * 2 ^ (k + 149)))

    fine : q * 2 ^ (k + 149) < 2 ^ (149 + 128)
    fine = lt_of_lt_of_le (shl_lt 25 (k + 149) (lt_of_le_of_lt Q (lit< tt))) (pow_mono (bound k K))

    top : q ≡ 2 ^ 24 → q * 2 ^ (k + 149) ≡ 1 * 2 ^ (24 + (k + 149))
    top e = ap (λ (z : ℕ). z * 2 ^ (k + 149)) e ∙ sym (pow-add 2 24 (k + 149)) ∙ sym (one-mul (2 ^ (24 + (k + 149))))

    go : (q ≡ 2 ^ 24) ⊎ (q < 2 ^ 24) → HasValue (round binary32 false (q * 2 ^ k) 1) false (q * 2 ^ k) 1
    go (inl e) = round_exact binary32 false (q * 2 ^ k) 1 1 (24 + (k + 149)) (zero-lt-suc 0) (lit< tt) (subst (λ (z : ℕ). z < 2 ^ (149 + 128)) (top e) fine) (scaled k ∙ ap (λ (z : ℕ). z * 1) (top e))
    go (inr l) = round_exact binary32 false (q * 2 ^ k) 1 q (k + 149) (zero-lt-suc 0) l fine (scaled k)

-- where x rounds to q * 2 ^ k, that number rounds to the same
same_single : (x q k : ℕ) → q ≤ 2 ^ 24 → k ≤ 100 → HasValue (single x) false (q * 2 ^ k) 1 → single (q * 2 ^ k) ≡ single x
same_single x q k Q K h = whole_unique binary32 (single (q * 2 ^ k)) (single x) false (q * 2 ^ k) (of_int-fits binary32 (pos (q * 2 ^ k))) (of_int-fits binary32 (pos x)) (exact_at q k Q K) h

-- ---- at any x below 2 ^ 48, with the digits that it has past its first 24
abbrev pub past : ℕ → ℕ
past x = size x - 24

pub past_le : (x : ℕ) → x < 2 ^ 48 → past x ≤ 24
past_le x h = less (size x) (size-le x 48 h)
  where
    less : (z : ℕ) → z ≤ 48 → z - 24 ≤ 24
    less z h = omega arith

pub digits_le : (x : ℕ) → closest x (2 ^ past x) ≤ 2 ^ 24
digits_le x = le_trans (nearest-le (x / 2 ^ past x) (compare (x % 2 ^ past x * 2) (2 ^ past x))) (kept-lt 24 x)

digits_value : (x : ℕ) → x < 2 ^ 48 → HasValue (single x) false (closest x (2 ^ past x) * 2 ^ past x) 1
digits_value x h = elim (cases_lt 24 (size x)) [
  | inl l ↦ value_at x (past x) (size_reaches x (23 + past x) (inside (size x) l)) (lt_of_lt_of_le (size-lt x) (pow_mono (reach (size x)))) (le_trans (past_le x h) (lit≤ tt))
  | inr s ↦ subst (λ (z : ℕ). HasValue (single x) false (closest x (2 ^ z) * 2 ^ z) 1) (sym (none (size x) s))
      (subst (λ (z : ℕ). HasValue (single x) false z 1) (sym (whole x))
      (subst (λ (z : Float). HasValue z false x 1) (sym (single_is x)) (round_whole binary32 false x (le_of_lt (lt_of_lt_of_le (size-lt x) (pow_mono s))))))
]
  where
    inside : (z : ℕ) → 24 < z → 23 + (z - 24) < z
    inside z h = omega arith

    reach : (z : ℕ) → z ≤ 24 + (z - 24)
    reach z = omega arith

    none : (z : ℕ) → z ≤ 24 → z - 24 ≡ 0
    none z h = omega arith

    whole : (x : ℕ) → closest x 1 * 1 ≡ x
    whole x = mul-one (closest x 1) ∙ ap (λ (q : ℕ). nearest q (compare (x % 1 * 2) 1)) (div-one x) ∙ ap (λ (r : ℕ). nearest x (compare (r * 2) 1)) (mod-one x)

pub digits_rounded : (x : ℕ) → x < 2 ^ 48 → closest x (2 ^ past x) * 2 ^ past x ≡ rounded x
digits_rounded x h =
    sym (cast_is (single x) (closest x (2 ^ past x) * 2 ^ past x)
    (lt_of_lt_of_le (shl_lt 25 (past x) (lt_of_le_of_lt (digits_le x) (lit< tt))) (pow_mono (room (past x) (past_le x h)))) (digits_value x h))
  where
    room : (k : ℕ) → k ≤ 24 → 25 + k ≤ 64
    room k h = omega arith

pub digits_single : (x : ℕ) → x < 2 ^ 48 → single (closest x (2 ^ past x) * 2 ^ past x) ≡ single x
digits_single x h = same_single x (closest x (2 ^ past x)) (past x) (digits_le x) (le_trans (past_le x h) (lit≤ tt)) (digits_value x h)

pub digits_pos : (x : ℕ) → 0 < x → 0 < closest x (2 ^ past x)
digits_pos x h =
    let w : 1 ≤ x / 2 ^ past x = (le-div_iff_mul-le (pow_pos (past x))).1 (subst (λ (z : ℕ). z ≤ x) (sym (one-mul (2 ^ past x))) (size_reaches x (past x) (fewer (size x) (some x h)))) in
    le_trans w (nearest-ge (x / 2 ^ past x) (compare (x % 2 ^ past x * 2) (2 ^ past x)))
  where
    fewer : (z : ℕ) → 0 < z → z - 24 < z
    fewer z h = omega arith

    some : (x : ℕ) → 0 < x → 0 < size x
    some x h = elim (cases_lt 0 (size x)) [ inl l ↦ l | inr s ↦ let y : x < 1 = lt_of_lt_of_le (size-lt x) (pow_mono s) in absurd (omega arith) ]

-- ---- the digits, as the machine counts them
pub size_leading : (x : ℕ) → x < 2 ^ 64 → size x ≡ 64 - count_leading_zeros 64 x
unfolding size count_leading_zeros
size_leading zero h = refl
size_leading (suc n) h =
    let t = leading_top 64 (suc n) (zero-lt-suc n) h in
    size_at (suc n) t.0 t.2 t.3 ∙ left (count_leading_zeros 64 (suc n)) t.0 t.1
  where
    left : (z j : ℕ) → z + suc j ≡ 64 → suc j ≡ 64 - z
    left z j e = omega arith

-- ---- the product of the two factors
pub product_single : (a b : ℕ) → 0 < a → 0 < b → a ≤ 2 ^ 24 → b ≤ 2 ^ 24 → mul binary32 (single a) (single b) ≡ single (a * b)
product_single a b A B Ha Hb =
    let x = whole_value a Ha in
    let y = whole_value b Hb in
    mul_at binary32 (single a) (single b) a 1 b 1 (positive_of_value (single a) a 1 x A) (positive_of_value (single b) b 1 y B) (zero-lt-suc 0) (zero-lt-suc 0) x y ∙ sym (single_is (a * b))
  where
    whole_value : (n : ℕ) → n ≤ 2 ^ 24 → HasValue (single n) false n 1
    whole_value n h = subst (λ (z : Float). HasValue z false n 1) (sym (single_is n)) (round_whole binary32 false n h)
