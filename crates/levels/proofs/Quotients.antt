-- The quotient of two whole numbers up to 2 ^ 53, and what a level can score.
use Rattle.std.proofs.Common.{◌≡◌, ℕ, ◌*◌, ◌^◌, ◌<◌, ◌≤◌, Bool, true, false, cond, T, eqb, ltb, leb, sym, refl, ap, ◌∙◌, subst, inl, inr, le_trans, lt_of_lt_of_le, le_of_lt, zero-lt-suc, mul_assoc, mul_comm, mul-pos, mul-one, mul_left_comm, arith, ltb→lt, leb→le}
use lib.Ieee.{Float, nan, inf, fin, Format, binary64, round, of_int, div, le}
use lib.Ieee.Fits.{up_pos}
use lib.Ieee.Exact.{HasValue}
use lib.Ieee.Scale.{round_same}
use lib.Ieee.Back.{round_whole}
use lib.Ieee.Order.{round_mono}
use lib.Ieee.Positive.{num, den, den_pos, positive, between, positive_of_value, value→cross}
use Rattle.std.proofs.lemmas.Bool.{cond-false, ne_eqb}
use Rattle.levels.specs.Scores.{double, quotient, plain, none, forced, first_level_score, level_score, Scored}

div_is : (f : Format) (x y : Float) → T (positive x) → T (positive y) → div f x y ≡ round f false (num x * den y) (num y * den x)
unfolding div
div_is f nan y p q = absurd p
div_is f (inf s) y p q = absurd p
div_is f (fin true m e) y p q = absurd p
div_is f (fin false m e) nan p q = absurd q
div_is f (fin false m e) (inf t) p q = absurd q
div_is f (fin false m e) (fin true n d) p q = absurd q
div_is f (fin false m e) (fin false n d) p q = cond-false (eqb n 0) _ _ (ne_eqb n 0 (λ e. not_zero n (ltb→lt 0 n q) e))
  where
    not_zero : (n : ℕ) → 0 < n → n ≡ 0 → ⊥
    not_zero n h e = omega arith

double_is : (n : ℕ) → double n ≡ round binary64 false n 1
unfolding of_int
double_is n = refl

double_value : (n : ℕ) → n ≤ 2 ^ 53 → HasValue (double n) false n 1
double_value n h = subst (λ (z : Float). HasValue z false n 1) (sym (double_is n)) (round_whole binary64 false n h)

-- both casts are exact, so the division rounds once, from a / b
quotient_is : (a b : ℕ) → 0 < a → 0 < b → a ≤ 2 ^ 53 → b ≤ 2 ^ 53 → quotient a b ≡ round binary64 false a b
quotient_is a b A B Ha Hb =
    let x = double a in
    let y = double b in
    let u = double_value a Ha in
    let v = double_value b Hb in
    let p = positive_of_value x a 1 u A in
    let q = positive_of_value y b 1 v B in
    let i : num x ≡ a * den x = sym (mul-one (num x)) ∙ value→cross x a 1 u in
    let j : num y ≡ b * den y = sym (mul-one (num y)) ∙ value→cross y b 1 v in
    div_is binary64 x y p q
    ∙ round_same binary64 false (num x * den y) (num y * den x) a b (mul-pos (num_pos y p q) (den_pos x)) B
    (ap (λ (z : ℕ). z * den y * b) i ∙ regroup a (den x) (den y) b ∙ ap (λ (z : ℕ). a * (z * den x)) (sym j))
  where
    regroup : (a x y b : ℕ) → a * x * y * b ≡ a * (b * y * x)
    regroup a x y b = simp (mul_assoc, mul_comm, mul_left_comm)

    num_pos : (y : Float) → T (positive (double a)) → T (positive y) → 0 < num y
    num_pos nan p q = absurd q
    num_pos (inf s) p q = absurd q
    num_pos (fin true m e) p q = absurd q
    num_pos (fin false m e) p q = mul-pos (ltb→lt 0 m q) (up_pos e)

one_positive : T (positive (double 1))
unfolding of_int
one_positive = tt

top_positive : T (positive (round binary64 false (2 ^ 53) 1))
unfolding round
top_positive = tt

-- from b ≤ a: at least 1.0, and finite
quotient_sized : (a b : ℕ) → 0 < b → b ≤ a → a ≤ 2 ^ 53 → T (le (double 1) (quotient a b)) × T (positive (quotient a b))
quotient_sized a b B h H =
    let q = round binary64 false a b in
    let top = round binary64 false (2 ^ 53) 1 in
    let low : T (le (double 1) q) = subst (λ (z : Float). T (le z q)) (sym (double_is 1)) (round_mono binary64 1 1 a b (zero-lt-suc 0) B (one_le a b h)) in
    let high : T (le q top) = round_mono binary64 a b (2 ^ 53) 1 B (zero-lt-suc 0) (le_top a b B H) in
    subst (λ (z : Float). T (le (double 1) z) × T (positive z)) (sym (quotient_is a b (lt_of_lt_of_le B h) B H (le_trans h H))) (low, between (double 1) q top one_positive top_positive low high)
  where
    one_le : (a b : ℕ) → b ≤ a → 1 * b ≤ a * 1
    one_le a b h = omega arith

    le_top : (a b : ℕ) → 0 < b → a ≤ 2 ^ 53 → a * 1 ≤ 2 ^ 53 * b
    le_top a b B H = omega arith

-- ---- what a level can score
pub none_scored : Scored none
none_scored = (tt, inl refl)

forced_scored : Scored forced
unfolding round of_int le
forced_scored = (tt, inr tt)

quotient_scored : (a b : ℕ) → 0 < b → b ≤ a → a ≤ 2 ^ 53 → Scored (quotient a b)
quotient_scored a b B h H = let q = quotient_sized a b B h H in (positive_plain (quotient a b) q.1, inr q.0)
  where
    positive_plain : (x : Float) → T (positive x) → T (plain x)
    positive_plain nan p = p
    positive_plain (inf s) p = p
    positive_plain (fin true m e) p = p
    positive_plain (fin false m e) p = tt

pub first_level_scored : (count threshold : ℕ) → count ≤ 2 ^ 53 → 0 < threshold → Scored (first_level_score count threshold)
first_level_scored count threshold h t = go (leb threshold count) (leb→le threshold count)
  where
    go : (x : Bool) → (T x → threshold ≤ count) → Scored (cond x (quotient count threshold) none)
    go true f = quotient_scored count threshold t (f tt) h
    go false f = none_scored

pub level_scored : (free target : ℕ) (b : Bool) → free ≤ 2 ^ 53 → 0 < target → Scored (level_score free target b)
level_scored free target b h t = go (ltb target free) b (ltb→lt target free)
  where
    go : (x b : Bool) → (T x → target < free) → Scored (cond x (cond b forced (quotient free target)) none)
    go true true f = forced_scored
    go true false f = quotient_scored free target t (le_of_lt (f tt)) h
    go false b f = none_scored
