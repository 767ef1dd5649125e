-- The winner is the last of the highest, among values that are finite and not negative.
use Rattle.std.proofs.Common.{◌≡◌, ℕ, zero, suc, ◌*◌, ◌<◌, ◌≤◌, Bool, true, false, cond, ◌&&◌, ◌||◌, T, eqb, ltb, ◌⊎◌, List, get_or, Some, None, sym, refl, subst, inl, inr, le_of_eq, le_refl, le_of_lt, arith, eqb→eq, ltb→lt, lt→ltb}
use lib.Ieee.{Float, nan, inf, fin, up, down, of_int, le, lt}
use lib.Ieee.Exact.{HasValue}
use lib.Ieee.Fits.{and_l}
use lib.Ieee.Order.{le_of_values}
use lib.Ieee.Positive.{num, den, den_pos, through}
use Rattle.std.proofs.lemmas.Bool.{cases_lt, cases_Bool}
use Rattle.levels.specs.Scores.{double, none, winner, chosen, plain, AllScored, Highest, Chooses}

value : (x : Float) → T (plain x) → HasValue x false (num x) (den x)
value nan p = absurd p
value (inf s) p = absurd p
value (fin true m e) p = absurd p
value (fin false m e) p = (refl, refl)

or_split : (a b : Bool) → T (a || b) → T a ⊎ T b
or_split true b t = inl tt
or_split false b t = inr t

lt_or_eq : (a b : ℕ) → T (ltb a b || (eqb a b && true)) → a ≤ b
lt_or_eq a b t = elim (or_split (ltb a b) (eqb a b && true) t) [ inl u ↦ le_of_lt (ltb→lt a b u) | inr u ↦ le_of_eq (eqb→eq a b (and_l (eqb a b) true u)) ]

-- the order of plain values is that of their fractions
cross : (x y : Float) → T (plain x) → T (plain y) → T (le x y) → num x * den y ≤ num y * den x
unfolding le
cross nan y p q h = absurd p
cross (inf s) y p q h = absurd p
cross (fin true m e) y p q h = absurd p
cross (fin false m e) nan p q h = absurd q
cross (fin false m e) (inf t) p q h = absurd q
cross (fin false m e) (fin true n d) p q h = absurd q
cross (fin false m e) (fin false n d) p q h = lt_or_eq (m * up e * down d) (n * up d * down e) h

of_cross : (x y : Float) → T (plain x) → T (plain y) → num x * den y ≤ num y * den x → T (le x y)
of_cross x y p q h = le_of_values x y (num x) (den x) (num y) (den y) (den_pos x) (den_pos y) (value x p) (value y q) h

lt_of_cross : (x y : Float) → T (plain x) → T (plain y) → num x * den y < num y * den x → T (lt x y)
unfolding lt
lt_of_cross nan y p q h = absurd p
lt_of_cross (inf s) y p q h = absurd p
lt_of_cross (fin true m e) y p q h = absurd p
lt_of_cross (fin false m e) nan p q h = absurd q
lt_of_cross (fin false m e) (inf t) p q h = absurd q
lt_of_cross (fin false m e) (fin true n d) p q h = absurd q
lt_of_cross (fin false m e) (fin false n d) p q h = lt→ltb (m * up e * down d) (n * up d * down e) h

cross_lt : (x y : Float) → T (plain x) → T (plain y) → T (lt x y) → num x * den y < num y * den x
unfolding lt
cross_lt nan y p q h = absurd p
cross_lt (inf s) y p q h = absurd p
cross_lt (fin true m e) y p q h = absurd p
cross_lt (fin false m e) nan p q h = absurd q
cross_lt (fin false m e) (inf t) p q h = absurd q
cross_lt (fin false m e) (fin true n d) p q h = absurd q
cross_lt (fin false m e) (fin false n d) p q h = ltb→lt (m * up e * down d) (n * up d * down e) h

is_T : (b : Bool) → b ≡ true → T b
is_T b e = subst T (sym e) tt

pub plain_refl : (x : Float) → T (plain x) → T (le x x)
plain_refl x p = of_cross x x p p (le_refl (num x * den x))

pub plain_trans : (x y z : Float) → T (plain x) → T (plain y) → T (plain z) → T (le x y) → T (le y z) → T (le x z)
plain_trans x y z p q r h k = of_cross x z p r (through (num x) (num y) (num z) (den x) (den y) (den z) (den_pos y) (cross x y p q h) (cross y z q r k))

-- what is not at most y is above y
past : (x y : Float) → T (plain x) → T (plain y) → le x y ≡ false → num y * den x < num x * den y
past x y p q h = elim (cases_lt (num y * den x) (num x * den y)) [ inl l ↦ l | inr g ↦ absurd (subst T h (of_cross x y p q g)) ]

pub plain_above : (x y : Float) → T (plain x) → T (plain y) → le x y ≡ false → T (lt y x) × T (le y x)
plain_above x y p q h = let l = past x y p q h in (lt_of_cross y x q p l, of_cross y x q p (le_of_lt l))

-- nothing is both at least x and below it
apart : (x y : Float) → T (plain x) → T (plain y) → T (le x y) → T (lt y x) → ⊥
apart x y p q h k = let a = cross x y p q h in let b = cross_lt y x q p k in omega arith

less_or_at : (k n : ℕ) → k < suc n → (k < n) ⊎ (k ≡ n)
less_or_at k n h = elim (cases_lt k n) [ inl l ↦ inl l | inr g ↦ inr (omega arith) ]

suc_le : (k n : ℕ) → k < n → k < suc n
suc_le k n h = omega arith

-- each of the first n is finite and not negative
abbrev Plain : List Float → ℕ → Type 0
Plain ss n = (k : ℕ) → k < n → T (plain (get_or ss k nan))

module _ (ss : List Float) where
  abbrev at : ℕ → Float
  at k = get_or ss k nan

  moved : (n w : ℕ) → Plain ss (suc n) → Highest ss n w → le (at w) (at n) ≡ true → Highest ss (suc n) n
  moved n w P H e = record {
    inside = le_refl (suc n);
    top = λ k h. elim (less_or_at k n h) [
      | inl l ↦ plain_trans (at k) (at w) (at n) (P k h) (P w (suc_le w n H.inside)) (P n (le_refl (suc n))) (H.top k l) (is_T (le (at w) (at n)) e)
      | inr q ↦ subst (λ (j : ℕ). T (le (at j) (at n))) (sym q) (plain_refl (at n) (P n (le_refl (suc n))))
    ];
    last = λ k a b. absurd (omega arith);
  }

  stayed : (n w : ℕ) → Plain ss (suc n) → Highest ss n w → le (at w) (at n) ≡ false → Highest ss (suc n) w
  stayed n w P H e =
      let o = plain_above (at w) (at n) (P w (suc_le w n H.inside)) (P n (le_refl (suc n))) e in record {
        inside = suc_le w n H.inside;
        top = λ k h. elim (less_or_at k n h) [ inl l ↦ H.top k l | inr q ↦ subst (λ (j : ℕ). T (le (at j) (at w))) (sym q) o.1 ];
        last = λ k a h. elim (less_or_at k n h) [ inl l ↦ H.last k a l | inr q ↦ subst (λ (j : ℕ). T (lt (at j) (at w))) (sym q) o.0 ];
      }

  first : Plain ss 1 → Highest ss 1 0
  first P = record {
    inside = le_refl 1;
    top = λ k h. let q : k ≡ 0 = omega arith in subst (λ (j : ℕ). T (le (at j) (at 0))) (sym q) (plain_refl (at 0) (P 0 (le_refl 1)));
    last = λ k a h. absurd (omega arith);
  }

  same : (b : Bool) → ◌≡◌ {A = ℕ} (cond b 0 0) 0
  same true = refl
  same false = refl

  fewer : (n : ℕ) → Plain ss (suc n) → Plain ss n
  fewer n P k h = P k (suc_le k n h)

  winner_highest : (n : ℕ) → Plain ss (suc n) → Highest ss (suc n) (winner ss (suc n))
  unfolding winner
  winner_highest zero P = subst (λ (w : ℕ). Highest ss 1 w) (sym (same (le (at 0) (at 0)))) (first P)
  winner_highest (suc n) P =
      let w = winner ss (suc n) in
      let H = winner_highest n (fewer (suc n) P) in
      elim (cases_Bool (le (at w) (at (suc n)))) [
        | inl t ↦ subst (λ (b : Bool). Highest ss (suc (suc n)) (cond b (suc n) w)) (sym t) (moved (suc n) w P H t)
        | inr f ↦ subst (λ (b : Bool). Highest ss (suc (suc n)) (cond b (suc n) w)) (sym f) (stayed (suc n) w P H f)
      ]

-- ---- what is chosen among scores
one_plain : T (plain (double 1))
unfolding of_int
one_plain = tt

none_below_one : T (lt none (double 1))
unfolding of_int lt
none_below_one = tt

pub chooses : (ss : List Float) → AllScored ss → Chooses ss (chosen ss)
chooses ss S = go (lt (score w) (double 1)) refl
  where
    w : ℕ
    w = winner ss 7

    score : ℕ → Float
    score k = get_or ss k nan

    H : Highest ss 7 w
    H = winner_highest ss 6 (λ k h. (S k h).0)

    zero_at : (k : ℕ) → k < 7 → T (lt (score w) (double 1)) → score k ≡ none
    zero_at k h l = elim (S k h).1 [
      | inl z ↦ z
      | inr g ↦ absurd (apart (double 1) (score w) one_plain (S w H.inside).0 (plain_trans (double 1) (score k) (score w) one_plain (S k h).0 (S w H.inside).0 g (H.top k h)) l)
    ]

    one_at : lt (score w) (double 1) ≡ false → T (le (double 1) (score w))
    one_at e = elim (S w H.inside).1 [ inl z ↦ absurd (subst T e (subst (λ (x : Float). T (lt x (double 1))) (sym z) none_below_one)) | inr g ↦ g ]

    go : (b : Bool) → lt (score w) (double 1) ≡ b → Chooses ss (cond b None (Some w))
    go true e = λ k h. zero_at k h (is_T (lt (score w) (double 1)) e)
    go false e = (H, one_at e)
