-- One turn of each loop, on the definitions.
use Rattle.std.proofs.Common.{◌≡◌, ℕ, zero, suc, ◌+◌, cond, List, get_or, sym, refl, ap, ◌∙◌, add-one, arith}
use Rattle.std.specs.List.{fold, range_with_len}
use lib.Ieee.{Float, nan, binary32, mul, le}
use Rattle.levels.specs.Targets.{grown, ratio_at}
use Rattle.levels.specs.Scores.{winner}

grown_more : (rs : List Float) (x : Float) (i : ℕ) → grown rs x (i + 1) ≡ mul binary32 (grown rs x i) (ratio_at rs i)
unfolding grown
grown_more rs x i = ap (grown rs x) (add-one i)

grown_from : (rs : List Float) (x : Float) (a n : ℕ) → fold (λ y i. mul binary32 y (ratio_at rs i)) (grown rs x a) (range_with_len a n) ≡ grown rs x (a + n)
grown_from rs x a zero = ap (grown rs x) (omega arith)
grown_from rs x a (suc n) =
    ap (λ y. fold (λ y i. mul binary32 y (ratio_at rs i)) y (range_with_len (a + 1) n)) (sym (grown_more rs x a)) ∙ grown_from rs x (a + 1) n ∙ ap (grown rs x) (omega arith)

-- a product over the places from 0 on
pub grown_over : (rs : List Float) (x : Float) (n : ℕ) → fold (λ y i. mul binary32 y (ratio_at rs i)) x (range_with_len 0 n) ≡ grown rs x n
unfolding grown
grown_over rs x n = grown_from rs x 0 n ∙ ap (grown rs x) (omega arith)

pub winner_none : (ss : List Float) → winner ss 0 ≡ 0
unfolding winner
winner_none ss = refl

pub winner_more : (ss : List Float) (i : ℕ) → winner ss (i + 1) ≡ cond (le (get_or ss (winner ss i) nan) (get_or ss i nan)) i (winner ss i)
unfolding winner
winner_more ss i = ap (winner ss) (add-one i)
