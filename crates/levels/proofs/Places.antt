-- Five zeros after some ratios were written to their front.
use Rattle.std.proofs.Common.{◌≡◌, ℕ, suc, ◌-◌, min, List, [], ◌∷◌, ◌++◌, length, take, drop, replicate, refl, ap, ◌∙◌, arith}
use lib.Ieee.{Float, binary32, of_bits, of_int}
use borrow.Rule.Slice.PartMut.{post_of}
use Rattle.levels.specs.Rounding.{single}
use Rattle.levels.specs.Settings.{places}

five : (rs : List Float) → min (suc (suc (suc (suc (suc (length rs)))))) 5 ≡ 5
five rs = omega arith

-- as many as there are, and at most five
written : (rs : List Float) → take (min (length rs) 5) rs ++ drop (min (length rs) 5) (replicate 5 (single 0)) ≡ places rs
written [] = refl
written (a ∷ []) = refl
written (a ∷ b ∷ []) = refl
written (a ∷ b ∷ c ∷ []) = refl
written (a ∷ b ∷ c ∷ d ∷ []) = refl
written (a ∷ b ∷ c ∷ d ∷ e ∷ rs) = ap (λ (k : ℕ). take k (a ∷ b ∷ c ∷ d ∷ e ∷ rs) ++ drop k (replicate 5 (single 0))) (five rs)

pub kept : (rs ys : List Float) (k : ℕ) → k ≡ min (length rs) 5 → ys ≡ take (k - 0) rs → ys ++ post_of 0 (k - 0) (replicate 5 (of_bits binary32 0)) ≡ places rs
unfolding of_bits of_int
kept rs ys k e f = go (k - 0) (omega arith) f
  where
    go : (j : ℕ) → j ≡ min (length rs) 5 → ys ≡ take j rs → ys ++ post_of 0 j (replicate 5 (single 0)) ≡ places rs
    go j e f = ap (λ (xs : List Float). xs ++ drop j (replicate 5 (single 0))) f ∙ ap (λ (i : ℕ). take i rs ++ drop i (replicate 5 (single 0))) e ∙ written rs
