-- A test of a list that goes through each element and the next.
use Rattle.std.proofs.Common.{◌≡◌, ℕ, zero, suc, ◌+◌, ◌<◌, Bool, true, false, ◌&&◌, List, [], ◌∷◌, length, get_or, sym, refl, ap, ◌∙◌, arith}
use Rattle.std.specs.List.{AllAdjacentBelow, IsAllAdjacentAnswer}
use Rattle.std.proofs.lemmas.Bool.{and_from}

-- F asks e of each element and the next
module _ {X : Type 0} (e : X → X → Bool) (F : List X → Bool) (none : F [] ≡ true) (one : (x : X) → F (x ∷ []) ≡ true) (more : (x y : X) (ys : List X) → F (x ∷ y ∷ ys) ≡ (e x y && F (y ∷ ys))) where
  shifted : (x : X) (ys : List X) (k : ℕ) (d : X) → e (get_or (x ∷ ys) (suc k) d) (get_or (x ∷ ys) (suc k + 1) d) ≡ e (get_or ys k d) (get_or ys (k + 1) d)
  shifted x ys k d = ap (λ n. e (get_or ys k d) (get_or (x ∷ ys) n d)) (let s : suc k + 1 ≡ suc (k + 1) = omega arith in s)

  each : (xs : List X) → AllAdjacentBelow (λ x y. true ≡ e x y) xs (length xs) → F xs ≡ true
  each [] a = none
  each (x ∷ []) a = one x
  each (x ∷ y ∷ ys) a = more x y ys ∙ and_from (e x y) (F (y ∷ ys)) (sym (a 0 x (omega arith))) (each (y ∷ ys) (λ k d h. a (suc k) d (omega arith) ∙ shifted x (y ∷ ys) k d))

  fails : (xs : List X) (k : ℕ) → k + 1 < length xs → ((d : X) → false ≡ e (get_or xs k d) (get_or xs (k + 1) d)) → F xs ≡ false
  fails [] k h a = absurd (omega arith)
  fails (x ∷ []) k h a = absurd (omega arith)
  fails (x ∷ y ∷ ys) zero h a = more x y ys ∙ ap (λ b. b && F (y ∷ ys)) (sym (a x))
  fails (x ∷ y ∷ ys) (suc k) h a = more x y ys ∙ ap (λ b. e x y && b) (fails (y ∷ ys) k (omega arith) (λ d. a d ∙ shifted x (y ∷ ys) k d)) ∙ no (e x y)
    where
      no : (b : Bool) → (b && false) ≡ false
      no true = refl
      no false = refl

  pub neighbours_are : (xs : List X) (b : Bool) → IsAllAdjacentAnswer (λ x y a. a ≡ e x y) xs b → b ≡ F xs
  neighbours_are xs true a = sym (each xs a)
  neighbours_are xs false a = sym (fails xs a.0 a.1 a.2)
