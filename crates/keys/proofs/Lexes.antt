-- The order of byte strings.
use Rattle.std.proofs.Common.{◌≡◌, ℕ, ◌+◌, ◌<◌, min, List, [], ◌∷◌, length, drop, slice_index, Ordering, Less, Equal, Greater, refl, ap, ◌∙◌, arith}
use Rattle.std.proofs.lemmas.List.{drop_more, length-drop}
use Rattle.std.proofs.lemmas.Bool.Decides.{nat_tests}
use Rattle.std.specs.Ordering.{ordering_reverse, ordering_then, nat_cmp}
use Rattle.std.specs.Cmp.Lexicographic.{nat_list_cmp_total}
use Rattle.keys.specs.ByteKey.{lex}
use Rattle.keys.proofs.Numbers.{number_equal, less_number, same_number}

pub lex_flip : (xs ys : List ℕ) → lex ys xs ≡ ordering_reverse (lex xs ys)
lex_flip xs ys = nat_list_cmp_total.antisymm ys xs

pub lex_chain : (xs ys zs : List ℕ) → lex xs ys ≡ Less → lex ys zs ≡ Less → lex xs zs ≡ Less
lex_chain = nat_list_cmp_total.trans

then_equal : (o p : Ordering) → ordering_then o p ≡ Equal → (o ≡ Equal) × (p ≡ Equal)
then_equal Less p e = cc
then_equal Equal p e = (refl, e)
then_equal Greater p e = cc

-- strings that compare equal are equal
pub lex_equal : (xs ys : List ℕ) → lex xs ys ≡ Equal → xs ≡ ys
lex_equal [] [] e = refl
lex_equal [] (y ∷ ys) e = cc
lex_equal (x ∷ xs) [] e = cc
lex_equal (x ∷ xs) (y ∷ ys) e =
    let p = then_equal (nat_cmp x y) (lex xs ys) e in
    let q = number_equal x y p.0 in
    let r = lex_equal xs ys p.1 in
    cc

then_less : (o p : Ordering) → o ≡ Less → ordering_then o p ≡ Less
then_less o p e = ap (λ q. ordering_then q p) e

-- one place further, and past the shorter one
module _ (xs ys : List ℕ) (i : ℕ) where
  pub lex_more : i < length xs → i < length ys → lex (drop i xs) (drop i ys) ≡ ordering_then (nat_cmp (slice_index xs i) (slice_index ys i)) (lex (drop (i + 1) xs) (drop (i + 1) ys))
  lex_more h k =
      ap (λ d. lex d (drop i ys)) (drop_more xs i 0 h)
      ∙ ap (λ d. lex (slice_index xs i ∷ drop (i + 1) xs) d) (drop_more ys i 0 k)

  pub lex_less : i < length xs → i < length ys → slice_index xs i < slice_index ys i → lex (drop i xs) (drop i ys) ≡ Less
  lex_less h k l = lex_more h k ∙ then_less _ _ (less_number _ _ l)

  pub lex_same : i < length xs → i < length ys → slice_index xs i ≡ slice_index ys i → lex (drop i xs) (drop i ys) ≡ lex (drop (i + 1) xs) (drop (i + 1) ys)
  lex_same h k e = lex_more h k ∙ ap (λ o. ordering_then o (lex (drop (i + 1) xs) (drop (i + 1) ys))) (same_number _ _ e)

pub lex_greater : (xs ys : List ℕ) (i : ℕ) → i < length xs → i < length ys → slice_index ys i < slice_index xs i → lex (drop i xs) (drop i ys) ≡ Greater
lex_greater xs ys i h k l = lex_flip (drop i ys) (drop i xs) ∙ ap ordering_reverse (lex_less ys xs i k h l)

lex_short : (xs ys : List ℕ) → min (length xs) (length ys) ≡ 0 → lex xs ys ≡ nat_cmp (length xs) (length ys)
lex_short [] [] e = refl
lex_short [] (y ∷ ys) e = grind (arith, nat_tests)
lex_short (x ∷ xs) [] e = grind (arith, nat_tests)
lex_short (x ∷ xs) (y ∷ ys) e = absurd (omega arith)

pub lex_ends : (xs ys : List ℕ) (i : ℕ) → i ≡ min (length xs) (length ys) → lex (drop i xs) (drop i ys) ≡ nat_cmp (length xs) (length ys)
lex_ends xs ys i e =
    let p = length-drop i xs in
    let q = length-drop i ys in
    let z : min (length (drop i xs)) (length (drop i ys)) ≡ 0 = omega arith in
    let r = lex_short (drop i xs) (drop i ys) z in
    grind (arith, nat_tests)
