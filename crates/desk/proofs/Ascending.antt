-- Some numbers in ascending order: there is one such arrangement of them.
use Rattle.std.proofs.Common.{◌≡◌, ℕ, suc, ◌+◌, ◌<◌, ◌≤◌, true, false, cond, leb, List, [], ◌∷◌, length, get_or, sum_by, sym, refl, ap, ◌∙◌, inl, inr, arith}
use Rattle.std.specs.Prelude.{⊤}
use Rattle.std.specs.List.Sorted.{IsPermutation, IsNonDecreasing}
use Rattle.std.proofs.lemmas.List.Sorted.{sum_by-IsPermutation}
use Rattle.std.proofs.lemmas.List.Sums.{sum_by-cons}
use Rattle.std.proofs.lemmas.Bool.{cases_Bool, leb-true}
use Rattle.std.proofs.lemmas.Bool.Decides.{nat_tests}
use Rattle.desk.specs.Show.{put_in, ascending}

-- each of some numbers is at least x
abbrev Above : ℕ → List ℕ → Type 0
Above x [] = ⊤
Above x (y ∷ ys) = (x ≤ y) × Above x ys

-- each is at most those behind it
abbrev Rises : List ℕ → Type 0
Rises [] = ⊤
Rises (x ∷ xs) = Above x xs × Rises xs

-- ---- what is put in its place
above_less : (x y : ℕ) (ys : List ℕ) → x ≤ y → Above y ys → Above x ys
above_less x y [] h a = tt
above_less x y (z ∷ zs) h a = (omega (arith, h, a.0), above_less x y zs h a.1)

above_put : (x n : ℕ) (ms : List ℕ) → x ≤ n → Above x ms → Above x (put_in n ms)
above_put x n [] h a = (h, tt)
above_put x n (m ∷ ms) h a =
    elim (leb n m) as (λ b. Above x (cond b (n ∷ m ∷ ms) (m ∷ put_in n ms))) [ true ↦ (h, a) | false ↦ (a.0, above_put x n ms h a.1) ]

put_rises : (n : ℕ) (ms : List ℕ) → Rises ms → Rises (put_in n ms)
put_rises n [] r = (tt, tt)
put_rises n (m ∷ ms) r =
    elim (leb n m) as (λ b. leb n m ≡ b → Rises (cond b (n ∷ m ∷ ms) (m ∷ put_in n ms))) [
      | true ↦ λ e. let low = leb-true n m e in ((low, above_less n m ms low r.0), r)
      | false ↦ λ e. let low : m ≤ n = grind (arith, nat_tests) in (above_put m n ms low r.0, put_rises n ms r.1)
    ] refl

rises : (ns : List ℕ) → Rises (ascending ns)
rises [] = tt
rises (n ∷ ns) = put_rises n (ascending ns) (rises ns)

-- ---- by sums
module _ (f : ℕ → ℕ) where
  abbrev total : List ℕ → ℕ
  total [] = 0
  total (n ∷ ns) = f n + total ns

  put_total : (n : ℕ) (ms : List ℕ) → total (put_in n ms) ≡ f n + total ms
  put_total n [] = refl
  put_total n (m ∷ ms) =
      elim (leb n m) as (λ b. total (cond b (n ∷ m ∷ ms) (m ∷ put_in n ms)) ≡ f n + (f m + total ms)) [ true ↦ refl | false ↦ omega (arith, put_total n ms) ]

  ascending_total : (ns : List ℕ) → total (ascending ns) ≡ total ns
  ascending_total [] = refl
  ascending_total (n ∷ ns) = omega (arith, put_total n (ascending ns), ascending_total ns)

  total_is : (ns : List ℕ) → sum_by f ns ≡ total ns
  total_is [] = refl
  total_is (n ∷ ns) = sum_by-cons f n ns ∙ ap (λ k. f n + k) (total_is ns)

-- one for each number up to n
abbrev upto : ℕ → ℕ → ℕ
upto n m = cond (leb m n) 1 0

none_upto : (n x : ℕ) (xs : List ℕ) → n < x → Above x xs → total (upto n) xs ≡ 0
none_upto n x [] h a = refl
none_upto n x (y ∷ ys) h a =
    let e : leb y n ≡ false = grind (arith, nat_tests, a.0) in
    let rest = none_upto n x ys h a.1 in
    let one : upto n y ≡ 0 = ap (λ b. cond b 1 0) e in
    omega (arith, one, rest)

some_upto : (n : ℕ) (ns : List ℕ) → 1 ≤ total (upto n) (n ∷ ns)
some_upto n ns =
    let e : leb n n ≡ true = grind (arith, nat_tests) in
    let one : upto n n ≡ 1 = ap (λ b. cond b 1 0) e in
    omega (arith, one)

-- the first is the least
least : (x y : ℕ) (xs ys : List ℕ) → Above x xs → total (upto y) (x ∷ xs) ≡ total (upto y) (y ∷ ys) → x ≤ y
least x y xs ys a e =
    elim (cases_Bool (leb x y)) [
      | inl h ↦ leb-true x y h
      | inr h ↦ absurd (
          let low : y < x = grind (arith, nat_tests) in
          let none = none_upto y x (x ∷ xs) low (omega arith, a) in
          let some = some_upto y ys in
          omega (arith, none, some, e))
    ]

-- two that rise, with one sum by whatever is summed, are one
pub one_only : (xs ys : List ℕ) → Rises xs → Rises ys → ((f : ℕ → ℕ) → total f xs ≡ total f ys) → xs ≡ ys
one_only [] [] r s e = refl
one_only [] (y ∷ ys) r s e = absurd (let z = e (λ _. 1) in omega (arith, z))
one_only (x ∷ xs) [] r s e = absurd (let z = e (λ _. 1) in omega (arith, z))
one_only (x ∷ xs) (y ∷ ys) r s e =
    let low = least x y xs ys r.0 (e (upto y)) in
    let high = least y x ys xs s.0 (sym (e (upto x))) in
    let same : x ≡ y = omega (arith, low, high) in
    let rest : (f : ℕ → ℕ) → total f xs ≡ total f ys = λ f. (let one : f x ≡ f y = ap f same in let z = e f in omega (arith, one, z)) in
    ap (λ n. n ∷ xs) same ∙ ap (λ ns. y ∷ ns) (one_only xs ys r.1 s.1 rest)

-- ---- sorted numbers rise
above_from : (x : ℕ) (xs : List ℕ) → ((j : ℕ) → j < length xs → x ≤ get_or xs j 0) → Above x xs
above_from x [] h = tt
above_from x (y ∷ ys) h = (h 0 (omega arith), above_from x ys (λ j p. h (suc j) (omega (arith, p))))

rises_from : (xs : List ℕ) → IsNonDecreasing xs → Rises xs
rises_from [] h = tt
rises_from (x ∷ xs) h = (above_from x xs (λ j p. h 0 (suc j) 0 (omega arith) (omega (arith, p))), rises_from xs (λ i j d p q. h (suc i) (suc j) d (omega (arith, p)) (omega (arith, q))))

-- what sorting makes of some numbers
pub sorted_is : (ns sorted : List ℕ) → IsPermutation ns sorted → IsNonDecreasing sorted → sorted ≡ ascending ns
sorted_is ns sorted same up =
    one_only sorted (ascending ns) (rises_from sorted up) (rises ns)
    (λ f. sym (total_is f sorted) ∙ sum_by-IsPermutation f ns sorted same ∙ total_is f ns ∙ sym (ascending_total f ns))
