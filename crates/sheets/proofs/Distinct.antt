-- Numbers of which none stands twice: by pairs, by counting, and, where they are sorted, by neighbours.
use Rattle.std.proofs.Common.{◌||◌, ◌≡◌, ℕ, suc, ◌<◌, ◌≤◌, Bool, true, false, cond, not, ◌&&◌, eqb, List, [], ◌∷◌, length, get_or, Decides, count_by, sym, refl, ap, ◌∙◌, inl, inr, arith}
use Rattle.std.specs.List.Sorted.{IsPermutation, IsNonDecreasing}
use Rattle.std.proofs.lemmas.List.Sorted.{sum_by-IsPermutation}
use Rattle.std.proofs.lemmas.Bool.{true≢false, cases_Bool, both_ways, eq-eqb, ne_eqb, eqb-true, eqb-false, and_parts, and_from, not-true, not_from_false}
use Rattle.std.proofs.lemmas.Bool.Decides.{same_from_decides, Decides-like}
use Rattle.runs.specs.declared.table.Table.{Table}
use Rattle.runs.proofs.Falls.{count_yes, count_no}
use Rattle.sheets.specs.Level.{numbers_of}
use Rattle.sheets.specs.Members.{In, here, later, Pairs, none, more}
use Rattle.sheets.specs.Sound.{Differ, distinct}
use Rattle.sheets.specs.Tables.{memb}
use Rattle.sheets.proofs.Each.{in_map, map_in, memb_in, in_memb}

-- ---- the numbers of tables that differ pair by pair
module _ {K : Type 0} where
  pub differ_from : (ts : List (Table K)) → distinct (numbers_of ts) ≡ true → Pairs Differ ts
  differ_from [] h = none
  differ_from (t ∷ ts) h =
      let a = and_parts (not (memb t.number (numbers_of ts))) (distinct (numbers_of ts)) h in
      let lacks : memb t.number (numbers_of ts) ≡ false = not-true _ a.0 in
      more (λ u m e. both_ways _ lacks (in_memb t.number (numbers_of ts) (at t.number u.number e (map_in (λ x. x.number) ts u m)))) (differ_from ts a.1)
    where
      at : (m n : ℕ) {ns : List ℕ} → m ≡ n → In n ns → In m ns
      at m n e (here f) = here (e ∙ f)
      at m n e (later k) = later (at m n e k)

  pub differ_to : {ts : List (Table K)} → Pairs Differ ts → distinct (numbers_of ts) ≡ true
  differ_to none = refl
  differ_to (more {x = t} {xs = ts} h ps) =
      and_from (not (memb t.number (numbers_of ts))) (distinct (numbers_of ts))
      (not_from_false _ (elim (cases_Bool (memb t.number (numbers_of ts))) [
        | inl e ↦ absurd (let w = in_map (λ x. x.number) ts t.number (memb_in t.number (numbers_of ts) e) in h w.0 w.1 w.2)
        | inr e ↦ e
      ]))
      (differ_to ps)

-- ---- by counting
abbrev occurs : ℕ → List ℕ → ℕ
occurs n xs = count_by (λ x. eqb x n) xs

abbrev Once : List ℕ → Type 0
Once xs = (n : ℕ) → occurs n xs ≤ 1

occurs_yes : (n : ℕ) (xs : List ℕ) → memb n xs ≡ true → 0 < occurs n xs
occurs_yes n [] h = absurd (true≢false (sym h))
occurs_yes n (x ∷ xs) h =
    elim (eqb x n) as (λ b. eqb x n ≡ b → (b || memb n xs) ≡ true → 0 < occurs n (x ∷ xs)) [
      | true ↦ λ e k. omega (arith, count_yes (λ y. eqb y n) x xs e)
      | false ↦ λ e k. omega (arith, count_no (λ y. eqb y n) x xs e, occurs_yes n xs k)
    ] refl h

occurs_no : (n : ℕ) (xs : List ℕ) → memb n xs ≡ false → occurs n xs ≡ 0
occurs_no n [] h = refl
occurs_no n (x ∷ xs) h =
    elim (eqb x n) as (λ b. eqb x n ≡ b → (b || memb n xs) ≡ false → occurs n (x ∷ xs) ≡ 0) [
      | true ↦ λ e k. absurd (true≢false k)
      | false ↦ λ e k. count_no (λ y. eqb y n) x xs e ∙ occurs_no n xs k
    ] refl h

once_from : (xs : List ℕ) → distinct xs ≡ true → Once xs
once_from [] h n = omega arith
once_from (x ∷ xs) h n =
    let a = and_parts (not (memb x xs)) (distinct xs) h in
    let here' = occurs_no x xs (not-true _ a.0) in
    let rest = once_from xs a.1 n in
    elim (cases_Bool (eqb x n)) [
      | inl e ↦ let same : occurs n xs ≡ occurs x xs = ap (λ k. occurs k xs) (sym (eqb-true x n e)) in omega (arith, count_yes (λ y. eqb y n) x xs e)
      | inr e ↦ omega (arith, count_no (λ y. eqb y n) x xs e)
    ]

once_to : (xs : List ℕ) → Once xs → distinct xs ≡ true
once_to [] f = refl
once_to (x ∷ xs) f =
    let first = count_yes (λ y. eqb y x) x xs (eq-eqb x x refl) in
    let only = f x in
    and_from (not (memb x xs)) (distinct xs)
    (not_from_false _ (elim (cases_Bool (memb x xs)) [ inl e ↦ absurd (omega (arith, occurs_yes x xs e)) | inr e ↦ e ]))
    (once_to xs (λ n. elim (cases_Bool (eqb x n)) [ inl e ↦ omega (arith, f n, count_yes (λ y. eqb y n) x xs e) | inr e ↦ omega (arith, f n, count_no (λ y. eqb y n) x xs e) ]))

pub distinct_once : (xs : List ℕ) → Decides (distinct xs) (Once xs)
distinct_once xs = (once_from xs, once_to xs)

-- the order does not matter
pub distinct_shuffled : (xs ys : List ℕ) → IsPermutation xs ys → distinct ys ≡ distinct xs
distinct_shuffled xs ys s =
    let same : (n : ℕ) → occurs n ys ≡ occurs n xs = λ n. sum_by-IsPermutation (λ x. cond (eqb x n) 1 0) xs ys s in
    same_from_decides (distinct ys) (distinct xs) (distinct_once ys)
    (Decides-like (distinct xs) (λ f n. omega (arith, f n, same n)) (λ f n. omega (arith, f n, same n)) (distinct_once xs))

-- ---- numbers that rise: a number stands again only right behind itself
above : (n : ℕ) (xs : List ℕ) → ((k : ℕ) → k < length xs → n < get_or xs k 0) → memb n xs ≡ false
above n [] f = refl
above n (x ∷ xs) f =
    let e : eqb x n ≡ false = ne_eqb x n (λ q. omega (arith, f 0 (omega arith))) in
    rw e (above n xs (λ k h. f (suc k) (omega arith)))

-- each differs from the next
abbrev pub differ_next : List ℕ → Bool
differ_next [] = true
differ_next (x ∷ []) = true
differ_next (x ∷ y ∷ ys) = not (eqb x y) && differ_next (y ∷ ys)

pub risen : (xs : List ℕ) → IsNonDecreasing xs → distinct xs ≡ differ_next xs
risen [] up = refl
risen (x ∷ []) up = refl
risen (x ∷ y ∷ ys) up =
    let rest = risen (y ∷ ys) (λ i j d h k. up (suc i) (suc j) d (omega arith) (omega arith)) in
    elim (cases_Bool (eqb x y)) [
      | inl e ↦ let f : eqb y x ≡ true = eq-eqb y x (sym (eqb-true x y e)) in rw (e, f) refl
      | inr e ↦
          let ne = eqb-false x y e in
          let lacks = above x (y ∷ ys) (λ k h. omega (arith, ne, up 0 1 0 (omega arith) (omega arith), up 1 (suc k) 0 (omega arith) (omega arith))) in
          rw (e, lacks) rest
    ]
