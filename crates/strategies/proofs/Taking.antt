-- The steps of a loop that takes the weight of the tables that pass a test off a number, down to 0.
use Rattle.std.proofs.Common.{◌≡◌, ℕ, ◌+◌, ◌-◌, ◌<◌, Bool, true, false, cond, List, [], ◌∷◌, length, get_or, drop, fold, sum_by, filter, ap, ◌∙◌, arith}
use Rattle.std.proofs.lemmas.List.Sums.{sum_by-cons}
use Rattle.runs.specs.declared.table.Table.{Table}
use Rattle.runs.proofs.Sorteds.{drop_read}
use Rattle.strategies.specs.Fifo.{weight}

-- the weight of those that pass
abbrev pub burden : {K : Type 0} → (Table K → Bool) → List (Table K) → ℕ
burden p us = sum_by weight (filter p us)

-- taken off one table after another, all of their weight is
pub taken_from : {K : Type 0} (whole : ℕ) (us : List (Table K)) → fold (λ left (t : Table K). (left - t.size) - t.linked) whole us ≡ whole - sum_by weight us
taken_from whole [] = omega arith
taken_from whole (t ∷ us) = omega (arith, taken_from ((whole - t.size) - t.linked) us, sum_by-cons weight t us)

module _ {K : Type 0} (p : Table K → Bool) (ts : List (Table K)) where
  -- before place i: `left` is what is left of `whole`
  abbrev pub Taking : ℕ → ℕ → ℕ → Type 0
  Taking whole left i = left - burden p (drop i ts) ≡ whole - burden p ts

  module _ (whole left i : ℕ) (t : Table K) (inside : i < length ts) (read : t ≡ get_or ts i t) (h : Taking whole left i) where
    rest : drop i ts ≡ t ∷ drop (i + 1) ts
    rest = drop_read ts i t inside read

    -- its size is taken off, then the bytes that it links to
    pub take_yes : (one next : ℕ) → one ≡ left - t.size → next ≡ one - t.linked → p t ≡ true → Taking whole next (i + 1)
    take_yes one next f k e =
        let kept : filter p (drop i ts) ≡ t ∷ filter p (drop (i + 1) ts) =
        ap (filter p) rest ∙ ap (λ b. cond b (t ∷ filter p (drop (i + 1) ts)) (filter p (drop (i + 1) ts))) e in
        let w = ap (sum_by weight) kept ∙ sum_by-cons weight t (filter p (drop (i + 1) ts)) in
        omega (arith, h, w)

    pub take_not : (next : ℕ) → next ≡ left → p t ≡ false → Taking whole next (i + 1)
    take_not next f e =
        let kept : filter p (drop i ts) ≡ filter p (drop (i + 1) ts) =
        ap (filter p) rest ∙ ap (λ b. cond b (t ∷ filter p (drop (i + 1) ts)) (filter p (drop (i + 1) ts))) e in
        omega (arith, h, ap (sum_by weight) kept)
