-- A running job is known by one of its tables, and no two by one number.
use Rattle.std.proofs.Common.{◌≡◌, ℕ, ◌<◌, ◌≤◌, min, List, [], ◌∷◌, length, Ordering, sym, refl, ap, ◌∙◌, inl, inr, arith}
use Rattle.std.proofs.lemmas.Bool.{cases_lt}
use Rattle.runs.specs.declared.table.Table.{Table}
use Rattle.sheets.specs.Members.{In, here, later, Every, Pairs}
use Rattle.sheets.specs.Tables.{memb}
use Rattle.sheets.proofs.Each.{in_cases, in_memb, pairs_weaker}
use Rattle.books.specs.Booked.{Disjoint, Booked}
use Rattle.books.specs.Job.{Running, smallest, job_number}

smallest_in : (n : ℕ) (ns : List ℕ) → In (smallest n ns) (n ∷ ns)
smallest_in n [] = here refl
smallest_in n (m ∷ ms) =
    let rest : In (smallest (min n m) ms) (min n m ∷ ms) = smallest_in (min n m) ms in
    elim (in_cases rest) [
      | inl e ↦ elim (cases_lt m n) [
        | inl l ↦ let q : min n m ≡ m = omega arith in later (here (e ∙ q))
        | inr l ↦ let q : min n m ≡ n = omega arith in here (e ∙ q)
      ]
      | inr k ↦ later (later k)
    ]

smallest_least : (n : ℕ) (ns : List ℕ) → Every (λ m. smallest n ns ≤ m) (n ∷ ns)
smallest_least n [] k m = elim (in_cases m) [ inl e ↦ omega arith | inr i ↦ elim i [ ] ]
smallest_least n (m ∷ ms) k i =
    let rest = smallest_least (min n m) ms in
    let low = rest (min n m) (here refl) in
    elim (in_cases i) [ inl e ↦ omega arith | inr j ↦ elim (in_cases j) [ inl e ↦ omega arith | inr l ↦ rest k (later l) ] ]

-- the number of a job is one of its tables', and none of them has a smaller one
pub number_in : (ns : List ℕ) → 0 < length ns → In (job_number ns) ns
number_in [] h = absurd (omega arith)
number_in (n ∷ ns) h = smallest_in n ns

pub number_least : (ns : List ℕ) → Every (λ n. job_number ns ≤ n) ns
number_least [] n m = elim m [ ]
number_least (k ∷ ks) n m = smallest_least k ks n m

module _ {K : Type 0} {cmp : K → K → Ordering} {ts : List (Table K)} {hidden : List ℕ} {jobs : List Running} (b : Booked cmp ts hidden jobs) where
  -- no two running jobs are known by one number
  pub jobs_differ : Pairs (λ j k. job_number j.numbers ≡ job_number k.numbers → ⊥) jobs
  jobs_differ = pairs_weaker Disjoint _
      (λ j k m n d e. d (job_number k.numbers) (ap (λ x. memb x j.numbers) (sym e) ∙ in_memb _ j.numbers (number_in j.numbers (b.filled j m))) (in_memb _ k.numbers (number_in k.numbers (b.filled k n))))
      b.disjoint
