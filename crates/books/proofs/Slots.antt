-- A job in the first free slot is beside the others, and where it ends they are left.
use Rattle.std.proofs.Common.{◌≡◌, ℕ, suc, ◌<◌, true, false, cond, eqb, List, [], ◌∷◌, length, Some, None, Option, sym, refl, ap, subst, arith}
use Rattle.std.proofs.lemmas.Bool.{eqb-true}
use Rattle.sheets.specs.Members.{In}
use Rattle.books.specs.Job.{Running, job_number, is_known, running, started, found, ended}
use Rattle.books.proofs.Outs.{Out, out_in, first, next}

pub started_out : (j : Running) (slots : List (Option Running)) → length (running slots) < length slots → Out j (running (started j slots)) (running slots)
started_out j [] h = absurd (omega arith)
started_out j (None ∷ slots) h = first
started_out j (Some k ∷ slots) h = next (started_out j slots (omega arith))

pub started_length : (j : Running) (slots : List (Option Running)) → length (started j slots) ≡ length slots
started_length j [] = refl
started_length j (None ∷ slots) = refl
started_length j (Some k ∷ slots) = ap suc (started_length j slots)

pub ended_length : (n : ℕ) (slots : List (Option Running)) → length (ended n slots) ≡ length slots
ended_length n [] = refl
ended_length n (s ∷ slots) = let rest = ended_length n slots in elim (is_known n s) as (λ b. length (cond b (None ∷ slots) (s ∷ ended n slots)) ≡ suc (length slots)) [ true ↦ refl | false ↦ ap suc rest ]

-- what was found is the job of the number, beside those that are left
abbrev BesideLeft : ℕ → List Running → List Running → Option Running → Type 0
BesideLeft n jobs rest None = Unit {0}
BesideLeft n jobs rest (Some j) = (job_number j.numbers ≡ n) × Out j jobs rest

behind : (n : ℕ) (k : Running) (jobs rest : List Running) (o : Option Running) → BesideLeft n jobs rest o → BesideLeft n (k ∷ jobs) (k ∷ rest) o
behind n k jobs rest None w = tt
behind n k jobs rest (Some j) w = (w.0, next w.1)

-- the job that was found, beside those that run where its slot is freed
abbrev pub Found : ℕ → List (Option Running) → Option Running → Type 0
Found n slots o = BesideLeft n (running slots) (running (ended n slots)) o

pub found_out : (n : ℕ) (slots : List (Option Running)) → Found n slots (found n slots)
found_out n [] = tt
found_out n (None ∷ slots) = found_out n slots
found_out n (Some k ∷ slots) =
    let rest = found_out n slots in
    elim (eqb (job_number k.numbers) n)
    as (λ b. eqb (job_number k.numbers) n ≡ b → BesideLeft n (k ∷ running slots) (running (cond b (None ∷ slots) (Some k ∷ ended n slots))) (cond b (Some k) (found n slots))) [
      | true ↦ λ e. (eqb-true _ _ e, first)
      | false ↦ λ e. behind n k (running slots) (running (ended n slots)) (found n slots) rest
    ] refl

-- the same, where the slot is freed by the job's own number
pub freed_out : (n : ℕ) (slots : List (Option Running)) (j : Running) → Found n slots (Some j) → Out j (running slots) (running (ended (job_number j.numbers) slots))
freed_out n slots j w = subst (λ k. Out j (running slots) (running (ended k slots))) (sym w.0) w.1

-- the job of a number runs
pub found_runs : (n : ℕ) (slots : List (Option Running)) (j : Running) → found n slots ≡ Some j → In j (running slots)
found_runs n slots j at = out_in (freed_out n slots j (subst (Found n slots) at (found_out n slots)))
