-- Running jobs, and the slots that hold them.
use Rattle.std.specs.Prelude.{ℕ, min, Bool, false, cond, List, [], ◌∷◌, Some, None, filter, Option, ◌==◌}
use Rattle.runs.specs.declared.table.Table.{Table}
use Rattle.sheets.specs.Tables.{named}
use Rattle.strategies.specs.declared.choice.Kind.{Kind}

-- a running job: what is done, the level that takes its tables (0 for a drop), and their numbers
pub record Running : Type 0 where
  pub kind : Kind
  pub destination : ℕ
  pub numbers : List ℕ

-- the smallest of a number and some others
abbrev pub smallest : ℕ → List ℕ → ℕ
smallest n [] = n
smallest n (m ∷ ms) = smallest (min n m) ms

-- a job is known by its smallest table number
abbrev pub job_number : List ℕ → ℕ
job_number [] = 0
job_number (n ∷ ns) = smallest n ns

-- the job in a slot, if any, has this number
abbrev pub is_known : ℕ → Option Running → Bool
is_known n None = false
is_known n (Some j) = job_number j.numbers == n

-- the jobs that run, in the order of their slots
abbrev pub running : List (Option Running) → List Running
running [] = []
running (None ∷ ss) = running ss
running (Some j ∷ ss) = j ∷ running ss

-- a job put into the first free slot
abbrev pub started : Running → List (Option Running) → List (Option Running)
started j [] = []
started j (None ∷ ss) = Some j ∷ ss
started j (Some k ∷ ss) = Some k ∷ started j ss

-- the job of a number
abbrev pub found : ℕ → List (Option Running) → Option Running
found n [] = None
found n (s ∷ ss) = cond (is_known n s) s (found n ss)

-- the slots without the job of a number
abbrev pub ended : ℕ → List (Option Running) → List (Option Running)
ended n [] = []
ended n (s ∷ ss) = cond (is_known n s) (None ∷ ss) (s ∷ ended n ss)

-- the standing tables of a job
abbrev pub held : {K : Type 0} → Running → List (Table K) → List (Table K)
held j ts = filter (named j.numbers) ts
