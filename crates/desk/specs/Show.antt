-- What is shown of an open book.
use Rattle.std.specs.Prelude.{◌≡◌, ℕ, cond, List, [], ◌∷◌, ◌++◌, Some, None, codes, map, nat_le, Option}
use Rattle.std.specs.List.{flat_map}
use Rattle.std.specs.Option.{IsSomeAnd}
use Rattle.strategies.specs.declared.choice.Kind.{Kind}
use Rattle.strategies.specs.declared.choice.Kind.TheVariants as K
use Rattle.slots.specs.declared.job.Task.{Task}
use Rattle.slots.specs.declared.job.Task.TheVariants.{Move, Merge, Drop}
use Rattle.books.specs.Job.{Running, job_number, running, found}
use Rattle.books.specs.State.{State}
use Rattle.reports.specs.Report.{job_line, list_line}
use Rattle.desk.specs.declared.histories.History.{History}
use Rattle.desk.specs.Desk.{table_lines}
use Rattle.desk.specs.History.{state_of}

-- a number put before the first that is not below it
abbrev pub put_in : ℕ → List ℕ → List ℕ
put_in n [] = n ∷ []
put_in n (m ∷ ms) = cond (nat_le n m) (n ∷ m ∷ ms) (m ∷ put_in n ms)

-- some numbers in ascending order
abbrev pub ascending : List ℕ → List ℕ
ascending [] = []
ascending (n ∷ ns) = put_in n (ascending ns)

-- what a job of a kind does
abbrev pub task_of : Kind → ℕ → Task
task_of K.Move level = Move level
task_of K.Merge level = Merge level
task_of K.Drop level = Drop

-- the line of a job that is known by this number, with the numbers of its tables
abbrev pub line_of_job : ℕ → Option Running → List ℕ
line_of_job n None = []
line_of_job n (Some j) = job_line n (task_of j.kind j.destination) (ascending j.numbers)

-- the numbers by which the running jobs are known
abbrev pub tickets : List (Option Running) → List ℕ
tickets slots = map (λ j. job_number j.numbers) (running slots)

-- a line for each running job, by ticket
abbrev pub job_lines : List (Option Running) → List ℕ
job_lines slots = flat_map (λ n. line_of_job n (found n slots)) (ascending (tickets slots))

-- the tables, the hidden numbers, the running jobs, and the end
abbrev pub shown : {K : Type 0} → (K → List ℕ) → State K → List ℕ
shown spelt st = table_lines spelt st.tables ++ (list_line (codes "hidden") (ascending st.hidden) ++ (job_lines st.slots ++ codes "end\n"))

-- the standing tables, hidden numbers and running jobs, where the book is open
abbrev pub Shows : {K : Type 0} → (K → List ℕ) → History K → List ℕ → Type 0
Shows spelt h text = IsSomeAnd (state_of h) (λ st. text ≡ shown spelt st)
