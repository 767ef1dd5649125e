-- What a slot holds, as the definitions have it.
use Rattle.std.specs.Prelude.{ℕ, List, [], take, Some, None, Option}
use Rattle.strategies.specs.declared.choice.Kind.TheVariants as K
use Rattle.books.specs.Job.{Running}
use Rattle.slots.specs.declared.job.Job.{Job}
use Rattle.slots.specs.declared.job.Task.{Task}
use Rattle.slots.specs.declared.job.Task.TheVariants.{Move, Merge, Drop}

-- the job that does this with some tables
abbrev pub job_over : Task → List ℕ → Running
job_over (Move level) numbers = record { kind = K.Move; destination = level; numbers = numbers }
job_over (Merge level) numbers = record { kind = K.Merge; destination = level; numbers = numbers }
job_over Drop numbers = record { kind = K.Drop; destination = 0; numbers = numbers }

-- the job of a state over some tables, if it is one
abbrev pub slot_as : Option Task → List ℕ → Option Running
slot_as None numbers = None
slot_as (Some task) numbers = Some (job_over task numbers)

-- the job in a slot, if any
abbrev pub slot : Job → Option Running
slot job = slot_as job.state (take job.count job.numbers)

-- the numbers of the job in a slot
abbrev pub numbers_in : Option Running → List ℕ
numbers_in None = []
numbers_in (Some j) = j.numbers
