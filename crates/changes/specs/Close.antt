-- A job closed in the lent sheet.
use Rattle.std.specs.Prelude.{◌≡◌, ℕ, ◌+◌, ◌^◌, Bool, ◌&&◌, List, length, Some, Ok, Err, sum_by, Option, Result, nat_le}
use Rattle.std.specs.declared.cmp.Ordering.{Ordering}
use Rattle.refusals.specs.declared.refusal.Refusal.{Refusal}
use Rattle.runs.specs.declared.fresh.Fresh.{Fresh}
use Rattle.runs.specs.declared.table.Table.{Table}
use Rattle.sheets.specs.Level.{size_of}
use Rattle.sheets.specs.Members.{In}
use Rattle.sheets.specs.Tables.{without, inserts}
use Rattle.books.specs.Booked.{Booked}
use Rattle.books.specs.Close.{arrivals, freed, close_found}
use Rattle.books.specs.Job.{Running}
use Rattle.books.specs.State.{State}
use Rattle.changes.specs.declared.close.RunningJob.{RunningJob}
use Rattle.changes.specs.Changes.{on_sheet, count_after, said}

-- a running job, as the definitions have it, for a destination
abbrev pub job_to : ℕ → RunningJob → Running
job_to destination r = record { kind = r.kind; destination = destination; numbers = r.numbers.now }

-- a running job, as the definitions have it
abbrev pub job : RunningJob → Running
job r = job_to r.destination r

-- the tables that stay and the outputs fit the sheet, and their sizes together are at most 2^53
abbrev pub merge_fits : {K : Type 0} → ℕ → List (Table K) → List (Fresh K) → Bool
merge_fits room stay outs = nat_le (length stay + length outs) room && nat_le (size_of stay + sum_by (λ f. f.size) outs) (2 ^ 53)

module _ {K : Type 0} (cmp : K → K → Ordering) where
  -- a job's tables left and what it brings in came, each in its place; level 0's runs are not counted anew yet
  abbrev pub swapped : Running → List (Fresh K) → List (Table K) → List (Table K)
  swapped j outs ts = inserts cmp (without j.numbers ts) (arrivals j.kind j.destination j.numbers outs ts)

  -- the job runs in a book that is sound with these tables
  pub record Runs (ts : List (Table K)) (j : Running) : Type 0 where
    pub hidden : List ℕ
    pub jobs : List Running
    pub book : Booked cmp ts hidden jobs
    pub runs : In j jobs

  -- the job ends, unless its close was refused
  abbrev pub ended_by : Result ℕ Refusal → Running → State K → State K
  ended_by (Ok n) j st = freed cmp j st
  ended_by (Err e) j st = st

  -- what closing the job says on every book with this sheet
  abbrev pub Says : Running → List (Fresh K) → List (Table K) → ℕ → Result (Unit {0}) Refusal → Type 0
  Says j outs sheet n r = (blobs : ℕ) (hidden : List ℕ) (slots : List (Option Running)) → r ≡ (close_found cmp (Some j) outs (on_sheet sheet n blobs hidden slots)).1

  -- The sheet, of which n tables stood, was left as the other, and r was returned: on every book with this sheet that is what closing the job does.
  abbrev pub Closes : Running → List (Fresh K) → List (Table K) → ℕ → List (Table K) → Result ℕ Refusal → Type 0
  Closes j outs sheet n left r =
      (blobs : ℕ) (hidden : List ℕ) (slots : List (Option Running))
      → close_found cmp (Some j) outs (on_sheet sheet n blobs hidden slots) ≡ (ended_by r j (on_sheet left (count_after n r) blobs hidden slots), said r)
