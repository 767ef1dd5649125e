-- Opening a book.
use Rattle.std.specs.Prelude.{ℕ, cond, List, [], length, take, replicate, None, Ok, Err, Result}
use Rattle.std.specs.declared.cmp.Ordering.{Ordering}
use Rattle.refusals.specs.declared.refusal.Refusal.{Refusal}
use Rattle.refusals.specs.declared.refusal.Refusal.TheVariants.{NotSound}
use Rattle.runs.specs.declared.table.Table.{Table}
use Rattle.sheets.specs.Sound.{sheet_ok}
use Rattle.books.specs.State.{State}
use Rattle.jobs.specs.declared.job_book.JobBook.{JobBook}
use Rattle.jobs.specs.View.{state}

-- the state that a book and the sheet it was opened on make
abbrev pub opened : {K : Type 0} → List (Table K) → Result JobBook Refusal → Result (State K) Refusal
opened sheet (Ok book) = Ok (state book sheet)
opened sheet (Err e) = Err e

module _ {K : Type 0} (cmp : K → K → Ordering) where
  -- a book on a sound sheet of so much room, in which so many tables stand: nothing is hidden, and no job runs
  abbrev pub open_on : ℕ → ℕ → ℕ → List (Table K) → Result (State K) Refusal
  open_on room count blobs ts =
      cond (sheet_ok cmp room count blobs ts)
      (Ok (record { room = room; standing = count; blobs = blobs; tables = ts; hidden = []; slots = replicate 8 None }))
      (Err NotSound)

  -- the same of a sheet, whose first tables stand
  abbrev pub open_book : List (Table K) → ℕ → ℕ → Result (State K) Refusal
  open_book sheet count blobs = open_on (length sheet) count blobs (take count sheet)
