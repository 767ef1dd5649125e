-- A book on a lent sheet, and what a change of the sheet says.
use Rattle.std.specs.Prelude.{ℕ, List, length, take, Ok, Err, Option, Result}
use Rattle.std.specs.declared.cmp.Ordering.{Ordering}
use Rattle.refusals.specs.declared.refusal.Refusal.{Refusal}
use Rattle.runs.specs.declared.table.Table.{Table}
use Rattle.sheets.specs.Sound.{Sound}
use Rattle.books.specs.Job.{Running}
use Rattle.books.specs.State.{State}

-- the state of a book on a sheet of which the first n tables stand
abbrev pub on_sheet : {K : Type 0} → List (Table K) → ℕ → ℕ → List ℕ → List (Option Running) → State K
on_sheet sheet n blobs hidden slots = record { room = length sheet; standing = n; blobs = blobs; tables = take n sheet; hidden = hidden; slots = slots }

-- the first n tables of the sheet are sound
abbrev pub SoundOn : {K : Type 0} → (K → K → Ordering) → List (Table K) → ℕ → Type 0
SoundOn cmp sheet n = (blobs : ℕ) × Sound cmp (length sheet) n blobs (take n sheet)

-- how many stand after a change: as many as before where it was refused
abbrev pub count_after : ℕ → Result ℕ Refusal → ℕ
count_after n (Ok m) = m
count_after n (Err e) = n

-- done, or refused
abbrev pub said : Result ℕ Refusal → Result (Unit {0}) Refusal
said (Ok m) = Ok tt
said (Err e) = Err e
