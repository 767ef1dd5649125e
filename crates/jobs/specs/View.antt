-- What a book holds, as the definitions have it.
use Rattle.std.specs.Prelude.{ℕ, List, map, length, take, Result}
use Rattle.refusals.specs.declared.refusal.Refusal.{Refusal}
use Rattle.runs.specs.declared.table.Table.{Table}
use Rattle.strategies.specs.Answer.{Answer}
use Rattle.books.specs.Book.{Question, Left}
use Rattle.books.specs.State as B
use Rattle.slots.specs.View.{slot}
use Rattle.jobs.specs.declared.job_book.JobBook.{JobBook}

-- book and sheet together: of the sheet the first tables stand
abbrev pub state : {K : Type 0} → JobBook → List (Table K) → B.State K
state book sheet = record { room = length sheet; standing = book.standing; blobs = book.blob_total; tables = take book.standing sheet; hidden = book.hidden; slots = map slot book.jobs }

-- what a call left
abbrev pub left : {K R : Type 0} → B.State K → List ℕ → Result R Refusal → Left K R
left st ids r = record { state = st; ids = ids; result = r }

-- the question of a strategy, with its settings, the blob total and the clock filled in
abbrev pub question : {K S : Type 0} → (S → List (Table K) → List ℕ → ℕ → ℕ → Answer) → S → ℕ → ℕ → Question K
question chooses settings blobs clock ts hs = chooses settings ts hs blobs clock
