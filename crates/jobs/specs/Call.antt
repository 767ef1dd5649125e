-- Calls as values, as the definitions have them.
use Rattle.std.specs.Prelude.{ℕ, List, Ok, Err, Result}
use Rattle.refusals.specs.declared.refusal.Refusal.{Refusal}
use Rattle.runs.specs.declared.table.Table.{Table}
use Rattle.strategies.specs.Answer.{Answer}
use Rattle.books.specs.Book.{Booking}
use Rattle.books.specs.Deed as D
use Rattle.books.specs.Deed.{Deed, landing, asking, looking, booking, closing, giving, ended, chosen, booked, names}
use Rattle.jobs.specs.declared.call.Booked.{Booked}
use Rattle.jobs.specs.declared.call.Call.{Call}
use Rattle.jobs.specs.declared.call.Call.TheVariants as C
use Rattle.jobs.specs.declared.call.Reply.{Reply}
use Rattle.jobs.specs.declared.call.Reply.TheVariants as R
use Rattle.jobs.specs.View.{question}

-- a call with an id sheet of this content: the question that its strategy answers, with the settings, the blob total and the clock filled in
abbrev pub deed : {K S : Type 0} → (S → List (Table K) → List ℕ → ℕ → ℕ → Answer) → ℕ → Call K S → List ℕ → Deed K
deed chooses blobs (C.Land fresh) ids = landing fresh
deed chooses blobs (C.Propose q) ids = asking (question chooses q.settings blobs q.clock) ids
deed chooses blobs (C.LookAhead q) ids = looking (question chooses q.settings blobs q.clock) ids
deed chooses blobs (C.Book q) ids = booking (question chooses q.settings blobs q.clock) ids
deed chooses blobs (C.Close ticket outputs) ids = closing ticket outputs.now
deed chooses blobs (C.GiveUp ticket) ids = giving ticket

-- what was booked, as the definitions have it
abbrev pub as_booking : Result Booked Refusal → Result Booking Refusal
as_booking (Ok b) = Ok (record { choice = b.choice; ticket = b.ticket })
as_booking (Err e) = Err e

-- a reply, with the numbers of its choice's tables, which are in the front of the id sheet
abbrev pub replied : Reply → List ℕ → D.Reply
replied (R.Ended r) ids = ended r
replied (R.Chosen r) ids = chosen r (names (λ c. c) r ids)
replied (R.Booked r) ids = booked (as_booking r) (names (λ b. b.choice) (as_booking r) ids)
