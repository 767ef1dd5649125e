-- What a worker does to book and sheet, and what it says of it.
use Rattle.std.specs.Prelude.{ℕ, ◌-◌, ◌^◌, List, [], replicate, Ok, Err, Result}
use Rattle.std.specs.declared.ops.Bound.TheVariants.{Included}
use Rattle.refusals.specs.declared.refusal.Refusal.{Refusal}
use Rattle.keys.specs.declared.bounds.OwnedBounds.{OwnedBounds}
use Rattle.keys.specs.declared.stop_key.StopKey.{StopKey}
use Rattle.keys.specs.StopKey.{stop_ranks}
use Rattle.runs.specs.declared.fresh.Fresh.{Fresh}
use Rattle.strategies.specs.DropRange.{drop_range}
use Rattle.books.specs.Book.{Booking, Left}
use Rattle.books.specs.Calls.{close, give_up, book}
use Rattle.books.specs.State.{State}
use Rattle.jobs.specs.declared.ticket.Ticket.{Ticket}
use Rattle.ticket_client.specs.declared.worker.Ending.{Ending}
use Rattle.ticket_client.specs.declared.worker.Ending.TheVariants.{Closed, ClosedWithout, GivenUp}

-- from a tour's first stop to its last
abbrev pub bounds_of : ℕ → OwnedBounds StopKey
bounds_of t = record { start = Included (record { tour = t; stop = 0 }); end = Included (record { tour = t; stop = 2 ^ 32 - 1 }) }

-- the number of a ticket, or a refusal
abbrev pub numbered : Result Ticket Refusal → Result ℕ Refusal
numbered (Ok ticket) = Ok ticket.number
numbered (Err e) = Err e

-- of a booking, its ticket's number
abbrev pub ticket_of : Result Booking Refusal → Result ℕ Refusal
ticket_of (Ok booking) = Ok booking.ticket
ticket_of (Err e) = Err e

-- what a call left: the state, and the number of the ticket or the refusal
abbrev pub as_ticket : Left StopKey Booking → State StopKey × Result ℕ Refusal
as_ticket left = (left.state, ticket_of left.result)

-- the drop of a tour's tables is booked, on an id sheet of eight places
abbrev pub tour_booked : ℕ → State StopKey → State StopKey × Result ℕ Refusal
tour_booked tour st = as_ticket (book stop_ranks (drop_range stop_ranks (bounds_of tour)) st (replicate 8 0))

-- how a job was ended, after a refused close, by giving it up
abbrev pub given_up : Refusal → State StopKey → Result (Unit {0}) Refusal → State StopKey × Result Ending Refusal
given_up refusal st (Ok done) = (st, Ok (GivenUp refusal))
given_up refusal st (Err e) = (st, Err e)

module _ (n : ℕ) where
  -- a job of a number given up, after this refused close
  abbrev pub gives_up : Refusal → State StopKey → State StopKey × Result Ending Refusal
  gives_up refusal st = given_up refusal (give_up stop_ranks n st).0 (give_up stop_ranks n st).1

  -- closed, or else given up
  abbrev pub closed_or : State StopKey → Result (Unit {0}) Refusal → State StopKey × Result Ending Refusal
  closed_or st (Ok done) = (st, Ok Closed)
  closed_or st (Err refusal) = gives_up refusal st

  -- the job of a number ended by hand
  abbrev pub ended_by_hand : List (Fresh StopKey) → State StopKey → State StopKey × Result Ending Refusal
  ended_by_hand outputs st = closed_or (close stop_ranks n outputs st).0 (close stop_ranks n outputs st).1

  -- closed without outputs, after these were refused, or else given up
  abbrev pub closed_without_or : Refusal → State StopKey → Result (Unit {0}) Refusal → State StopKey × Result Ending Refusal
  closed_without_or refusal st (Ok done) = (st, Ok (ClosedWithout refusal))
  closed_without_or refusal st (Err e) = gives_up e st

  abbrev pub tries_without : Refusal → State StopKey → State StopKey × Result Ending Refusal
  tries_without refusal st = closed_without_or refusal (close stop_ranks n [] st).0 (close stop_ranks n [] st).1

  abbrev pub closed_or_without : State StopKey → Result (Unit {0}) Refusal → State StopKey × Result Ending Refusal
  closed_or_without st (Ok done) = (st, Ok Closed)
  closed_or_without st (Err refusal) = tries_without refusal st

  -- the job of a number ended
  abbrev pub ended : List (Fresh StopKey) → State StopKey → State StopKey × Result Ending Refusal
  ended outputs st = closed_or_without (close stop_ranks n outputs st).0 (close stop_ranks n outputs st).1

-- a drop that was booked is ended so
abbrev pub once_booked : (ℕ → State StopKey → State StopKey × Result Ending Refusal) → State StopKey → Result ℕ Refusal → State StopKey × Result Ending Refusal
once_booked end st (Ok n) = end n st
once_booked end st (Err e) = (st, Err e)

-- the drop of a tour is booked, and its job ended
abbrev pub dropped : ℕ → List (Fresh StopKey) → State StopKey → State StopKey × Result Ending Refusal
dropped tour outputs st = once_booked (λ n st. ended n outputs st) (tour_booked tour st).0 (tour_booked tour st).1

-- the same by hand
abbrev pub dropped_by_hand : ℕ → List (Fresh StopKey) → State StopKey → State StopKey × Result Ending Refusal
dropped_by_hand tour outputs st = once_booked (λ n st. ended_by_hand n outputs st) (tour_booked tour st).0 (tour_booked tour st).1
