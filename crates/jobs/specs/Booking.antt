-- What a booking says, with its ticket's number.
use Rattle.std.specs.Prelude.{Ok, Err, Result}
use Rattle.refusals.specs.declared.refusal.Refusal.{Refusal}
use Rattle.books.specs.Book as B
use Rattle.jobs.specs.declared.booking.Booking.{Booking}

-- granted, or refused
abbrev pub booked : Result Booking Refusal → Result B.Booking Refusal
booked (Ok b) = Ok (record { choice = b.choice; ticket = b.ticket.number })
booked (Err e) = Err e
