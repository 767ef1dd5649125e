-- What a close says, beside the ticket that it may hand back.
use Rattle.std.specs.Prelude.{◌≡◌, Ok, Err, Result}
use Rattle.refusals.specs.declared.refusal.Refusal.{Refusal}
use Rattle.jobs.specs.declared.ending.Unclosed.{Unclosed}
use Rattle.jobs.specs.declared.ticket.Ticket.{Ticket}

-- done, or refused
abbrev pub said : Result (Unit {0}) Unclosed → Result (Unit {0}) Refusal
said (Ok done) = Ok done
said (Err e) = Err e.refusal

-- a refused close hands back the ticket that was handed in
abbrev pub HandsBack : Ticket → Result (Unit {0}) Unclosed → Type 0
HandsBack ticket (Ok done) = Unit {0}
HandsBack ticket (Err e) = e.ticket ≡ ticket
