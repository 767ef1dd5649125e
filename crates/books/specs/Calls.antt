-- The calls on an open book: each tests first that book and sheet are sound.
use Rattle.std.specs.Prelude.{ℕ, cond, List, Err, Result}
use Rattle.std.specs.declared.cmp.Ordering.{Ordering}
use Rattle.refusals.specs.declared.refusal.Refusal.{Refusal}
use Rattle.refusals.specs.declared.refusal.Refusal.TheVariants.{NotSound}
use Rattle.runs.specs.declared.fresh.Fresh.{Fresh}
use Rattle.strategies.specs.declared.choice.Choice.{Choice}
use Rattle.books.specs.Booked.{state_ok}
use Rattle.books.specs.Book as B
use Rattle.books.specs.Close as C
use Rattle.books.specs.Land as L
use Rattle.books.specs.State.{State}

module _ {K : Type 0} (cmp : K → K → Ordering) where
  -- a call that asks no strategy
  abbrev tested : (State K → State K × Result (Unit {0}) Refusal) → State K → State K × Result (Unit {0}) Refusal
  tested call st = cond (state_ok cmp st) (call st) (st, Err NotSound)

  -- landing a fresh table
  abbrev pub land : Fresh K → State K → State K × Result (Unit {0}) Refusal
  land f st = tested (L.land cmp f) st

  -- closing the job of a number with its outputs
  abbrev pub close : ℕ → List (Fresh K) → State K → State K × Result (Unit {0}) Refusal
  close n outs st = tested (C.close cmp n outs) st

  -- giving the job of a number up
  abbrev pub give_up : ℕ → State K → State K × Result (Unit {0}) Refusal
  give_up n st = tested (C.give_up cmp n) st

  -- a call that asks one
  abbrev asks : {R : Type 0} → (State K → List ℕ → B.Left K R) → State K → List ℕ → B.Left K R
  asks call st ids = cond (state_ok cmp st) (call st ids) (record { state = st; ids = ids; result = Err NotSound })

  -- the question alone
  abbrev pub propose : B.Question K → State K → List ℕ → B.Left K Choice
  propose g st ids = asks (B.propose g) st ids

  -- asking twice, the second time with the first choice's tables hidden too
  abbrev pub look_ahead : B.Question K → State K → List ℕ → B.Left K Choice
  look_ahead g st ids = asks (B.look_ahead g) st ids

  -- booking what is chosen
  abbrev pub book : B.Question K → State K → List ℕ → B.Left K B.Booking
  book g st ids = asks (B.book cmp g) st ids
