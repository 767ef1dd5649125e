-- Calls as values, with a question in place of a strategy, and what a list of them leaves and says.
use Rattle.std.specs.Prelude.{ℕ, List, [], ◌∷◌, take, Ok, Err, Option, Result}
use Rattle.std.specs.declared.cmp.Ordering.{Ordering}
use Rattle.std.specs.Result.{result_err}
use Rattle.refusals.specs.declared.refusal.Refusal.{Refusal}
use Rattle.runs.specs.declared.fresh.Fresh.{Fresh}
use Rattle.strategies.specs.declared.choice.Choice.{Choice}
use Rattle.strategies.specs.Question.{count_in}
use Rattle.strategies.specs.Strategy.{Law}
use Rattle.books.specs.Book.{Question, Booking, Left}
use Rattle.books.specs.Calls.{land, close, give_up, propose, look_ahead, book}
use Rattle.books.specs.State.{State}

-- a call: a table to land; a question, with the content of the id sheet; a ticket's number, with the outputs of its job
pub data Deed (K : Type 0) : Type 0 where
  landing : Fresh K → Deed K
  asking : Question K → List ℕ → Deed K
  looking : Question K → List ℕ → Deed K
  booking : Question K → List ℕ → Deed K
  closing : ℕ → List (Fresh K) → Deed K
  giving : ℕ → Deed K

-- what a call returned, and for a choice the numbers that it names
pub data Reply : Type 0 where
  ended : Result (Unit {0}) Refusal → Reply
  chosen : Result Choice Refusal → List ℕ → Reply
  booked : Result Booking Refusal → List ℕ → Reply

-- the refusal that was returned, if any
abbrev pub refusal_in : Reply → Option Refusal
refusal_in (ended r) = result_err r
refusal_in (chosen r numbers) = result_err r
refusal_in (booked r numbers) = result_err r

-- the numbers that a reply names
abbrev pub numbers_in : Reply → List ℕ
numbers_in (ended r) = []
numbers_in (chosen r numbers) = numbers
numbers_in (booked r numbers) = numbers

-- the numbers that a returned choice names: as many of the id sheet's front
abbrev pub names : {R : Type 0} → (R → Choice) → Result R Refusal → List ℕ → List ℕ
names choice_of (Ok r) ids = take (count_in (choice_of r)) ids
names choice_of (Err e) ids = []

module _ {K : Type 0} where
  -- the reply of a call that asks no strategy
  abbrev pub as_ended : State K × Result (Unit {0}) Refusal → State K × Reply
  as_ended w = (w.0, ended w.1)

  -- the reply of a question, and of a look ahead
  abbrev pub as_chosen : Left K Choice → State K × Reply
  as_chosen l = (l.state, chosen l.result (names (λ c. c) l.result l.ids))

  -- the reply of a booking
  abbrev pub as_booked : Left K Booking → State K × Reply
  as_booked l = (l.state, booked l.result (names (λ b. b.choice) l.result l.ids))

module _ {K : Type 0} (cmp : K → K → Ordering) where
  -- the state after a call, and what it says
  abbrev pub perform : Deed K → State K → State K × Reply
  perform (landing f) st = as_ended (land cmp f st)
  perform (asking g ids) st = as_chosen (propose cmp g st ids)
  perform (looking g ids) st = as_chosen (look_ahead cmp g st ids)
  perform (booking g ids) st = as_booked (book cmp g st ids)
  perform (closing n outs) st = as_ended (close cmp n outs st)
  perform (giving n) st = as_ended (give_up cmp n st)

  -- the state after a list of calls
  abbrev pub after : List (Deed K) → State K → State K
  after [] st = st
  after (d ∷ ds) st = after ds (perform d st).0

  -- what the calls of a list say, in turn
  abbrev pub said : List (Deed K) → State K → List Reply
  said [] st = []
  said (d ∷ ds) st = (perform d st).1 ∷ said ds (perform d st).0

  -- the question of a call, if it puts one, keeps the law of strategies
  abbrev pub Keeps : Deed K → Type 0
  Keeps (landing f) = Unit {0}
  Keeps (asking g ids) = Law cmp g
  Keeps (looking g ids) = Law cmp g
  Keeps (booking g ids) = Law cmp g
  Keeps (closing n outs) = Unit {0}
  Keeps (giving n) = Unit {0}

  -- so do all of a list
  abbrev pub Keep : List (Deed K) → Type 0
  Keep [] = Unit {0}
  Keep (d ∷ ds) = Keeps d × Keep ds
