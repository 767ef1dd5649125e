-- What a strategy answers: what its question returns, and what it writes into the id sheet.
use Rattle.std.specs.Prelude.{ℕ, Bool, cond, List, length, Ok, Err, filter, Result, nat_le}
use Rattle.refusals.specs.declared.refusal.Refusal.{Refusal}
use Rattle.refusals.specs.declared.refusal.Refusal.TheVariants as R
use Rattle.runs.specs.declared.table.Table.{Table}
use Rattle.sheets.specs.Edits.{laid}
use Rattle.sheets.specs.Level.{numbers_of, size_of}
use Rattle.strategies.specs.declared.choice.Choice.{Choice}
use Rattle.strategies.specs.declared.choice.Choice.TheVariants as C
use Rattle.strategies.specs.declared.choice.Kind.{Kind}
use Rattle.strategies.specs.declared.choice.Kind.TheVariants.{Move, Merge, Drop}
use Rattle.strategies.specs.declared.declined.Declined.{Declined}
use Rattle.strategies.specs.declared.declined.Declined.TheVariants.{BadSetting, ManyRuns, HiddenTable}

-- what is chosen: what to do, with the tables of these numbers, the sum of their sizes, and where to; a drop has 0 in the last three
pub record Chosen : Type 0 where
  pub kind : Kind
  pub numbers : List ℕ
  pub bytes : ℕ
  pub destination : ℕ
  pub canonical : ℕ
  pub target : ℕ

-- doing nothing, a choice, or the strategy's own refusal
pub data Answer : Type 0 where
  nothing : Answer
  chooses : Chosen → Answer
  declines : Declined → Answer

-- the refusal that a strategy's refusal is
abbrev pub refusal_of : Declined → Refusal
refusal_of BadSetting = R.BadSetting
refusal_of ManyRuns = R.ManyRuns
refusal_of (HiddenTable place) = R.HiddenTable place

-- what is chosen, as a choice of a kind
abbrev pub as_choice : Kind → Chosen → Choice
as_choice Move c = C.Move (record { tables = record { count = length c.numbers; bytes = c.bytes }; dest_level = c.destination; canonical_level = c.canonical; target_size = c.target })
as_choice Merge c = C.Merge (record { tables = record { count = length c.numbers; bytes = c.bytes }; dest_level = c.destination; canonical_level = c.canonical; target_size = c.target })
as_choice Drop c = C.Drop (record { count = length c.numbers; bytes = c.bytes })

-- the choice, or the strategy's refusal
abbrev pub returned : Answer → Result Choice Declined
returned nothing = Ok C.DoNothing
returned (chooses c) = Ok (as_choice c.kind c)
returned (declines d) = Err d

-- the id sheet after: the numbers in its front, if there are any
abbrev pub written : Answer → List ℕ → List ℕ
written nothing ids = ids
written (chooses c) ids = laid c.numbers ids
written (declines d) ids = ids

-- the question on a lent id sheet of so many places
abbrev pub asked : Answer → ℕ → Result Choice Refusal
asked nothing places = Ok C.DoNothing
asked (chooses c) places = cond (nat_le (length c.numbers) places) (Ok (as_choice c.kind c)) (Err R.IdsTooShort)
asked (declines d) places = Err (refusal_of d)

-- what it leaves of the id sheet: refused, all of it
abbrev pub noted : Answer → List ℕ → List ℕ
noted nothing ids = ids
noted (chooses c) ids = cond (nat_le (length c.numbers) (length ids)) (laid c.numbers ids) ids
noted (declines d) ids = ids

module _ {K : Type 0} where
  -- the standing tables that pass a test, in sheet order, for a kind of job
  abbrev pub naming : Kind → ℕ → ℕ → ℕ → (Table K → Bool) → List (Table K) → Answer
  naming kind destination canonical target p ts =
      chooses (record { kind = kind; numbers = numbers_of (filter p ts); bytes = size_of (filter p ts); destination = destination; canonical = canonical; target = target })
