-- What is returned and written for an answer.
use Rattle.std.specs.Prelude.{◌≡◌, ℕ, List, length, Ok, Result}
use Rattle.runs.specs.declared.table.Table.{Table}
use Rattle.sheets.specs.Level.{numbers_of, size_of}
use Rattle.strategies.specs.declared.choice.Choice.{Choice}
use Rattle.strategies.specs.declared.choice.Input.{Input}
use Rattle.strategies.specs.declared.declined.Declined.{Declined}
use Rattle.strategies.specs.declared.naming.Named.{Named}
use Rattle.strategies.specs.Answer.{Answer, returned, written}

module _ {K : Type 0} where
  -- how many some tables are, and their bytes
  abbrev pub named_as : List (Table K) → Named
  named_as ts = record { count = length (numbers_of ts); bytes = size_of ts }

  -- some tables that go to a level
  abbrev pub going : ℕ → ℕ → ℕ → List (Table K) → Input
  going destination canonical target ts = record { tables = named_as ts; dest_level = destination; canonical_level = canonical; target_size = target }

-- the choice is what the answer returns, and the id sheet changes as it writes
pub record Gives (answer : Answer) (choice : Choice) (before after : List ℕ) : Type 0 where
  pub returns : ◌≡◌ {A = Result Choice Declined} (Ok choice) (returned answer)
  pub writes : after ≡ written answer before
