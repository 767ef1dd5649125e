-- What an answer says of the tables that pass a test, p, and what it writes into the id sheet.
use Rattle.std.specs.Prelude.{ℕ, ◌^◌, Bool, cond, List, length, Ok, Err, filter, Result, nat_le}
use Rattle.refusals.specs.declared.refusal.Refusal.{Refusal}
use Rattle.refusals.specs.declared.refusal.Refusal.TheVariants.{NotSound, IdsTooShort}
use Rattle.runs.specs.declared.table.Table.{Table}
use Rattle.sheets.specs.Edits.{laid}
use Rattle.sheets.specs.Level.{numbers_of, size_of}
pub use Rattle.sheets.specs.Tests.{Tests}
use Rattle.strategies.specs.declared.naming.Named.{Named}

module _ {K : Type 0} (p : Table K → Bool) (ts : List (Table K)) where
  -- how many pass, and their bytes
  abbrev pub passing : Named
  passing = record { count = length (numbers_of (filter p ts)); bytes = size_of (filter p ts) }

  -- the same where all sizes together are at most 2^53
  abbrev pub weighed : Result Named Refusal
  weighed = cond (nat_le (size_of ts) (2 ^ 53)) (Ok passing) (Err NotSound)

  -- and where the id sheet has a place for each
  abbrev pub named : ℕ → Result Named Refusal
  named places = cond (nat_le (size_of ts) (2 ^ 53)) (cond (nat_le (length (numbers_of (filter p ts))) places) weighed (Err IdsTooShort)) (Err NotSound)

  -- the numbers in sheet order, in the front of the id sheet; refused, it keeps its content
  abbrev pub written : List ℕ → List ℕ
  written ids = cond (nat_le (size_of ts) (2 ^ 53)) (cond (nat_le (length (numbers_of (filter p ts))) (length ids)) (laid (numbers_of (filter p ts)) ids) ids) ids
