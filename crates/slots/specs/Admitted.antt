-- Whether a job can start, and where.
use Rattle.std.specs.Prelude.{ℕ, Bool, not, List, is_some, Ok, Err, Option, Result}
use Rattle.std.specs.declared.cmp.Ordering.{Ordering}
use Rattle.refusals.specs.declared.refusal.Refusal.{Refusal}
use Rattle.runs.specs.declared.table.Table.{Table}
use Rattle.strategies.specs.Fifo.{place_of}
use Rattle.books.specs.Book.{unless_barred}
use Rattle.books.specs.Job.{Running}

-- a slot that runs no job
abbrev pub is_free : Option Running → Bool
is_free s = not (is_some s)

-- the place of the first free slot, in which a job starts, unless it may not
abbrev pub admitted : {K : Type 0} → (K → K → Ordering) → List (Table K) → List ℕ → List (Option Running) → Running → Result ℕ Refusal
admitted cmp ts hs slots j = unless_barred cmp ts hs slots j Err (Ok (place_of is_free slots))
