-- What dropping a tour answers and leaves: `sheet` is the whole lent slice, of which the first `count` stand.
use Rattle.std.specs.Prelude.{ℕ, Bool, cond, List, length, take, Ok, Err, filter, Result, nat_lt}
use Rattle.refusals.specs.declared.refusal.Refusal.{Refusal}
use Rattle.refusals.specs.declared.refusal.Refusal.TheVariants.{NotSound}
use Rattle.std.specs.declared.ops.Bound.TheVariants.{Included}
use Rattle.keys.specs.declared.bounds.OwnedBounds.{OwnedBounds}
use Rattle.keys.specs.declared.stop_key.StopKey.{StopKey}
use Rattle.keys.specs.Bounds.{within}
use Rattle.keys.specs.StopKey.{stop_ranks}
use Rattle.runs.specs.declared.table.Table.{Table}
use Rattle.sheets.specs.Edits.{laid}
use Rattle.sheets.specs.Level.{numbers_of}
use Rattle.sheets.specs.Tables.{without}
use Rattle.strategies.specs.declared.naming.Named.{Named}
use Rattle.strategies.specs.Naming as N
use Rattle.drop_tour.specs.declared.tour.Dropped.{Dropped}

-- from a tour's first stop to its last
abbrev pub bounds_of : ℕ → OwnedBounds StopKey
bounds_of t = record { start = Included (record { tour = t; stop = 0 }); end = Included (record { tour = t; stop = 4294967295 }) }

-- the table lies wholly inside the tour
abbrev pub of_tour : ℕ → Table StopKey → Bool
of_tour tour t = within stop_ranks (bounds_of tour) t.range

-- the tables that lie wholly inside the tour
abbrev pub leaving : ℕ → List (Table StopKey) → List (Table StopKey)
leaving tour ts = filter (of_tour tour) ts

-- those that stay
abbrev pub staying : ℕ → List (Table StopKey) → List (Table StopKey)
staying tour ts = without (numbers_of (leaving tour ts)) ts

module _ (tour count : ℕ) (sheet : List (Table StopKey)) where
  -- what naming answered, with how many stand after
  abbrev pub told : Result Named Refusal → Result Dropped Refusal
  told (Ok n) = Ok (record { named = n; standing = length (staying tour (take count sheet)) })
  told (Err e) = Err e

  -- the sheet after what naming answered
  abbrev pub kept_unless : Result Named Refusal → List (Table StopKey)
  kept_unless (Ok n) = laid (staying tour (take count sheet)) sheet
  kept_unless (Err e) = sheet

  -- what is named, and how many stand after; refused where fewer fit the sheet than are to stand, or as naming is
  abbrev pub dropped : ℕ → Result Dropped Refusal
  dropped places = cond (nat_lt (length sheet) count) (Err NotSound) (told (N.named (of_tour tour) (take count sheet) places))

  -- the sheet after; refused, it keeps its content
  abbrev pub left : ℕ → List (Table StopKey)
  left places = cond (nat_lt (length sheet) count) sheet (kept_unless (N.named (of_tour tour) (take count sheet) places))

  -- the id sheet after
  abbrev pub written : List ℕ → List ℕ
  written ids = cond (nat_lt (length sheet) count) ids (N.written (of_tour tour) (take count sheet) ids)
