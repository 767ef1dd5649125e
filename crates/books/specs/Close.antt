-- Ending a job: closing it with its outputs, or giving it up.
use Rattle.std.specs.Prelude.{ℕ, zero, suc, Bool, true, false, cond, not, ◌&&◌, ◌||◌, List, [], ◌∷◌, map, length, Some, None, Ok, Err, filter, Option, Result, ◌==◌}
use Rattle.std.specs.List.{list_any}
use Rattle.std.specs.declared.cmp.Ordering.{Ordering}
use Rattle.std.specs.Option.{option_map}
use Rattle.std.specs.Ordering.{is_lt}
use Rattle.refusals.specs.declared.refusal.Refusal.{Refusal}
use Rattle.refusals.specs.declared.refusal.Refusal.TheVariants.{NoSuchJob, BadTable, BadOutputs, Full}
use Rattle.keys.specs.declared.key_range.KeyRange.{KeyRange}
use Rattle.keys.specs.KeyRange.{inside}
use Rattle.runs.specs.declared.fresh.Fresh.{Fresh}
use Rattle.runs.specs.declared.table.Table.{Table}
use Rattle.sheets.specs.HiddenSet.{showing}
use Rattle.sheets.specs.Level.{in_level}
use Rattle.runs.specs.Fresh.{settled}
use Rattle.sheets.specs.Tables.{memb, named, without, placed, inserts}
use Rattle.strategies.specs.declared.choice.Kind.{Kind}
use Rattle.strategies.specs.declared.choice.Kind.TheVariants.{Move, Merge, Drop}
use Rattle.books.specs.Booked.{span_held}
use Rattle.books.specs.Job.{Running, job_number, found, ended}
use Rattle.books.specs.Land.{has_room, fresh_ok}
use Rattle.books.specs.State.{State, with_tables, with_jobs}

-- the place of the first of a list that is at fault, given those before it, the newest first
abbrev pub first_fault : {X : Type 0} → (List X → X → Bool) → List X → List X → Option ℕ
first_fault fault seen [] = None
first_fault fault seen (x ∷ xs) = cond (fault seen x) (Some 0) (option_map suc (first_fault fault (x ∷ seen) xs))

module _ {K : Type 0} where
  -- a table of level 0 of this run
  abbrev pub in_run : ℕ → Table K → Bool
  in_run r t = in_level 0 t && t.run == r

  -- how many of the runs below this one have a table
  abbrev pub rank : List (Table K) → ℕ → ℕ
  rank ts zero = 0
  rank ts (suc r) = cond (list_any (in_run r) ts) (suc (rank ts r)) (rank ts r)

  -- level 0's runs counted anew: a table's run is how many runs below its own have a table
  abbrev pub recounted : List (Table K) → List (Table K)
  recounted ts = map (λ t. placed t.level (cond (in_level 0 t) (rank ts t.run) t.run) t) ts

  -- the tables that a closed job brings in: a move's own at the destination, a merge's outputs, none for a drop
  abbrev pub arrivals : Kind → ℕ → List ℕ → List (Fresh K) → List (Table K) → List (Table K)
  arrivals Move level ns outs ts = map (placed level 0) (filter (named ns) ts)
  arrivals Merge level ns outs ts = map (settled level 0) outs
  arrivals Drop level ns outs ts = []

module _ {K : Type 0} (cmp : K → K → Ordering) where
  -- its tables leave, the new ones come in each in its place, and level 0's runs are counted anew
  abbrev pub closed : Running → List (Fresh K) → List (Table K) → List (Table K)
  closed j outs ts = recounted (inserts cmp (without j.numbers ts) (arrivals j.kind j.destination j.numbers outs ts))

  -- an output may not stand with these, or has the number of one before it
  abbrev pub bad_table : List (Table K) → List (Fresh K) → Fresh K → Bool
  bad_table ts seen f = not (fresh_ok cmp ts f) || memb f.number (map (λ g. g.number) seen)

  -- it lies inside a span, if there is one
  abbrev pub in_span : Option (KeyRange K) → Fresh K → Bool
  in_span None f = false
  in_span (Some span) f = inside cmp span f.range

  -- it begins after its predecessor, if any, ends
  abbrev pub follows : List (Fresh K) → Fresh K → Bool
  follows [] f = true
  follows (g ∷ seen) f = is_lt (cmp g.range.max f.range.min)

  -- an output of a merge is outside the span of the job's tables, out of order, or meets its predecessor
  abbrev pub bad_output : Option (KeyRange K) → List (Fresh K) → Fresh K → Bool
  bad_output span seen f = not (in_span span f) || not (follows seen f)

  -- the place of bad outputs: none are wanted for a move or a drop, and some for a merge
  abbrev pub bad_outputs : Kind → Option (KeyRange K) → List (Fresh K) → Option ℕ
  bad_outputs Move span [] = None
  bad_outputs Move span (f ∷ fs) = Some 0
  bad_outputs Merge span [] = Some 0
  bad_outputs Merge span (f ∷ fs) = first_fault (bad_output span) [] (f ∷ fs)
  bad_outputs Drop span [] = None
  bad_outputs Drop span (f ∷ fs) = Some 0

  -- the job ends: its tables are shown and its slot is free
  abbrev pub freed : Running → State K → State K
  freed j st = with_jobs st (showing j.numbers st.hidden) (ended (job_number j.numbers) st.slots)

  -- closing a job, or finding the sheet full
  abbrev pub settled_or_full : Running → List (Fresh K) → State K → State K × Result (Unit {0}) Refusal
  settled_or_full j outs st =
      cond (has_room st.room (closed j outs st.tables))
      (with_tables (freed j st) (length (closed j outs st.tables)) (closed j outs st.tables), Ok tt)
      (st, Err Full)

  -- unless the outputs do not fit the job
  abbrev pub unless_outputs : Option ℕ → Running → List (Fresh K) → State K → State K × Result (Unit {0}) Refusal
  unless_outputs None j outs st = settled_or_full j outs st
  unless_outputs (Some place) j outs st = (st, Err (BadOutputs place))

  -- unless an output is malformed or its number is taken
  abbrev pub unless_tables : Option ℕ → Running → List (Fresh K) → State K → State K × Result (Unit {0}) Refusal
  unless_tables None j outs st = unless_outputs (bad_outputs j.kind (span_held cmp st.tables j) outs) j outs st
  unless_tables (Some place) j outs st = (st, Err (BadTable place))

  -- closing a job, if there is one
  abbrev pub close_found : Option Running → List (Fresh K) → State K → State K × Result (Unit {0}) Refusal
  close_found None outs st = (st, Err NoSuchJob)
  close_found (Some j) outs st = unless_tables (first_fault (bad_table st.tables) [] outs) j outs st

  -- closing the job of a number on a sound book
  abbrev pub close : ℕ → List (Fresh K) → State K → State K × Result (Unit {0}) Refusal
  close n outs st = close_found (found n st.slots) outs st

  -- giving a job up, if there is one
  abbrev pub give_up_found : Option Running → State K → State K × Result (Unit {0}) Refusal
  give_up_found None st = (st, Err NoSuchJob)
  give_up_found (Some j) st = (freed j st, Ok tt)

  -- giving the job of a number up: its tables stay as they are
  abbrev pub give_up : ℕ → State K → State K × Result (Unit {0}) Refusal
  give_up n st = give_up_found (found n st.slots) st
