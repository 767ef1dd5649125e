-- A list of calls, and what they leave of the sheet and of their outcomes.
use Rattle.std.specs.Prelude.{ℕ, List, [], ◌∷◌, Some, Option}
use Rattle.std.specs.declared.cmp.Ordering.{Ordering}
use Rattle.std.specs.Option.{option_map}
use Rattle.runs.specs.declared.table.Table.{Table}
use Rattle.sheets.specs.Edits.{laid}
use Rattle.strategies.specs.Answer.{Answer}
use Rattle.books.specs.Deed.{Deed, Reply, numbers_in, perform}
use Rattle.books.specs.State.{State}
use Rattle.jobs.specs.declared.call.Call.{Call}
use Rattle.jobs.specs.Call.{deed, replied}
use Rattle.history.specs.declared.replay.Outcome.{Outcome}

-- the calls of a list that have an outcome, each with the content of its id sheet, under a strategy and a blob total
abbrev pub deeds : {K S : Type 0} → (S → List (Table K) → List ℕ → ℕ → ℕ → Answer) → ℕ → List (Call K S) → List Outcome → List (Deed K)
deeds chooses blobs [] os = []
deeds chooses blobs (c ∷ cs) [] = []
deeds chooses blobs (c ∷ cs) (o ∷ os) = deed chooses blobs c o.ids.now ∷ deeds chooses blobs cs os

-- the sheet after a list of calls: after each, what stands lies over its front, and what lies past that is kept
abbrev pub sheet_after : {K : Type 0} → (K → K → Ordering) → List (Deed K) → State K → List (Table K) → List (Table K)
sheet_after cmp [] st sheet = sheet
sheet_after cmp (d ∷ ds) st sheet = sheet_after cmp ds (perform cmp d st).0 (laid (perform cmp d st).0.tables sheet)

-- what an outcome shows: the reply, if there is one, with the numbers that it names, and the id sheet
abbrev pub shown : Outcome → Option Reply × List ℕ
shown o = (option_map (λ r. replied r o.ids.now) o.reply, o.ids.now)

-- the outcomes once these replies are there: the numbers that each names lie over the front of its id sheet, whose rest is kept, and so are all further outcomes
abbrev pub answered : List Reply → List (Option Reply × List ℕ) → List (Option Reply × List ℕ)
answered [] os = os
answered (r ∷ rs) [] = []
answered (r ∷ rs) (o ∷ os) = (Some r, laid (numbers_in r) o.1) ∷ answered rs os
