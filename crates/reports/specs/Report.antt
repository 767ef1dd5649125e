-- The lines of the answers.
use Rattle.std.specs.Prelude.{ℕ, List, [], ◌∷◌, ◌++◌, codes, decimal}
use Rattle.std.specs.List.{flat_map, join_with_byte}
use Rattle.refusals.specs.declared.refusal.Refusal.{Refusal}
use Rattle.refusals.specs.declared.refusal.Refusal.TheVariants.{NotSound, NoSuchJob, BadTable, BadOutputs, Full, BadSetting, ManyRuns, HiddenTable, IdsTooShort, NamesNoTable, AlreadyHidden, SpanTaken, BookFull, KeyTooLong}
use Rattle.refusals.specs.Refusal.{number_of, layer_of, place_of, letter_of}
use Rattle.runs.specs.declared.table.Table.{Table}
use Rattle.strategies.specs.declared.choice.Choice.{Choice}
use Rattle.strategies.specs.declared.choice.Choice.TheVariants as C
use Rattle.strategies.specs.declared.choice.Input.{Input}
use Rattle.slots.specs.declared.job.Task.{Task}
use Rattle.slots.specs.declared.job.Task.TheVariants as T
use Rattle.reports.specs.declared.report.Done.{Done}
use Rattle.reports.specs.declared.report.Done.TheVariants.{Landed, Closed, GivenUp}

-- some words, with a space between two, and the end of the line
abbrev pub line_of : List (List ℕ) → List ℕ
line_of [] = 10 ∷ []
line_of (w ∷ []) = w ++ (10 ∷ [])
line_of (w ∷ v ∷ ws) = w ++ (32 ∷ line_of (v ∷ ws))

-- each number behind a space
abbrev pub spaced : List ℕ → List ℕ
spaced ns = flat_map (λ n. 32 ∷ decimal n) ns

-- some numbers behind a title, as `hidden: 3 4`
abbrev pub list_line : List ℕ → List ℕ → List ℕ
list_line title ns = title ++ (58 ∷ (spaced ns ++ (10 ∷ [])))

-- where a move or a merge goes, and the bytes that its tables have together
abbrev pub input_text : Input → List ℕ
input_text input =
    join_with_byte 32
    (codes "to" ∷ decimal input.dest_level ∷ codes "canonical" ∷ decimal input.canonical_level ∷ codes "target" ∷ decimal input.target_size ∷ codes "bytes" ∷ decimal input.tables.bytes ∷ [])

-- a choice, with the numbers of its tables
abbrev pub choice_text : Choice → List ℕ → List ℕ
choice_text C.DoNothing ns = codes "nothing"
choice_text (C.Move input) ns = codes "move " ++ (input_text input ++ (58 ∷ spaced ns))
choice_text (C.Merge input) ns = codes "merge " ++ (input_text input ++ (58 ∷ spaced ns))
choice_text (C.Drop named) ns = codes "drop bytes " ++ (decimal named.bytes ++ (58 ∷ spaced ns))

-- what was chosen
abbrev pub choice_line : Choice → List ℕ → List ℕ
choice_line choice ns = line_of (choice_text choice ns ∷ [])

-- what was booked, behind the number of its ticket
abbrev pub booked_line : ℕ → Choice → List ℕ → List ℕ
booked_line ticket choice ns = line_of (codes "booked" ∷ decimal ticket ∷ choice_text choice ns ∷ [])

-- what is done with a job's tables
abbrev pub task_text : Task → List ℕ
task_text (T.Move level) = codes "move to " ++ decimal level
task_text (T.Merge level) = codes "merge to " ++ decimal level
task_text T.Drop = codes "drop"

-- a running job, by its number, with the numbers of its tables
abbrev pub job_line : ℕ → Task → List ℕ → List ℕ
job_line ticket task ns = codes "job " ++ (decimal ticket ++ (32 ∷ list_line (task_text task) ns))

-- what was done
abbrev pub done_text : Done → List ℕ
done_text Landed = codes "landed"
done_text Closed = codes "closed"
done_text GivenUp = codes "given up"

-- the line of what was done
abbrev pub done_line : Done → List ℕ
done_line done = line_of (done_text done ∷ [])

-- a book that was opened on some tables
abbrev pub opened_line : ℕ → List ℕ
opened_line count = line_of (codes "opened" ∷ decimal count ∷ [])

-- a refusal in plain words
abbrev pub refusal_words : Refusal → List ℕ
refusal_words NotSound = codes "the book or the sheet is not sound"
refusal_words NoSuchJob = codes "no running job has this number"
refusal_words (BadTable at) = codes "a table is malformed or its number is taken"
refusal_words (BadOutputs at) = codes "the outputs do not fit the job"
refusal_words Full = codes "the sheet or the total of sizes would be passed"
refusal_words BadSetting = codes "a setting is outside its limits"
refusal_words ManyRuns = codes "level 0 has more than one run"
refusal_words (HiddenTable at) = codes "a table of level 0 is hidden"
refusal_words IdsTooShort = codes "the id sheet is too short"
refusal_words NamesNoTable = codes "the choice names no table"
refusal_words (AlreadyHidden at) = codes "a table of the choice is hidden"
refusal_words SpanTaken = codes "a running job to the same level meets the span"
refusal_words BookFull = codes "no job is free or too many tables would be hidden"
refusal_words KeyTooLong = codes "a byte key has more than 32 bytes"

-- a refusal: its number, the letter of its layer and its place, and its words
abbrev pub refused_line : Refusal → List ℕ
refused_line refusal =
    line_of (codes "refused" ∷ decimal (number_of refusal) ∷ (letter_of (layer_of refusal) ∷ []) ∷ decimal (place_of refusal) ∷ refusal_words refusal ∷ [])

-- a table, where `spelt` writes a key
abbrev pub table_line : {K : Type 0} → (K → List ℕ) → Table K → List ℕ
table_line spelt t =
    line_of (codes "table" ∷ decimal t.number ∷ decimal t.level ∷ decimal t.run ∷ spelt t.range.min ∷ spelt t.range.max ∷ decimal t.size ∷ decimal t.created ∷ decimal t.linked ∷ [])
