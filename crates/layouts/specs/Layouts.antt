-- What the strategies answer, and a book says, on small layouts of stop keys.
use Rattle.std.specs.Prelude.{◌≡◌, ℕ, zero, suc, true, List, [], ◌∷◌, length, replicate, Some, None, Ok, Err, Option}
use Rattle.std.specs.List.{list_all}
use Rattle.keys.specs.declared.stop_key.StopKey.{StopKey}
use Rattle.keys.specs.StopKey.{stop_ranks}
use Rattle.runs.specs.declared.table.Table.{Table}
use Rattle.levels.specs.declared.settings.Settings.{Settings}
use Rattle.levels.specs.Settings.{defaults, with_target_size, with_threshold, with_ratios}
use Rattle.levels.specs.Targets.{target_at}
use Rattle.sheets.specs.Sound.{tables_ok}
use Rattle.strategies.specs.declared.choice.Kind.{Kind}
use Rattle.strategies.specs.declared.choice.Kind.TheVariants.{Move, Merge, Drop}
use Rattle.strategies.specs.Answer.{Answer, nothing, chooses}
use Rattle.strategies.specs.Fifo.{fifo}
use Rattle.strategies.specs.Major.{major}
use Rattle.leveled.specs.Leveled.{leveled}
use Rattle.refusals.specs.declared.refusal.Refusal.TheVariants.{NamesNoTable, SpanTaken, BookFull}
use Rattle.strategies.specs.declared.choice.Choice.TheVariants as C
use Rattle.books.specs.Booked.{state_ok}
use Rattle.books.specs.Calls.{propose, book}
use Rattle.books.specs.Job.{Running}
use Rattle.books.specs.State.{State}

-- target size 100, threshold 4, no ratios
abbrev pub plain : Settings
plain = with_ratios [] (with_threshold 4 (with_target_size 100 defaults))

-- a table from one stop of tour 0 to another
abbrev pub table : (number level run first last size : ℕ) → Table StopKey
table number level run first last size =
    record { number = number; level = level; run = run; range = record { min = record { tour = 0; stop = first }; max = record { tour = 0; stop = last } }; size = size; created = 0; linked = 0 }

-- a table of 50 bytes in level 0, and when it was created
abbrev pub aged : (number first last created : ℕ) → Table StopKey
aged number first last created =
    record { number = number; level = 0; run = 0; range = record { min = record { tour = 0; stop = first }; max = record { tour = 0; stop = last } }; size = 50; created = created; linked = 0 }

-- what leveled answers, set as above
abbrev pub asks : List (Table StopKey) → List ℕ → Answer
asks ts hs = leveled stop_ranks plain ts hs

-- a move or merge of these, with target size 100
abbrev pub takes : Kind → (numbers : List ℕ) → (bytes destination canonical : ℕ) → Answer
takes kind numbers bytes destination canonical = chooses (record { kind = kind; numbers = numbers; bytes = bytes; destination = destination; canonical = canonical; target = 100 })

-- a drop of these
abbrev pub drops : (numbers : List ℕ) → (bytes : ℕ) → Answer
drops numbers bytes = chooses (record { kind = Drop; numbers = numbers; bytes = bytes; destination = 0; canonical = 0; target = 0 })

-- ---- the sheets
-- level 0 alone, from 5 to 9, from 0 to 9, and with both, which meet, in two runs
abbrev pub from_5 : List (Table StopKey)
from_5 = table 1 0 0 5 9 30 ∷ []

abbrev pub from_0 : List (Table StopKey)
from_0 = table 1 0 0 0 9 30 ∷ []

abbrev pub from_both : List (Table StopKey)
from_both = table 1 0 0 5 9 30 ∷ table 2 0 1 0 9 30 ∷ []

-- level 1 alone, with 400 bytes and with 401
abbrev pub with_400 : List (Table StopKey)
with_400 = table 1 1 0 5 9 400 ∷ []

abbrev pub with_401 : List (Table StopKey)
with_401 = table 1 1 0 5 9 400 ∷ table 2 1 0 10 10 1 ∷ []

-- level 1 has a, 25 to 40, and level 2 has b, 10 to 30, and c, 60 to 80
abbrev pub abc : List (Table StopKey)
abc = table 1 1 0 25 40 500 ∷ table 2 2 0 10 30 50 ∷ table 3 2 0 60 80 60 ∷ []

-- the same, and level 1 has d too, 50 to 55
abbrev pub abcd : List (Table StopKey)
abcd = table 1 1 0 25 40 500 ∷ table 4 1 0 50 55 500 ∷ table 2 2 0 10 30 50 ∷ table 3 2 0 60 80 60 ∷ []

-- three tables created at 3, 1 and 2, and two created at one time
abbrev pub three : List (Table StopKey)
three = aged 1 0 1 3 ∷ aged 2 2 3 1 ∷ aged 3 4 5 2 ∷ []

abbrev pub two : List (Table StopKey)
two = aged 8 0 1 3 ∷ aged 2 2 3 3 ∷ []

-- one table
abbrev pub one : (created : ℕ) → List (Table StopKey)
one created = aged 1 0 1 created ∷ []

-- one table of 4,001 bytes in a level
abbrev pub deep : (level : ℕ) → List (Table StopKey)
deep level = table 1 level 0 5 9 4_001 ∷ []

-- so many tables of one byte in level 1, each at the stop of its number, which are counted from this one on
unfoldable pub numbered_from : (from count : ℕ) → List (Table StopKey)
numbered_from from zero = []
numbered_from from (suc n) = table from 1 0 from from 1 ∷ numbered_from (suc from) n

-- ---- the books
-- a book on a sheet of 1,024 places, with these hidden and these jobs
abbrev pub book_on : List (Table StopKey) → List ℕ → List (Option Running) → State StopKey
book_on ts hs slots = record { room = 1024; standing = length ts; blobs = 0; tables = ts; hidden = hs; slots = slots }

-- the merge of a, b and c runs, and d is there too
abbrev pub merging_abc : State StopKey
merging_abc = book_on abcd (1 ∷ 2 ∷ 3 ∷ []) (Some (record { kind = Merge; destination = 2; numbers = 1 ∷ 2 ∷ 3 ∷ [] }) ∷ replicate 7 None)

-- no tables, and no job
abbrev pub idle : State StopKey
idle = book_on [] [] (replicate 8 None)

-- no job, and so many tables
abbrev pub busy : (count : ℕ) → State StopKey
busy count = book_on (numbered_from 1 count) [] (replicate 8 None)

-- an id sheet of four places
abbrev pub four : List ℕ
four = replicate 4 0

-- ---- what is said of them
-- each an equation, shown by computing it
pub record Layouts : Type 0 where
  -- all sheets are sound
  pub sound : list_all (tables_ok stop_ranks) ([] ∷ from_5 ∷ from_0 ∷ from_both ∷ with_400 ∷ with_401 ∷ abc ∷ abcd ∷ three ∷ two ∷ one 7 ∷ one 8 ∷ []) ≡ true
  -- the target sizes of levels 1 to 3
  pub target_1 : target_at plain 1 ≡ 400
  pub target_2 : target_at plain 2 ≡ 4_000
  pub target_3 : target_at plain 3 ≡ 40_000
  -- no tables: leveled does nothing, and major merges none
  pub empty : asks [] [] ≡ nothing
  pub empty_major : major {K = StopKey} 100 [] [] ≡ takes Merge [] 0 6 6
  -- level 0 alone moves to level 6; two runs, fewer than the threshold, stay
  pub sinks_5 : asks from_5 [] ≡ takes Move (1 ∷ []) 30 6 1
  pub sinks_0 : asks from_0 [] ≡ takes Move (1 ∷ []) 30 6 1
  pub two_runs : asks from_both [] ≡ nothing
  -- level 1 alone: 400 bytes stay, with 401 all move to level 2
  pub holds_400 : asks with_400 [] ≡ nothing
  pub moves_401 : asks with_401 [] ≡ takes Move (1 ∷ 2 ∷ []) 401 2 2
  -- a meets b, so it cannot move, and only the span of b and c contains it: all three are merged
  pub merges_abc : asks abc [] ≡ takes Merge (1 ∷ 2 ∷ 3 ∷ []) 610 2 2
  -- these three hidden: d moves
  pub moves_d : asks abcd (1 ∷ 2 ∷ 3 ∷ []) ≡ takes Move (4 ∷ []) 500 2 2
  -- one table alone in a level, of more bytes than the next level up may have: L1 is the level above it, but not above level 1, and all moves down
  pub moves_1 : asks (deep 1) [] ≡ takes Move (1 ∷ []) 4_001 2 2
  pub moves_2 : asks (deep 2) [] ≡ takes Move (1 ∷ []) 4_001 3 3
  pub moves_3 : asks (deep 3) [] ≡ takes Move (1 ∷ []) 4_001 4 3
  pub moves_4 : asks (deep 4) [] ≡ takes Move (1 ∷ []) 4_001 5 3
  pub moves_5 : asks (deep 5) [] ≡ takes Move (1 ∷ []) 4_001 6 3
  -- nothing is below level 6
  pub holds_6 : asks (deep 6) [] ≡ nothing
  -- FIFO with no time to live: a limit of 100 drops the oldest, 99 the next too
  pub limit_100 : fifo 100 0 0 9 three [] ≡ drops (2 ∷ []) 50
  pub limit_99 : fifo 99 0 0 9 three [] ≡ drops (2 ∷ 3 ∷ []) 100
  -- of two created at one time the earlier on the sheet goes first
  pub tie : fifo 50 0 0 9 two [] ≡ drops (8 ∷ []) 50
  -- a time to live of one second: what was created just a second before the clock has expired, a nanosecond less and it has not
  pub expires : fifo 100 1 0 1_000_000_007 (one 7) [] ≡ drops (1 ∷ []) 50
  pub lives : fifo 100 1 0 1_000_000_007 (one 8) [] ≡ nothing
  -- both books are sound
  pub books_sound : list_all (state_ok stop_ranks) (idle ∷ merging_abc ∷ []) ≡ true
  -- booking major's empty merge is refused: it names no table
  pub books_none : (book stop_ranks (λ ts hs. major 100 ts hs) idle four).result ≡ Err NamesNoTable
  -- 256 tables may be hidden, and no more
  pub books_256 : (book stop_ranks (λ ts hs. major 100 ts hs) (busy 256) (replicate 256 0)).result ≡ Ok (record {
    choice = C.Merge (record { tables = record { count = 256; bytes = 256 }; dest_level = 6; canonical_level = 6; target_size = 100 });
    ticket = 1;
  })
  pub books_257 : (book stop_ranks (λ ts hs. major 100 ts hs) (busy 257) (replicate 257 0)).result ≡ Err BookFull
  -- while the merge of a, b and c runs, d is named for a move to level 2, and booking it is refused: its span is taken
  pub names_d : (propose stop_ranks asks merging_abc four).result ≡ Ok (C.Move (record { tables = record { count = 1; bytes = 500 }; dest_level = 2; canonical_level = 2; target_size = 100 }))
  pub books_d : (book stop_ranks asks merging_abc four).result ≡ Err SpanTaken
