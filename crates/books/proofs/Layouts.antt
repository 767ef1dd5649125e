-- Lists of calls on small layouts of number keys, each shown by computing it.
use Rattle.std.proofs.Common.{◌≡◌, ℕ, true, false, List, [], ◌∷◌, map, Some, None, Option, refl}
use Rattle.refusals.specs.declared.refusal.Refusal.{Refusal}
use Rattle.refusals.specs.declared.refusal.Refusal.TheVariants.{NotSound, NoSuchJob, BadTable, BadOutputs, Full, IdsTooShort, NamesNoTable, AlreadyHidden, SpanTaken}
use Rattle.std.specs.Ordering.{nat_cmp}
use Rattle.runs.specs.declared.fresh.Fresh.{Fresh}
use Rattle.runs.specs.declared.table.Table.{Table}
use Rattle.strategies.specs.declared.choice.Kind.{Kind}
use Rattle.strategies.specs.declared.choice.Kind.TheVariants.{Move, Merge, Drop}
use Rattle.strategies.specs.Answer.{chooses}
use Rattle.strategies.specs.Major.{major}
use Rattle.books.specs.Book.{Question}
use Rattle.books.specs.Booked.{state_ok}
use Rattle.books.specs.Deed.{Deed, landing, asking, looking, booking, closing, giving, refusal_in, after, said}
use Rattle.books.specs.Job.{Running}
use Rattle.books.specs.State.{State}

abbrev table : ℕ → ℕ → ℕ → ℕ → ℕ → ℕ → Table ℕ
table number level run min max size = record { number = number; level = level; run = run; range = record { min = min; max = max }; size = size; created = 0; linked = 0 }

abbrev fresh : ℕ → ℕ → ℕ → ℕ → Fresh ℕ
fresh number min max size = record { number = number; range = record { min = min; max = max }; size = size; created = 0; linked = 0 }

abbrev slots : List (Option Running)
slots = None ∷ None ∷ None ∷ None ∷ None ∷ None ∷ None ∷ None ∷ []

-- a sheet of so many places, with nothing hidden
abbrev opened : ℕ → ℕ → List (Table ℕ) → State ℕ
opened room standing ts = record { room = room; standing = standing; blobs = 0; tables = ts; hidden = []; slots = slots }

-- a question that always answers with these tables
abbrev names_these : Kind → ℕ → List ℕ → Question ℕ
names_these kind destination numbers ts hidden = chooses (record { kind = kind; numbers = numbers; bytes = 0; destination = destination; canonical = destination; target = 100 })

-- an id sheet of four places
abbrev four : List ℕ
four = 0 ∷ 0 ∷ 0 ∷ 0 ∷ []

abbrev books : Kind → ℕ → List ℕ → Deed ℕ
books kind destination numbers = booking (names_these kind destination numbers) four

-- the refusals of a list of calls
abbrev refused : List (Deed ℕ) → State ℕ → List (Option Refusal)
refused ds st = map refusal_in (said nat_cmp ds st)

-- a at level 1, b and c at level 2, and d at level 1 too
abbrev layout : State ℕ
layout = opened 1024 4 (table 1 1 0 25 40 500 ∷ table 4 1 0 50 55 500 ∷ table 2 2 0 10 30 50 ∷ table 3 2 0 60 80 60 ∷ [])

layout_sound : state_ok nat_cmp layout ≡ true
layout_sound = refl

-- the merge of a, b and c runs: a move of d to level 2 lies in its span
crossing : refused (books Merge 2 (1 ∷ 2 ∷ 3 ∷ []) ∷ books Move 2 (4 ∷ []) ∷ []) layout ≡ None ∷ Some SpanTaken ∷ []
crossing = refl

-- a merge of every table of an empty sheet names none
empty_merge : refused (booking (major 100) four ∷ []) (opened 1024 0 []) ≡ Some NamesNoTable ∷ []
empty_merge = refl

-- the outputs of the closed merge stand in its tables' place
merged : (after nat_cmp (books Merge 2 (1 ∷ 2 ∷ 3 ∷ []) ∷ closing 1 (fresh 7 10 40 500 ∷ fresh 8 41 80 100 ∷ []) ∷ []) layout).tables ≡ table 4 1 0 50 55 500 ∷ table 7 2 0 10 40 500 ∷ table 8 2 0 41 80 100 ∷ []
merged = refl

-- outputs: the second begins before the first ends; the first is outside the span; the second has the first's number; one has the number of a table that stands; none; a ticket of no job; then given up, twice
outputs_refused :
    refused
    (books Merge 2 (1 ∷ 2 ∷ 3 ∷ [])
    ∷ closing 1 (fresh 7 10 40 5 ∷ fresh 8 40 80 5 ∷ []) ∷ closing 1 (fresh 7 9 40 5 ∷ []) ∷ closing 1 (fresh 7 10 40 5 ∷ fresh 7 50 60 5 ∷ []) ∷ closing 1 (fresh 7 10 40 5 ∷ fresh 3 50 60 5 ∷ [])
    ∷ closing 1 [] ∷ closing 4 [] ∷ giving 1 ∷ giving 1 ∷ []) layout
    ≡ None ∷ Some (BadOutputs 1) ∷ Some (BadOutputs 0) ∷ Some (BadTable 1) ∷ Some (BadTable 1) ∷ Some (BadOutputs 0) ∷ Some NoSuchJob ∷ None ∷ Some NoSuchJob ∷ []
outputs_refused = refl

-- bookings: too few places for the ids; a table that is hidden, at its place on the sheet
bookings_refused :
    refused (booking (names_these Drop 0 (1 ∷ 2 ∷ [])) (0 ∷ []) ∷ books Drop 0 (4 ∷ []) ∷ books Drop 0 (3 ∷ 4 ∷ []) ∷ []) layout
    ≡ Some IdsTooShort ∷ None ∷ Some (AlreadyHidden 1) ∷ []
bookings_refused = refl

-- two landings that meet, and one that meets neither: two runs, and the last goes on; the first moves down, and the runs are counted anew
moved :
    (after nat_cmp (landing (fresh 1 0 9 5) ∷ landing (fresh 2 5 20 5) ∷ landing (fresh 3 30 40 5) ∷ books Move 6 (1 ∷ []) ∷ closing 1 [] ∷ []) (opened 1024 0 [])).tables
    ≡ table 2 0 0 5 20 5 ∷ table 3 0 0 30 40 5 ∷ table 1 6 0 0 9 5 ∷ []
moved = refl

-- a sheet of two places takes no third table
third : refused (landing (fresh 1 0 9 5) ∷ landing (fresh 2 5 20 5) ∷ landing (fresh 3 30 40 5) ∷ landing (fresh 2 30 40 5) ∷ []) (opened 2 0 []) ≡ None ∷ None ∷ Some Full ∷ Some (BadTable 0) ∷ []
third = refl

-- two tables of one run that meet: every call says so, and nothing changes
meeting : refused (asking (major 100) four ∷ giving 1 ∷ []) (opened 1024 2 (table 1 1 0 25 40 5 ∷ table 2 1 0 40 50 5 ∷ [])) ≡ Some NotSound ∷ Some NotSound ∷ []
meeting = refl

-- looking ahead leaves the hidden numbers as they were
looked : (after nat_cmp (books Drop 0 (4 ∷ []) ∷ looking (names_these Drop 0 (3 ∷ 4 ∷ [])) four ∷ []) layout).hidden ≡ 4 ∷ []
looked = refl

-- a table of a running job at two places: a book that no list of calls reaches
shared :
    state_ok nat_cmp (record {
      room = 1024;
      standing = 1;
      blobs = 0;
      tables = table 1 1 0 25 40 5 ∷ [];
      hidden = 1 ∷ [];
      slots = Some (record { kind = Drop; destination = 0; numbers = 1 ∷ [] }) ∷ Some (record { kind = Drop; destination = 0; numbers = 1 ∷ [] }) ∷ None ∷ None ∷ None ∷ None ∷ None ∷ None ∷ [];
    }) ≡ false
shared = refl
