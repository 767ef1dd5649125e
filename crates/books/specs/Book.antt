-- Asking a strategy, looking ahead, and booking what it chooses.
use Rattle.std.specs.Prelude.{ℕ, ◌+◌, Bool, cond, ◌&&◌, List, length, Ok, Err, Option, Result, ◌==◌, nat_le, nat_lt}
use Rattle.std.specs.List.{list_any}
use Rattle.std.specs.declared.cmp.Ordering.{Ordering}
use Rattle.refusals.specs.declared.refusal.Refusal.{Refusal}
use Rattle.refusals.specs.declared.refusal.Refusal.TheVariants.{IdsTooShort, NamesNoTable, AlreadyHidden, SpanTaken, BookFull}
use Rattle.runs.specs.declared.table.Table.{Table}
use Rattle.sheets.specs.Edits.{laid}
use Rattle.sheets.specs.HiddenSet.{hiding}
use Rattle.sheets.specs.Tables.{named}
use Rattle.strategies.specs.declared.choice.Choice.{Choice}
use Rattle.strategies.specs.declared.choice.Kind.{Kind}
use Rattle.strategies.specs.declared.choice.Kind.TheVariants.{Move, Merge, Drop}
use Rattle.strategies.specs.Answer.{Chosen, Answer, nothing, chooses, declines, refusal_of, as_choice, asked, noted}
use Rattle.strategies.specs.Fifo.{place_of}
use Rattle.books.specs.Booked.{crosses}
use Rattle.books.specs.Job.{Running, job_number, running, started}
use Rattle.books.specs.State.{State, with_jobs}

-- a question, as the book puts it: of the standing tables and the hidden numbers, with the blob total and the clock filled in
abbrev pub Question : Type 0 → Type 0
Question K = List (Table K) → List ℕ → Answer

-- a choice that was booked, and the number of its ticket
pub record Booking : Type 0 where
  pub choice : Choice
  pub ticket : ℕ

-- what a call leaves: state, id sheet, result
pub record Left (K R : Type 0) : Type 0 where
  pub state : State K
  pub ids : List ℕ
  pub result : Result R Refusal

-- the level that takes the tables of a job of a kind: 0 for a drop
abbrev pub level_for : Kind → ℕ → ℕ
level_for Move level = level
level_for Merge level = level
level_for Drop level = 0

-- the job that a choice starts
abbrev pub job_of : Chosen → Running
job_of c = record { kind = c.kind; destination = level_for c.kind c.destination; numbers = c.numbers }

-- the numbers to be hidden for a look ahead
abbrev pub ahead_of : List ℕ → Answer → List ℕ
ahead_of hs nothing = hs
ahead_of hs (chooses c) = hiding hs c.numbers
ahead_of hs (declines d) = hs

module _ {K : Type 0} where
  -- the question alone
  abbrev pub propose : Question K → State K → List ℕ → Left K Choice
  propose g st ids = record { state = st; ids = noted (g st.tables st.hidden) ids; result = asked (g st.tables st.hidden) (length ids) }

  -- the second answer, asked with the first one's tables hidden too
  abbrev pub second : Question K → State K → Answer
  second g st = g st.tables (ahead_of st.hidden (g st.tables st.hidden))

  -- what looking ahead comes to, by the first answer
  abbrev pub look_on : Answer → Question K → State K → List ℕ → Left K Choice
  look_on nothing g st ids = record { state = st; ids = noted (second g st) ids; result = asked (second g st) (length ids) }
  look_on (chooses c) g st ids = record { state = st; ids = noted (second g st) ids; result = asked (second g st) (length ids) }
  look_on (declines d) g st ids = record { state = st; ids = ids; result = Err (refusal_of d) }

  -- looking ahead: refused by the first question, else what the second answers
  abbrev pub look_ahead : Question K → State K → List ℕ → Left K Choice
  look_ahead g st ids = look_on (g st.tables st.hidden) g st ids

  -- a booking that is refused: all is kept
  abbrev pub refused : State K → List ℕ → Refusal → Left K Booking
  refused st ids e = record { state = st; ids = ids; result = Err e }

  -- and one that is granted: the tables are hidden, the job starts in the first free slot, and the numbers are in the id sheet
  abbrev pub granted : Chosen → State K → List ℕ → Left K Booking
  granted c st ids =
      record {
        state = with_jobs st (hiding st.hidden c.numbers) (started (job_of c) st.slots);
        ids = laid c.numbers ids;
        result = Ok (record { choice = as_choice c.kind c; ticket = job_number c.numbers });
      }

  -- a table of a job that is hidden already
  abbrev pub is_taken : List ℕ → Running → Table K → Bool
  is_taken hs j t = named j.numbers t && named hs t

  -- a named table that is hidden
  abbrev pub taken : List ℕ → Chosen → Table K → Bool
  taken hs c t = is_taken hs (job_of c) t

module _ {K : Type 0} (cmp : K → K → Ordering) where
  -- what starting a job gives, unless it may not start: refused, in this order, where it has no table, one of them is hidden, its span is taken, or the book is full
  abbrev pub unless_barred : {R : Type 0} → List (Table K) → List ℕ → List (Option Running) → Running → (Refusal → R) → R → R
  unless_barred ts hs slots j refuse starts =
      cond (length j.numbers == 0) (refuse NamesNoTable)
      (cond (list_any (is_taken hs j) ts) (refuse (AlreadyHidden (place_of (is_taken hs j) ts)))
      (cond (list_any (crosses cmp ts j) (running slots)) (refuse SpanTaken)
      (cond (nat_lt (length (running slots)) 8 && nat_le (length hs + length j.numbers) 256) starts
      (refuse BookFull))))

  -- booking a choice: refused where the id sheet is too short, and where the job may not start
  abbrev pub book_choice : Chosen → State K → List ℕ → Left K Booking
  book_choice c st ids =
      cond (nat_lt (length ids) (length c.numbers)) (refused st ids IdsTooShort)
      (unless_barred st.tables st.hidden st.slots (job_of c) (refused st ids) (granted c st ids))

  -- booking an answer: doing nothing names no table
  abbrev pub book_answer : Answer → State K → List ℕ → Left K Booking
  book_answer nothing st ids = refused st ids NamesNoTable
  book_answer (chooses c) st ids = book_choice c st ids
  book_answer (declines d) st ids = refused st ids (refusal_of d)

  -- booking what the question is answered with
  abbrev pub book : Question K → State K → List ℕ → Left K Booking
  book g st ids = book_answer (g st.tables st.hidden) st ids
