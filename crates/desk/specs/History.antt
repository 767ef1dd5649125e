-- A history: how it stands, and how its book is opened.
use Rattle.std.specs.Prelude.{◌≡◌, ℕ, ◌≤◌, min, Bool, cond, List, [], length, take, Some, None, Ok, Err, Option, Result, nat_le}
use Rattle.std.specs.declared.cmp.Ordering.{Ordering}
use Rattle.refusals.specs.declared.refusal.Refusal.{Refusal}
use Rattle.runs.specs.declared.fresh.Fresh.{Fresh}
use Rattle.runs.specs.declared.table.Table.{Table}
use Rattle.books.specs.State.{State}
use Rattle.jobs.specs.Open.{open_on}
use Rattle.jobs.specs.View.{state}
use Rattle.texts.specs.declared.fault.Expected.{Expected}
use Rattle.texts.specs.declared.fault.Expected.TheVariants as E
use Rattle.scripts.specs.declared.command.Word.{Word}
use Rattle.scripts.specs.declared.command.Word.TheVariants as W
use Rattle.reports.specs.Report.{opened_line}
use Rattle.desk.specs.declared.histories.History.{History}
use Rattle.desk.specs.declared.histories.Phase.{Phase}
use Rattle.desk.specs.declared.histories.Phase.TheVariants.{Filling, Open}
use Rattle.desk.specs.Desk.{Refuses}

-- the places, the sheet and the phase of a history, and the outputs for the next close
pub record Stands {K : Type 0} (h : History K) (places id_places : ℕ) (sheet : List (Table K)) (phase : Phase) (outputs : List (Fresh K)) : Type 0 where
  pub table_places : h.places ≡ places
  pub ids : h.id_places ≡ id_places
  pub tables : h.sheet.items ≡ sheet
  pub far : h.phase ≡ phase
  pub given : h.outputs.items ≡ outputs

-- what a first word lacks as long as the sheet is filled, if anything: a table lacks a place where the sheet is full, and what is asked of a book lacks one
abbrev pub lacks_filling : Bool → Word → Option Expected
lacks_filling is_full W.Ids = None
lacks_filling is_full W.Sheet = None
lacks_filling is_full W.Table = cond is_full (Some E.Place) None
lacks_filling is_full W.Open = None
lacks_filling is_full _ = Some E.OpenBook

-- what it lacks once the book is open: what fills the sheet comes too late
abbrev pub lacks_open : Word → Option Expected
lacks_open W.Sheet = Some E.NoBook
lacks_open W.Table = Some E.NoBook
lacks_open W.Open = Some E.NoBook
lacks_open _ = None

-- what it lacks before the book is open, or after
abbrev pub lacks_in : Phase → Bool → Word → Option Expected
lacks_in Filling is_full word = lacks_filling is_full word
lacks_in (Open book) is_full word = lacks_open word

-- what a first word lacks in a history, if anything
abbrev pub lacks : {K : Type 0} → History K → Word → Option Expected
lacks h word = lacks_in h.phase (nat_le h.places (length h.sheet.items)) word

-- the word may stand where the history is
abbrev pub MayStand : {K : Type 0} → History K → Word → Type 0
MayStand h word = lacks h word ≡ None

-- no tables yet, and 1024 places in each sheet
abbrev pub IsFresh : {K : Type 0} → History K → Type 0
IsFresh h = Stands h 1024 1024 [] Filling []

-- Some tables, and spare places behind them. There are no more than 1025 in memory: whatever a larger sheet holds, it is not sound.
pub record IsWhole {K : Type 0} (places : ℕ) (ts sheet : List (Table K)) : Type 0 where
  pub places_of : length sheet ≡ min places 1025
  pub front : length ts ≤ length sheet → take (length ts) sheet ≡ ts

-- the state that an open book and its sheet make
abbrev pub state_in : {K : Type 0} → Phase → List (Table K) → Option (State K)
state_in Filling sheet = None
state_in (Open book) sheet = Some (state book sheet)

abbrev pub state_of : {K : Type 0} → History K → Option (State K)
state_of h = state_in h.phase h.sheet.items

-- a history whose book was opened
pub record IsOpened {K : Type 0} (h h' : History K) (st : State K) : Type 0 where
  pub opened : state_of h' ≡ Some st
  pub table_places : h'.places ≡ h.places
  pub ids : h'.id_places ≡ h.id_places
  pub given : h'.outputs.items ≡ h.outputs.items

-- the history before and after, and the answer: a book on so many tables, or a refusal, and nothing has changed
abbrev pub OpensAs : {K : Type 0} → Result (State K) Refusal → History K → History K → List ℕ → Type 0
OpensAs (Ok st) h h' text = IsOpened h h' st × (text ≡ opened_line (length h.sheet.items))
OpensAs (Err refusal) h h' text = (h' ≡ h) × Refuses refusal text

module _ {K : Type 0} (cmp : K → K → Ordering) where
  -- opening the book on the tables that were given
  abbrev pub Opens : ℕ → History K → History K → List ℕ → Type 0
  Opens blobs h h' text = OpensAs (open_on cmp h.places (length h.sheet.items) blobs h.sheet.items) h h' text
