-- A call on the open book of a history, and what is told of the reply to it.
use Rattle.std.specs.Prelude.{◌≡◌, ℕ, List, replicate, Some, Ok, Err}
use Rattle.std.specs.Option.{IsSomeAnd}
use Rattle.std.specs.declared.cmp.Ordering.{Ordering}
use Rattle.runs.specs.declared.fresh.Fresh.{Fresh}
use Rattle.sheets.specs.Edits.{laid}
use Rattle.standard.specs.Standard.{standard}
use Rattle.books.specs.Book as B
use Rattle.books.specs.Deed.{Deed, landing, asking, looking, booking, closing, giving, Reply, ended, chosen, booked, perform}
use Rattle.books.specs.State.{State}
use Rattle.jobs.specs.View.{question}
use Rattle.reports.specs.declared.report.Done.{Done}
use Rattle.reports.specs.declared.report.Done.TheVariants.{Landed, Closed, GivenUp}
use Rattle.reports.specs.Report.{done_line, choice_line, booked_line}
use Rattle.scripts.specs.declared.command.Question.{Question}
use Rattle.desk.specs.declared.histories.History.{History}
use Rattle.desk.specs.Desk.{Refuses}
use Rattle.desk.specs.History.{state_of}

-- what is done by a call that asks no strategy
abbrev pub done_by : {K : Type 0} → Deed K → Done
done_by (landing f) = Landed
done_by (asking g ids) = GivenUp
done_by (looking g ids) = GivenUp
done_by (booking g ids) = GivenUp
done_by (closing n outs) = Closed
done_by (giving n) = GivenUp

-- the line of a reply: what was done, what was chosen with its numbers, what was booked with its ticket's number too, or a refusal
abbrev pub Tells : Done → Reply → List ℕ → Type 0
Tells done (ended (Ok _)) text = text ≡ done_line done
Tells done (ended (Err refusal)) text = Refuses refusal text
Tells done (chosen (Ok choice) numbers) text = text ≡ choice_line choice numbers
Tells done (chosen (Err refusal) numbers) text = Refuses refusal text
Tells done (booked (Ok b) numbers) text = text ≡ booked_line b.ticket b.choice numbers
Tells done (booked (Err refusal) numbers) text = Refuses refusal text

-- the id sheet of a history
abbrev pub ids_of : {K : Type 0} → History K → List ℕ
ids_of h = replicate h.id_places 0

module _ {K : Type 0} (cmp : K → K → Ordering) where
  -- what the strategy of the settings answers on a book and its sheet
  abbrev pub asked_of : Question K → State K → B.Question K
  asked_of q st = question (standard cmp) q.settings st.blobs q.clock

  -- a history before and after a call on its open book, and what is told: state and reply are what the call gives, what lies past the standing tables is kept, and these outputs are there for the next close
  pub record Made (call : Deed K) (st : State K) (outputs : List (Fresh K)) (h h' : History K) (text : List ℕ) : Type 0 where
    pub after : state_of h' ≡ Some (perform cmp call st).0
    pub told : Tells (done_by call) (perform cmp call st).1 text
    pub rest : h'.sheet.items ≡ laid (perform cmp call st).0.tables h.sheet.items
    pub table_places : h'.places ≡ h.places
    pub ids : h'.id_places ≡ h.id_places
    pub kept : h'.outputs.items ≡ outputs

  -- making a call, which may depend on the state, where the book is open
  abbrev pub Makes : (State K → Deed K) → List (Fresh K) → History K → History K → List ℕ → Type 0
  Makes call outputs h h' text = IsSomeAnd (state_of h) (λ st. Made (call st) st outputs h h' text)
