-- What was performed for a call as a value.
use Rattle.std.proofs.Common.{◌≡◌, ℕ, List, Result, Ordering, sym, ap, ◌∙◌, subst}
use Rattle.refusals.specs.declared.refusal.Refusal.{Refusal}
use Rattle.runs.specs.declared.table.Table.{Table}
use Rattle.sheets.specs.Edits.{laid}
use Rattle.strategies.specs.declared.choice.Choice.{Choice}
use Rattle.strategies.specs.Answer.{Answer}
use Rattle.books.specs.Book.{Question, Booking, Left}
use Rattle.books.specs.Calls.{propose, look_ahead, book}
use Rattle.books.specs.Deed.{Reply, names, perform}
use Rattle.books.specs.State.{State}
use Rattle.books.proofs.IdSheets.{propose_ids, look_ahead_ids, book_ids}
use Rattle.jobs.specs.declared.call.Call.{Call}
use Rattle.jobs.specs.Call.{deed}
use Rattle.jobs.specs.View.{left}

-- the call is the case that it is
pub of_case : {K S : Type 0} (cmp : K → K → Ordering) (chooses : S → List (Table K) → List ℕ → ℕ → ℕ → Answer) (blobs : ℕ) (ids : List ℕ) (st : State K) {x y : Call K S} {out : State K × Reply}
    → x ≡ y → out ≡ perform cmp (deed chooses blobs y ids) st → out ≡ perform cmp (deed chooses blobs x ids) st
of_case cmp chooses blobs ids st is e = e ∙ ap (λ z. perform cmp (deed chooses blobs z ids) st) (sym is)

-- ---- the id sheet
module _ {K : Type 0} (cmp : K → K → Ordering) (g : Question K) (st : State K) (ids : List ℕ) {next : State K} {ids' : List ℕ} where
  -- after a question
  pub proposed_ids : {r : Result Choice Refusal} → left next ids' r ≡ propose cmp g st ids → ids' ≡ laid (names (λ c. c) r ids') ids
  proposed_ids e = subst (λ (l : Left K Choice). l.ids ≡ laid (names (λ c. c) l.result l.ids) ids) (sym e) (propose_ids cmp g st ids)

  -- after a look ahead
  pub looked_ids : {r : Result Choice Refusal} → left next ids' r ≡ look_ahead cmp g st ids → ids' ≡ laid (names (λ c. c) r ids') ids
  looked_ids e = subst (λ (l : Left K Choice). l.ids ≡ laid (names (λ c. c) l.result l.ids) ids) (sym e) (look_ahead_ids cmp g st ids)

  -- after a booking
  pub booked_ids : {r : Result Booking Refusal} → left next ids' r ≡ book cmp g st ids → ids' ≡ laid (names (λ b. b.choice) r ids') ids
  booked_ids e = subst (λ (l : Left K Booking). l.ids ≡ laid (names (λ b. b.choice) l.result l.ids) ids) (sym e) (book_ids cmp g st ids)
