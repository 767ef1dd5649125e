-- No call changes the blob total.
use Rattle.std.proofs.Common.{◌≡◌, ℕ, ltb, List, [], length, Some, None, Option, Result, Ordering, refl}
use Rattle.std.proofs.lemmas.Bool.{cond_both}
use Rattle.refusals.specs.declared.refusal.Refusal.{Refusal}
use Rattle.runs.specs.declared.fresh.Fresh.{Fresh}
use Rattle.strategies.specs.Answer.{Chosen, Answer, nothing, chooses, declines}
use Rattle.books.specs.Book as B
use Rattle.books.specs.Book.{Question, Left, job_of, look_on, book_choice, book_answer}
use Rattle.books.specs.Booked.{span_held, state_ok}
use Rattle.books.specs.Close.{first_fault, bad_table, bad_outputs, closed, unless_outputs, unless_tables, close_found, give_up_found}
use Rattle.books.specs.Deed.{Deed, landing, asking, looking, booking, closing, giving, perform}
use Rattle.books.specs.Job.{Running, found}
use Rattle.books.specs.Land as L
use Rattle.books.specs.Land.{has_room, fresh_ok, landed}
use Rattle.books.specs.State.{State}
use Rattle.books.proofs.Starting.{barred_or}

module _ {K : Type 0} (cmp : K → K → Ordering) (st : State K) where
  abbrev Ends : State K × Result (Unit {0}) Refusal → Type 0
  Ends w = w.0.blobs ≡ st.blobs

  abbrev Leaves : {R : Type 0} → Left K R → Type 0
  Leaves l = l.state.blobs ≡ st.blobs

  -- ---- calls that ask no strategy
  land_blobs : (f : Fresh K) → Ends (L.land cmp f st)
  land_blobs f =
      cond_both (fresh_ok cmp st.tables f) _ _ Ends (λ _. cond_both (has_room st.room (landed cmp f st.tables)) _ _ Ends (λ _. refl) (λ _. refl)) (λ _. refl)

  module _ (j : Running) (outs : List (Fresh K)) where
    outputs_blobs : (p : Option ℕ) → Ends (unless_outputs cmp p j outs st)
    outputs_blobs None = cond_both (has_room st.room (closed cmp j outs st.tables)) _ _ Ends (λ _. refl) (λ _. refl)
    outputs_blobs (Some place) = refl

    tables_blobs : (p : Option ℕ) → Ends (unless_tables cmp p j outs st)
    tables_blobs None = outputs_blobs (bad_outputs cmp j.kind (span_held cmp st.tables j) outs)
    tables_blobs (Some place) = refl

  close_blobs : (outs : List (Fresh K)) (o : Option Running) → Ends (close_found cmp o outs st)
  close_blobs outs None = refl
  close_blobs outs (Some j) = tables_blobs j outs (first_fault (bad_table cmp st.tables) [] outs)

  give_up_blobs : (o : Option Running) → Ends (give_up_found cmp o st)
  give_up_blobs None = refl
  give_up_blobs (Some j) = refl

  -- ---- questions
  look_blobs : (g : Question K) (ids : List ℕ) (a : Answer) → Leaves (look_on a g st ids)
  look_blobs g ids nothing = refl
  look_blobs g ids (chooses c) = refl
  look_blobs g ids (declines d) = refl

  choice_blobs : (c : Chosen) (ids : List ℕ) → Leaves (book_choice cmp c st ids)
  choice_blobs c ids =
      let P = Leaves {R = B.Booking} in
      cond_both (ltb (length ids) (length c.numbers)) _ _ P (λ _. refl) (λ _. barred_or cmp st.tables st.hidden st.slots (job_of c) P (B.refused st ids) (B.granted c st ids) (λ e _. refl) (λ _. refl))

  answer_blobs : (a : Answer) (ids : List ℕ) → Leaves (book_answer cmp a st ids)
  answer_blobs nothing ids = refl
  answer_blobs (chooses c) ids = choice_blobs c ids
  answer_blobs (declines d) ids = refl

  -- ---- with the test before them
  pub perform_blobs : (d : Deed K) → (perform cmp d st).0.blobs ≡ st.blobs
  perform_blobs (landing f) = cond_both (state_ok cmp st) _ _ Ends (λ _. land_blobs f) (λ _. refl)
  perform_blobs (asking g ids) = cond_both (state_ok cmp st) _ _ Leaves (λ _. refl) (λ _. refl)
  perform_blobs (looking g ids) = cond_both (state_ok cmp st) _ _ Leaves (λ _. look_blobs g ids (g st.tables st.hidden)) (λ _. refl)
  perform_blobs (booking g ids) = cond_both (state_ok cmp st) _ _ Leaves (λ _. answer_blobs (g st.tables st.hidden) ids) (λ _. refl)
  perform_blobs (closing n outs) = cond_both (state_ok cmp st) _ _ Ends (λ _. close_blobs outs (found n st.slots)) (λ _. refl)
  perform_blobs (giving n) = cond_both (state_ok cmp st) _ _ Ends (λ _. give_up_blobs (found n st.slots)) (λ _. refl)
