-- Closing a job in the lent sheet is closing it on every book with that sheet.
use Rattle.std.proofs.Common.{◌≡◌, ℕ, ◌≤◌, Bool, true, false, cond, List, [], length, take, Some, None, Ok, Err, Option, Result, Ordering, sym, refl, ap, ◌∙◌, arith}
use Rattle.keys.specs.KeyKind.{Laws}
use Rattle.refusals.specs.declared.refusal.Refusal.{Refusal}
use Rattle.refusals.specs.declared.refusal.Refusal.TheVariants.{BadTable, BadOutputs, Full}
use Rattle.runs.specs.declared.fresh.Fresh.{Fresh}
use Rattle.runs.specs.declared.table.Table.{Table}
use Rattle.sheets.specs.Edits.{laid}
use Rattle.sheets.specs.HiddenSet.{showing}
use Rattle.sheets.specs.Recount.{counting}
use Rattle.sheets.proofs.Laid.{take_laid, relaid}
use Rattle.edits.proofs.Recounting.{length_counting}
use Rattle.books.specs.Booked.{span_held}
use Rattle.books.specs.Close.{first_fault, bad_table, bad_outputs, closed, freed, unless_outputs, unless_tables, close_found}
use Rattle.books.specs.Job.{Running, job_number, ended}
use Rattle.books.specs.Land.{has_room}
use Rattle.books.specs.State.{State, with_tables}
use Rattle.books.proofs.ClosedJobs.{swap_counting, room_parts}
use Rattle.books.proofs.Outs.{in_out}
use Rattle.books.proofs.Recounts.{recount_length}
use Rattle.changes.specs.Changes.{on_sheet, SoundOn}
use Rattle.changes.specs.Close.{swapped, Runs, Says, Closes}
use Rattle.changes.proofs.Landings.{stands_on}

-- ---- the tests
module _ {K : Type 0} (cmp : K → K → Ordering) (j : Running) (outs : List (Fresh K)) (s : List (Table K)) (n : ℕ) where
  abbrev ts : List (Table K)
  ts = take n s

  abbrev faulty : List (Table K) → Option ℕ
  faulty us = first_fault (bad_table cmp us) [] outs

  abbrev misfit : List (Table K) → Option ℕ
  misfit us = bad_outputs cmp j.kind (span_held cmp us j) outs

  -- the last test
  abbrev in_room : State K → Bool → State K × Result (Unit {0}) Refusal
  in_room st b = cond b (with_tables (freed cmp j st) (length (closed cmp j outs st.tables)) (closed cmp j outs st.tables), Ok tt) (st, Err Full)

  -- ---- refused
  refused_room : (st : State K) (b : Bool) (e : Refusal) → Err e ≡ (in_room st b).1 → in_room st b ≡ (st, Err e)
  refused_room st true e h = absurd (let z : ◌≡◌ {A = ℕ} 0 1 = cc in omega arith)
  refused_room st false e h = let q : Full ≡ e = cc in ap (λ z. (st, Err z)) q

  refused_outputs : (st : State K) (o : Option ℕ) (e : Refusal) → Err e ≡ (unless_outputs cmp o j outs st).1 → unless_outputs cmp o j outs st ≡ (st, Err e)
  refused_outputs st None e h = refused_room st (has_room st.room (closed cmp j outs st.tables)) e h
  refused_outputs st (Some place) e h = let q : BadOutputs place ≡ e = cc in ap (λ z. (st, Err z)) q

  refused_tables : (st : State K) (o : Option ℕ) (e : Refusal) → Err e ≡ (unless_tables cmp o j outs st).1 → unless_tables cmp o j outs st ≡ (st, Err e)
  refused_tables st None e h = refused_outputs st (misfit st.tables) e h
  refused_tables st (Some place) e h = let q : BadTable place ≡ e = cc in ap (λ z. (st, Err z)) q

  pub close_refused : (e : Refusal) → Says cmp j outs s n (Err e) → Closes cmp j outs s n s (Err e)
  close_refused e h blobs hidden slots = refused_tables (on_sheet s n blobs hidden slots) (faulty ts) e (h blobs hidden slots)

  -- ---- granted
  pub record Granted : Type 0 where
    pub fresh : faulty ts ≡ None
    pub good : misfit ts ≡ None
    pub room : has_room (length s) (closed cmp j outs ts) ≡ true

  granted_room : (st : State K) (b : Bool) → Ok tt ≡ (in_room st b).1 → b ≡ true
  granted_room st true h = refl
  granted_room st false h = absurd (let z : ◌≡◌ {A = ℕ} 0 1 = cc in omega arith)

  granted_outputs : (st : State K) (o : Option ℕ) → Ok tt ≡ (unless_outputs cmp o j outs st).1 → (o ≡ None) × (has_room st.room (closed cmp j outs st.tables) ≡ true)
  granted_outputs st None h = (refl, granted_room st (has_room st.room (closed cmp j outs st.tables)) h)
  granted_outputs st (Some place) h = absurd (let z : ◌≡◌ {A = ℕ} 0 1 = cc in omega arith)

  granted_tables : (st : State K) (o : Option ℕ) → Ok tt ≡ (unless_tables cmp o j outs st).1 → (o ≡ None) × (misfit st.tables ≡ None) × (has_room st.room (closed cmp j outs st.tables) ≡ true)
  granted_tables st None h = let w = granted_outputs st (misfit st.tables) h in (refl, w.0, w.1)
  granted_tables st (Some place) h = absurd (let z : ◌≡◌ {A = ℕ} 0 1 = cc in omega arith)

  pub granted : Says cmp j outs s n (Ok tt) → Granted
  granted h = let w = granted_tables (on_sheet s n 0 [] []) (faulty ts) (h 0 [] []) in record { fresh = w.0; good = w.1; room = w.2 }

  module _ (g : Granted) where
    -- the new tables fit the sheet before their runs are counted
    pub swapped_fits : length (swapped cmp j outs ts) ≤ length s
    swapped_fits = omega (arith, recount_length (swapped cmp j outs ts), (room_parts (length s) (closed cmp j outs ts) g.room).0)

    done_is : (st : State K) → st.room ≡ length s → st.tables ≡ ts → close_found cmp (Some j) outs st ≡ in_room st true
    done_is st e f =
        ap (λ o. unless_tables cmp o j outs st) (ap faulty f ∙ g.fresh) ∙ ap (λ o. unless_outputs cmp o j outs st) (ap misfit f ∙ g.good)
        ∙ ap (in_room st) (ap (λ room. has_room room (closed cmp j outs st.tables)) e ∙ ap (λ us. has_room (length s) (closed cmp j outs us)) f ∙ g.room)

    module _ (count : ℕ) (size : count ≡ length (swapped cmp j outs ts)) (s' : List (Table K)) where
      long : count ≡ length (closed cmp j outs ts)
      long = size ∙ sym (recount_length (swapped cmp j outs ts))

      pub close_done : length s' ≡ length s → s' ≡ laid (closed cmp j outs ts) s → Closes cmp j outs s n s' (Ok count)
      close_done same is blobs hidden slots =
          done_is (on_sheet s n blobs hidden slots) refl refl
          ∙ ap (λ st. (st, Ok tt)) (stands_on s' (closed cmp j outs ts) count (length s) blobs (showing j.numbers hidden) (ended (job_number j.numbers) slots)
          (sym same) (sym long) (sym (ap (take count) is ∙ take_laid (closed cmp j outs ts) s count long)))

      -- the runs counted in one pass
      pub close_sheet : Laws cmp → SoundOn cmp s n → Runs cmp ts j → (s'' : List (Table K)) → s' ≡ laid (swapped cmp j outs ts) s → s'' ≡ laid (counting 0 0 (take count s')) s' → s'' ≡ laid (closed cmp j outs ts) s
      close_sheet laws sound runs s'' is is' =
          relaid (counting 0 0) (swapped cmp j outs ts) s s' s'' count is size (omega (arith, length_counting (swapped cmp j outs ts) 0 0)) is'
          ∙ ap (λ l. laid l s) (swap_counting laws sound.1 runs.book (in_out runs.runs).1 outs g.fresh g.good)
