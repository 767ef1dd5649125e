-- Every call keeps book and sheet sound, and none but an unsound one answers that they are not.
use Rattle.std.proofs.Common.{◌≡◌, ℕ, ◌+◌, ◌<◌, ltb, leb, List, [], length, Some, None, Err, Option, Result, Ordering, refl, ap, ◌∙◌, arith}
use Rattle.std.specs.Result.{result_err}
use Rattle.std.proofs.lemmas.Bool.{cond_both, and_parts, leb-true, ltb-true, eqb-false}
use Rattle.refusals.specs.declared.refusal.Refusal.{Refusal}
use Rattle.refusals.specs.declared.refusal.Refusal.TheVariants.{NotSound, NoSuchJob, BadTable, BadOutputs, Full, IdsTooShort, NamesNoTable}
use Rattle.refusals.specs.Refusal.{number_of}
use Rattle.keys.specs.KeyKind.{Laws}
use Rattle.runs.specs.declared.fresh.Fresh.{Fresh}
use Rattle.sheets.proofs.Hiding.{hiding_short}
use Rattle.strategies.specs.declared.declined.Declined.{Declined}
use Rattle.strategies.specs.declared.declined.Declined.TheVariants.{BadSetting, ManyRuns, HiddenTable}
use Rattle.strategies.specs.Answer.{Chosen, Answer, nothing, chooses, declines, refusal_of, asked}
use Rattle.strategies.specs.Strategy.{Lawful, LawfulAnswer, Law}
use Rattle.books.specs.Book as B
use Rattle.books.specs.Book.{Question, Left, Booking, job_of, second, look_on, book_choice, book_answer}
use Rattle.books.specs.Booked.{span_held, SoundState}
use Rattle.books.specs.Close as C
use Rattle.books.specs.Close.{first_fault, bad_table, bad_outputs, closed, settled_or_full, unless_outputs, unless_tables, close_found, give_up_found}
use Rattle.books.specs.Job.{Running, job_number, running, found, ended}
use Rattle.books.specs.Land as L
use Rattle.books.specs.Land.{has_room, fresh_ok, landed}
use Rattle.books.specs.State.{State}
use Rattle.books.proofs.Booking.{booking_keeps}
use Rattle.books.proofs.Books.{take_out}
use Rattle.books.proofs.Looking.{sheet_whole}
use Rattle.books.proofs.ClosedJobs.{room_parts, closed_booked, closed_sound}
use Rattle.books.proofs.Landing.{landed_sound, landed_booked}
use Rattle.books.proofs.Outputs.{good_fresh}
use Rattle.books.proofs.Outs.{Out, out_length}
use Rattle.books.proofs.Slots.{started_out, started_length, ended_length, Found, found_out, freed_out}
use Rattle.books.proofs.Starting.{barred_or}

-- ---- refusals that are not the one of an unsound book
abbrev numbered : Option Refusal → ℕ
numbered None = 0
numbered (Some e) = number_of e

unlike : (e : Refusal) → 1 < number_of e → ◌≡◌ {A = Option Refusal} (Some e) (Some NotSound) → ⊥
unlike e h q = omega (arith, ap numbered q)

granted : ◌≡◌ {A = Option Refusal} None (Some NotSound) → ⊥
granted q = let z : ◌≡◌ {A = ℕ} 0 1 = cc in omega arith

declined_fine : (d : Declined) → 1 < number_of (refusal_of d)
declined_fine BadSetting = omega arith
declined_fine ManyRuns = omega arith
declined_fine (HiddenTable place) = omega arith

asked_fine : (a : Answer) (places : ℕ) → result_err (asked a places) ≡ Some NotSound → ⊥
asked_fine nothing places = granted
asked_fine (chooses c) places = cond_both (leb (length c.numbers) places) _ _ (λ r. result_err r ≡ Some NotSound → ⊥) (λ _. granted) (λ _. unlike IdsTooShort (omega arith))
asked_fine (declines d) places = unlike (refusal_of d) (declined_fine d)

-- ---- the calls, once the test is passed
module _ {K : Type 0} {cmp : K → K → Ordering} (laws : Laws cmp) (st : State K) (s : SoundState cmp st) where
  -- the state is sound, and this was not denied
  abbrev Fine : {R : Type 0} → State K → Result R Refusal → Type 0
  Fine st r = SoundState cmp st × (result_err r ≡ Some NotSound → ⊥)

  abbrev Ends : State K × Result (Unit {0}) Refusal → Type 0
  Ends w = Fine w.0 w.1

  abbrev Leaves : {R : Type 0} → Left K R → Type 0
  Leaves l = Fine l.state l.result

  refuses : (e : Refusal) → 1 < number_of e → Ends (st, Err e)
  refuses e h = (s, unlike e h)

  pub land_keeps : (f : Fresh K) → Ends (L.land cmp f st)
  land_keeps f =
      let ts = landed cmp f st.tables in
      cond_both (fresh_ok cmp st.tables f) _ _ Ends
      (λ h. cond_both (has_room st.room ts) _ _ Ends
      (λ r. let p = room_parts st.room ts r in let good = good_fresh cmp st.tables f h in
      (record { whole = refl; eight = s.eight; sheet = landed_sound laws s.sheet f good p.0 p.1; book = landed_booked laws s.sheet f good s.book }, granted))
      (λ _. refuses Full (omega arith)))
      (λ _. refuses (BadTable 0) (omega arith))

  -- ---- ending a job
  module _ (j : Running) (o : Out j (running st.slots) (running (ended (job_number j.numbers) st.slots))) where
    settled_keeps : (outs : List (Fresh K)) → first_fault (bad_table cmp st.tables) [] outs ≡ None → bad_outputs cmp j.kind (span_held cmp st.tables j) outs ≡ None → Ends (settled_or_full cmp j outs st)
    settled_keeps outs fresh good =
        cond_both (has_room st.room (closed cmp j outs st.tables)) _ _ Ends
        (λ r. (
          record {
            whole = refl;
            eight = ended_length (job_number j.numbers) st.slots ∙ s.eight;
            sheet = closed_sound laws s.sheet s.book o outs fresh good r;
            book = closed_booked laws s.sheet s.book o outs fresh good;
          },
          granted,
        ))
        (λ _. refuses Full (omega arith))

    outputs_keep : (outs : List (Fresh K)) → first_fault (bad_table cmp st.tables) [] outs ≡ None → (p : Option ℕ) → bad_outputs cmp j.kind (span_held cmp st.tables j) outs ≡ p → Ends (unless_outputs cmp p j outs st)
    outputs_keep outs fresh None e = settled_keeps outs fresh e
    outputs_keep outs fresh (Some place) e = refuses (BadOutputs place) (omega arith)

    tables_keep : (outs : List (Fresh K)) (p : Option ℕ) → first_fault (bad_table cmp st.tables) [] outs ≡ p → Ends (unless_tables cmp p j outs st)
    tables_keep outs None e = outputs_keep outs e (bad_outputs cmp j.kind (span_held cmp st.tables j) outs) refl
    tables_keep outs (Some place) e = refuses (BadTable place) (omega arith)

    freed_keeps : Ends (give_up_found cmp (Some j) st)
    freed_keeps = (
      record {
        whole = s.whole;
        eight = ended_length (job_number j.numbers) st.slots ∙ s.eight;
        sheet = s.sheet;
        book = take_out laws st.tables s.book o;
      },
      granted,
    )

  close_at : (n : ℕ) (outs : List (Fresh K)) (o : Option Running) → Found n st.slots o → Ends (close_found cmp o outs st)
  close_at n outs None w = refuses NoSuchJob (omega arith)
  close_at n outs (Some j) w = tables_keep j (freed_out n st.slots j w) outs (first_fault (bad_table cmp st.tables) [] outs) refl

  pub close_keeps : (n : ℕ) (outs : List (Fresh K)) → Ends (C.close cmp n outs st)
  close_keeps n outs = close_at n outs (found n st.slots) (found_out n st.slots)

  give_up_at : (n : ℕ) (o : Option Running) → Found n st.slots o → Ends (give_up_found cmp o st)
  give_up_at n None w = refuses NoSuchJob (omega arith)
  give_up_at n (Some j) w = freed_keeps j (freed_out n st.slots j w)

  pub give_up_keeps : (n : ℕ) → Ends (C.give_up cmp n st)
  give_up_keeps n = give_up_at n (found n st.slots) (found_out n st.slots)

  -- ---- questions
  pub propose_keeps : (g : Question K) (ids : List ℕ) → Leaves (B.propose g st ids)
  propose_keeps g ids = (s, asked_fine (g st.tables st.hidden) (length ids))

  look_at : (a : Answer) (g : Question K) (ids : List ℕ) → Leaves (look_on a g st ids)
  look_at nothing g ids = (s, asked_fine (second g st) (length ids))
  look_at (chooses c) g ids = (s, asked_fine (second g st) (length ids))
  look_at (declines d) g ids = (s, unlike (refusal_of d) (declined_fine d))

  pub look_ahead_keeps : (g : Question K) (ids : List ℕ) → Leaves (B.look_ahead g st ids)
  look_ahead_keeps g ids = look_at (g st.tables st.hidden) g ids

  choice_keeps : (c : Chosen) → Lawful cmp st.tables c → (ids : List ℕ) → Leaves (book_choice cmp c st ids)
  choice_keeps c law ids =
      let P = Leaves {R = Booking} in
      cond_both (ltb (length ids) (length c.numbers)) _ _ P (λ _. (s, unlike IdsTooShort (omega arith))) (λ _.
      barred_or cmp st.tables st.hidden st.slots (job_of c) P (B.refused st ids) (B.granted c st ids) (λ e h. (s, unlike e h))
      (λ may.
      let p = and_parts (ltb (length (running st.slots)) 8) (leb (length st.hidden + length c.numbers) 256) may.fits in
      let few = ltb-true (length (running st.slots)) 8 p.0 in
      let o = started_out (job_of c) st.slots (omega (arith, s.eight)) in
      let some_named : length c.numbers ≡ 0 → ⊥ = eqb-false (length c.numbers) 0 may.some in (
        record {
          whole = s.whole;
          eight = started_length (job_of c) st.slots ∙ s.eight;
          sheet = s.sheet;
          book = booking_keeps laws s.book o law (omega arith) may.free may.clear (omega (arith, out_length o)) (omega (arith, hiding_short st.hidden c.numbers, leb-true _ _ p.1));
        },
        granted,
      )))

  book_at : (a : Answer) → LawfulAnswer cmp st.tables a → (ids : List ℕ) → Leaves (book_answer cmp a st ids)
  book_at nothing law ids = (s, unlike NamesNoTable (omega arith))
  book_at (chooses c) law ids = choice_keeps c law ids
  book_at (declines d) law ids = (s, unlike (refusal_of d) (declined_fine d))

  pub book_keeps : (g : Question K) → Law cmp g → (ids : List ℕ) → Leaves (B.book cmp g st ids)
  book_keeps g law ids = book_at (g st.tables st.hidden) (law st.room st.blobs st.tables st.hidden (sheet_whole st s)) ids
