-- What a call leaves and says depends on how many places the id sheet has, and not on what they hold; and 1024 of them are enough for any answer.
use Rattle.std.proofs.Common.{◌≡◌, ℕ, ◌+◌, ◌≤◌, min, Bool, true, false, cond, ◌&&◌, eqb, ltb, leb, List, length, take, replicate, Ok, Err, Ordering, sym, refl, ap, ◌∙◌, subst, arith}
use Rattle.std.specs.List.{list_any}
use Rattle.std.proofs.lemmas.List.{length-replicate, length-take}
use Rattle.std.proofs.lemmas.Bool.{and_parts}
use Rattle.std.proofs.lemmas.Bool.Decides.{nat_tests}
use Rattle.refusals.specs.declared.refusal.Refusal.{Refusal}
use Rattle.refusals.specs.declared.refusal.Refusal.TheVariants.{NotSound, IdsTooShort, NamesNoTable, AlreadyHidden, SpanTaken, BookFull}
use Rattle.keys.specs.KeyKind.{Laws}
use Rattle.runs.specs.declared.table.Table.{Table}
use Rattle.sheets.specs.Edits.{laid}
use Rattle.sheets.specs.HiddenSet.{hiding}
use Rattle.sheets.specs.Sound.{Sound, sheet_ok}
use Rattle.sheets.proofs.Soundness.{sound_from_test}
use Rattle.strategies.specs.declared.choice.Choice.{Choice}
use Rattle.strategies.specs.Answer.{Chosen, Answer, nothing, chooses, declines, as_choice, asked, noted}
use Rattle.strategies.specs.Fifo.{place_of}
use Rattle.strategies.specs.Strategy.{Law, LawfulAnswer}
use Rattle.standard.specs.declared.standard.Settings.{Settings}
use Rattle.standard.specs.Standard.{standard}
use Rattle.standard.specs.StandardLaws.{standard_lawful}
use Rattle.books.specs.Book as B
use Rattle.books.specs.Book.{Question, Booking, Left, job_of, second, look_on, taken, book_choice, book_answer}
use Rattle.books.specs.Booked.{crosses, book_ok, state_ok}
use Rattle.books.specs.Deed.{Reply, chosen, booked, as_chosen, as_booked, perform}
use Rattle.books.specs.Job.{job_number, running, started}
use Rattle.books.specs.State.{State, with_jobs}
use Rattle.books.proofs.IdSheets.{front_is}
use Rattle.books.proofs.Looking.{stand_few}
use Rattle.jobs.specs.declared.call.Call.{Call}
use Rattle.jobs.specs.declared.call.Call.TheVariants as C
use Rattle.jobs.specs.declared.job_book.JobBook.{JobBook}
use Rattle.jobs.specs.Call.{deed}
use Rattle.jobs.specs.View.{state, question}

-- the places that an answer fills
abbrev filled : Answer → ℕ
filled nothing = 0
filled (chooses c) = length c.numbers
filled (declines d) = 0

-- ---- two id sheets of which an answer fits both or neither
module _ {K : Type 0} (st : State K) (ids ids' : List ℕ) where
  -- what the question leaves
  abbrev put : Answer → List ℕ → Left K Choice
  put a sheet = record { state = st; ids = noted a sheet; result = asked a (length sheet) }

  module _ (c : Chosen) where
    abbrev put_at : Bool → List ℕ → Left K Choice
    put_at b sheet = record { state = st; ids = cond b (laid c.numbers sheet) sheet; result = cond b (Ok (as_choice c.kind c)) (Err IdsTooShort) }

    put_both : (b : Bool) → as_chosen (put_at b ids) ≡ as_chosen (put_at b ids')
    put_both true = ap (λ ns. (st, chosen (Ok (as_choice c.kind c)) ns)) (front_is c.kind c ids ∙ sym (front_is c.kind c ids'))
    put_both false = refl

  put_same : (a : Answer) → leb (filled a) (length ids) ≡ leb (filled a) (length ids') → as_chosen (put a ids) ≡ as_chosen (put a ids')
  put_same nothing e = refl
  put_same (chooses c) e = subst (λ b. as_chosen (put_at c (leb (length c.numbers) (length ids)) ids) ≡ as_chosen (put_at c b ids')) e (put_both c (leb (length c.numbers) (length ids)))
  put_same (declines d) e = refl

  look_same : (g : Question K) (a : Answer) → leb (filled (second g st)) (length ids) ≡ leb (filled (second g st)) (length ids') → as_chosen (look_on a g st ids) ≡ as_chosen (look_on a g st ids')
  look_same g nothing e = put_same (second g st) e
  look_same g (chooses c) e = put_same (second g st) e
  look_same g (declines d) e = refl

  module _ (cmp : K → K → Ordering) where
    module _ (c : Chosen) where
      abbrev refused_for : List ℕ → Refusal → Left K Booking
      refused_for sheet e = record { state = st; ids = sheet; result = Err e }

      abbrev granted_on : List ℕ → Left K Booking
      granted_on sheet = record {
        state = with_jobs st (hiding st.hidden c.numbers) (started (job_of c) st.slots);
        ids = laid c.numbers sheet;
        result = Ok (record { choice = as_choice c.kind c; ticket = job_number c.numbers });
      }

      abbrev book_at : List ℕ → Bool → Bool → Bool → Bool → Bool → Left K Booking
      book_at sheet short none taken' crossed fits =
          cond short (refused_for sheet IdsTooShort)
          (cond none (refused_for sheet NamesNoTable)
          (cond taken' (refused_for sheet (AlreadyHidden (place_of (taken st.hidden c) st.tables)))
          (cond crossed (refused_for sheet SpanTaken)
          (cond fits (granted_on sheet) (refused_for sheet BookFull)))))

      book_both : (a b c' d e : Bool) → as_booked (book_at ids a b c' d e) ≡ as_booked (book_at ids' a b c' d e)
      book_both true b c' d e = refl
      book_both false true c' d e = refl
      book_both false false true d e = refl
      book_both false false false true e = refl
      book_both false false false false true =
          ap (λ ns. (with_jobs st (hiding st.hidden c.numbers) (started (job_of c) st.slots), booked (Ok (record { choice = as_choice c.kind c; ticket = job_number c.numbers })) ns)) (front_is c.kind c ids ∙ sym (front_is c.kind c ids'))
      book_both false false false false false = refl

      choice_same : ltb (length ids) (length c.numbers) ≡ ltb (length ids') (length c.numbers) → as_booked (book_choice cmp c st ids) ≡ as_booked (book_choice cmp c st ids')
      choice_same e =
          let none = eqb (length c.numbers) 0 in
          let hid = list_any (taken st.hidden c) st.tables in
          let crossed = list_any (crosses cmp st.tables (job_of c)) (running st.slots) in
          let fits = ltb (length (running st.slots)) 8 && leb (length st.hidden + length c.numbers) 256 in
          let short = ltb (length ids) (length c.numbers) in
          subst (λ b. as_booked (book_at ids short none hid crossed fits) ≡ as_booked (book_at ids' b none hid crossed fits)) e (book_both short none hid crossed fits)

    book_same : (a : Answer) → ltb (length ids) (filled a) ≡ ltb (length ids') (filled a) → as_booked (book_answer cmp a st ids) ≡ as_booked (book_answer cmp a st ids')
    book_same nothing e = refl
    book_same (chooses c) e = choice_same c e
    book_same (declines d) e = refl

-- ---- on a sound sheet
lawful_few : {K : Type 0} (cmp : K → K → Ordering) (ts : List _) (a : Answer) → LawfulAnswer {K = K} cmp ts a → filled a ≤ length ts
lawful_few cmp ts nothing law = omega arith
lawful_few cmp ts (chooses c) law = stand_few ts law.once law.stands
lawful_few cmp ts (declines d) law = omega arith

module _ {K : Type 0} {cmp : K → K → Ordering} (laws : Laws cmp) (g : Question K) (law : Law cmp g) (st : State K) (short : length st.tables ≤ st.standing) where
  filled_few : state_ok cmp st ≡ true → (hs : List ℕ) → filled (g st.tables hs) ≤ 1024
  filled_few ok hs =
      let s = sound_from_test laws st.room st.standing st.blobs st.tables (and_parts (sheet_ok cmp st.room st.standing st.blobs st.tables) (book_ok cmp st.tables st.hidden (running st.slots)) ok).0 in
      let fits : length st.tables ≤ st.room = omega (arith, s.fits) in
      let whole : Sound cmp st.room (length st.tables) st.blobs st.tables = record { few = s.few; fits = fits; blob = s.blob; ordered = s.ordered; counted = s.counted } in
      omega (arith, lawful_few cmp st.tables (g st.tables hs) (law st.room st.blobs st.tables hs whole), s.few)

  module _ (ids ids' : List ℕ) (n : length ids ≡ min (length ids') 1024) where
    abbrev tested : {R : Type 0} → Bool → (List ℕ → Left K R) → List ℕ → Left K R
    tested b call sheet = cond b (call sheet) (record { state = st; ids = sheet; result = Err NotSound })

    fits_alike : (k : ℕ) → k ≤ 1024 → leb k (length ids) ≡ leb k (length ids')
    fits_alike k few = grind (arith, nat_tests)

    short_alike : (k : ℕ) → k ≤ 1024 → ltb (length ids) k ≡ ltb (length ids') k
    short_alike k few = grind (arith, nat_tests)

    put_at_test : (b : Bool) → state_ok cmp st ≡ b → as_chosen (tested b (B.propose g st) ids) ≡ as_chosen (tested b (B.propose g st) ids')
    put_at_test true ok = put_same st ids ids' (g st.tables st.hidden) (fits_alike _ (filled_few ok st.hidden))
    put_at_test false ok = refl

    look_at_test : (b : Bool) → state_ok cmp st ≡ b → as_chosen (tested b (B.look_ahead g st) ids) ≡ as_chosen (tested b (B.look_ahead g st) ids')
    look_at_test true ok = look_same st ids ids' g (g st.tables st.hidden) (fits_alike _ (filled_few ok _))
    look_at_test false ok = refl

    book_at_test : (b : Bool) → state_ok cmp st ≡ b → as_booked (tested b (B.book cmp g st) ids) ≡ as_booked (tested b (B.book cmp g st) ids')
    book_at_test true ok = book_same st ids ids' cmp (g st.tables st.hidden) (short_alike _ (filled_few ok st.hidden))
    book_at_test false ok = refl

-- ---- a call on an id sheet of so many places, but at most 1024 of them
module _ {K : Type 0} {cmp : K → K → Ordering} (laws : Laws cmp) (book : JobBook) (sheet : List (Table K)) (places : ℕ) (ids : List ℕ) (n : length ids ≡ min places 1024) where
  abbrev there : State K
  there = state book sheet

  abbrev on : Call K (Settings K) → List ℕ → State K × Reply
  on call sheet' = perform cmp (deed (standard cmp) book.blob_total call sheet') there

  short : length (take book.standing sheet) ≤ book.standing
  short = omega (arith, length-take book.standing sheet)

  long : length ids ≡ min (length (replicate {A = ℕ} places 0)) 1024
  long = n ∙ ap (λ k. min k 1024) (sym (length-replicate {A = ℕ} places 0))

  pub all_places : (call : Call K (Settings K)) → on call ids ≡ on call (replicate places 0)
  all_places (C.Land f) = refl
  all_places (C.Propose q) = put_at_test laws (question (standard cmp) q.settings book.blob_total q.clock) (standard_lawful laws q.settings book.blob_total q.clock) there short ids (replicate places 0) long (state_ok cmp there) refl
  all_places (C.LookAhead q) = look_at_test laws (question (standard cmp) q.settings book.blob_total q.clock) (standard_lawful laws q.settings book.blob_total q.clock) there short ids (replicate places 0) long (state_ok cmp there) refl
  all_places (C.Book q) = book_at_test laws (question (standard cmp) q.settings book.blob_total q.clock) (standard_lawful laws q.settings book.blob_total q.clock) there short ids (replicate places 0) long (state_ok cmp there) refl
  all_places (C.Close ticket outputs) = refl
  all_places (C.GiveUp ticket) = refl
