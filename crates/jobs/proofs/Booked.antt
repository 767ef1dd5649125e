-- Booking a choice, from the question and from what was admitted.
use Rattle.std.proofs.Common.{◌≡◌, ℕ, ◌+◌, ◌<◌, ◌≤◌, Bool, true, false, cond, ◌⊎◌, ◌&&◌, eqb, ltb, leb, List, [], ◌∷◌, ◌++◌, map, length, take, drop, set, Some, None, Ok, Err, Option, Result, Ordering, sym, refl, ap, ◌∙◌, arith}
use Rattle.std.specs.List.{list_any}
use Rattle.std.proofs.lemmas.Bool.{lt-ltb, le-ltb, eq-eqb, cond-true, cond-false}
use Rattle.refusals.specs.declared.refusal.Refusal.{Refusal}
use Rattle.refusals.specs.declared.refusal.Refusal.TheVariants.{NotSound, IdsTooShort, NamesNoTable, AlreadyHidden, SpanTaken}
use Rattle.runs.specs.declared.table.Table.{Table}
use Rattle.sheets.specs.Edits.{laid}
use Rattle.sheets.specs.HiddenSet.{hiding}
use Rattle.strategies.specs.declared.choice.Choice.{Choice}
use Rattle.strategies.specs.declared.choice.Choice.TheVariants as C
use Rattle.strategies.specs.Answer.{Chosen, Answer, nothing, chooses, declines, as_choice}
use Rattle.strategies.specs.Fifo.{place_of}
use Rattle.strategies.specs.Question.{count_in}
use Rattle.strategies.proofs.Asking.{count_is}
use Rattle.books.specs.Book.{Question, Booking, Left, job_of, granted, taken, book_choice, book_answer}
use Rattle.books.specs.Booked.{crosses, state_ok}
use Rattle.books.specs.Calls.{book}
use Rattle.books.specs.Job.{Running, job_number, running, started}
use Rattle.books.specs.State.{State, with_jobs}
use Rattle.slots.specs.declared.job.Task.{Task}
use Rattle.slots.specs.Admitted.{is_free, admitted}
use Rattle.slots.specs.View.{job_over, slot_as, slot}
use Rattle.slots.proofs.Admitting.{own_numbers, admitted_place}
use Rattle.jobs.specs.declared.job_book.JobBook.{JobBook}
use Rattle.jobs.specs.View.{state, left}
use Rattle.jobs.proofs.Asked.{Says, Refuses, as_asked, as_refused}

-- ---- a job in a slot
-- a test before what is done with the result
before : {X Y : Type 0} (f : X → Y) (b : Bool) (x y : X) → f (cond b x y) ≡ cond b (f x) (f y)
before f true x y = refl
before f false x y = refl

-- the first free slot takes the job
pub started_set : (j : Running) (ss : List (Option Running)) → set ss (place_of is_free ss) (Some j) ≡ started j ss
started_set j [] = refl
started_set j (None ∷ ss) = refl
started_set j (Some k ∷ ss) = ap (λ us. Some k ∷ us) (started_set j ss)

-- the numbers that are named
abbrev pub named : Choice → List ℕ → List ℕ
named choice after = take (count_in choice) after

-- what is done with them is the choice's
abbrev pub Does : Choice → Option Task → Type 0
Does choice o = (c : Chosen) → choice ≡ as_choice c.kind c → slot_as o c.numbers ≡ Some (job_of c)

-- what is admitted, for a job over them
abbrev pub admits : {K : Type 0} → (K → K → Ordering) → State K → Choice → List ℕ → Task → Result ℕ Refusal
admits cmp st choice after task = admitted cmp st.tables st.hidden st.slots (job_over task (named choice after))

-- what was booked, part by part
pub booking_is : {K : Type 0} {st st' : State K} {ids ids' : List ℕ} {choice choice' : Choice} {n n' : ℕ} → st ≡ st' → ids ≡ ids' → choice ≡ choice' → n ≡ n'
    → left {R = Booking} st ids (Ok (record { choice = choice; ticket = n })) ≡ left st' ids' (Ok (record { choice = choice'; ticket = n' }))
booking_is s i c t = rw (s, i, c, t) refl

module _ {K : Type 0} (cmp : K → K → Ordering) (st : State K) (ids : List ℕ) where
  -- what was booked, or why not
  abbrev told : Chosen → Result ℕ Refusal → Left K Booking
  told c (Ok place) = granted c st ids
  told c (Err e) = left st ids (Err e)

  -- a choice is booked where its job is admitted
  told_is : (c : Chosen) → length c.numbers ≤ length ids → told c (admitted cmp st.tables st.hidden st.slots (job_of c)) ≡ book_choice cmp c st ids
  told_is c long =
      let f = told c in
      before f (eqb (length c.numbers) 0) _ _
      ∙ ap (cond (eqb (length c.numbers) 0) (f (Err NamesNoTable)))
      (before f (list_any (taken st.hidden c) st.tables) _ _
      ∙ ap (cond (list_any (taken st.hidden c) st.tables) (f (Err (AlreadyHidden (place_of (taken st.hidden c) st.tables)))))
      (before f (list_any (crosses cmp st.tables (job_of c)) (running st.slots)) _ _
      ∙ ap (cond (list_any (crosses cmp st.tables (job_of c)) (running st.slots)) (f (Err SpanTaken)))
      (before f (ltb (length (running st.slots)) 8 && leb (length st.hidden + length c.numbers) 256) _ _)))
      ∙ sym (cond-false (ltb (length ids) (length c.numbers)) (f (Err IdsTooShort)) _ (le-ltb (length ids) (length c.numbers) long))

  -- ---- by what the strategy answered
  module _ (choice : Choice) (after : List ℕ) where
    short_at : (a : Answer) → Says choice after a → length ids < count_in choice → left st ids (Err IdsTooShort) ≡ book_answer cmp a st ids
    short_at nothing s h = absurd (omega (arith, ap count_in s))
    short_at (chooses c) s h = sym (cond-true (ltb (length ids) (length c.numbers)) (left st ids (Err IdsTooShort)) _ (lt-ltb (length ids) (length c.numbers) (omega (arith, ap count_in s.0, count_is c.kind c))))
    short_at (declines d) s h = absurd s

    untasked_at : (a : Answer) → Says choice after a → Does choice None → left st ids (Err NamesNoTable) ≡ book_answer cmp a st ids
    untasked_at nothing s d = refl
    untasked_at (chooses c) s d = absurd (let e = d c s.0 in let z : ◌≡◌ {A = ℕ} 0 1 = cc in omega arith)
    untasked_at (declines r) s d = absurd s

    -- where nothing is named
    empty_admits : choice ≡ C.DoNothing → (task : Task) → admits cmp st choice after task ≡ Err NamesNoTable
    empty_admits s task =
        let ns = named choice after in
        let none : length (job_over task ns).numbers ≡ 0 = ap length (own_numbers task ns) ∙ ap (λ x. length (take (count_in x) after)) s in
        cond-true (eqb (length (job_over task ns).numbers) 0) (Err NamesNoTable) _ (eq-eqb _ _ none)

    module _ (task : Task) (does : Does choice (Some task)) (long : count_in choice ≤ length ids) where
      job_is : (c : Chosen) → Says choice after (chooses c) → job_over task (named choice after) ≡ job_of c
      job_is c s = let e = does c s.0 in let same : job_over task c.numbers ≡ job_of c = cc in ap (job_over task) s.1 ∙ same

      chosen_is : (c : Chosen) → Says choice after (chooses c) → (r : Result ℕ Refusal) → r ≡ admits cmp st choice after task → told c r ≡ book_choice cmp c st ids
      chosen_is c s r e = ap (told c) (e ∙ ap (admitted cmp st.tables st.hidden st.slots) (job_is c s)) ∙ told_is c (omega (arith, long, ap count_in s.0, count_is c.kind c))

      barred_at : (a : Answer) → Says choice after a → (e : Refusal) → Err e ≡ admits cmp st choice after task → left st ids (Err e) ≡ book_answer cmp a st ids
      barred_at nothing s e r = let q = r ∙ empty_admits s task in let same : e ≡ NamesNoTable = cc in ap (λ x. left st ids (Err x)) same
      barred_at (chooses c) s e r = chosen_is c s (Err e) r
      barred_at (declines d) s e r = absurd s

      -- the job in its slot
      slots_are : (c : Chosen) → Says choice after (chooses c) → (place : ℕ) → Ok place ≡ admits cmp st choice after task → set st.slots place (Some (job_over task (named choice after))) ≡ started (job_of c) st.slots
      slots_are c s place r =
          ap (λ n. set st.slots n (Some (job_over task (named choice after)))) (admitted_place cmp st.tables st.hidden st.slots (job_over task (named choice after)) place r)
          ∙ ap (λ j. set st.slots (place_of is_free st.slots) (Some j)) (job_is c s) ∙ started_set (job_of c) st.slots

      booked_at : (a : Answer) → Says choice after a → (place : ℕ) → Ok place ≡ admits cmp st choice after task
          → left {R = Booking} (with_jobs st (hiding st.hidden (named choice after)) (set st.slots place (Some (job_over task (named choice after))))) (laid (named choice after) ids)
          (Ok (record { choice = choice; ticket = job_number (named choice after) }))
          ≡ book_answer cmp a st ids
      booked_at nothing s place r = absurd (let q = r ∙ empty_admits s task in let z : ◌≡◌ {A = ℕ} 0 1 = cc in omega arith)
      booked_at (chooses c) s place r =
          booking_is
          (ap (λ ns. with_jobs st (hiding st.hidden ns) (set st.slots place (Some (job_over task (named choice after))))) s.1 ∙ ap (with_jobs st (hiding st.hidden c.numbers)) (slots_are c s place r))
          (ap (λ ns. laid ns ids) s.1) s.0 (ap job_number s.1)
          ∙ chosen_is c s (Ok place) r
      booked_at (declines d) s place r = absurd s

-- ---- the call
module _ {K : Type 0} (cmp : K → K → Ordering) (g : Question K) (st : State K) (ids : List ℕ) where
  abbrev answer : Answer
  answer = g st.tables st.hidden

  declined : (e : Refusal) (a : Answer) → Refuses e a → left st ids (Err e) ≡ book_answer cmp a st ids
  declined e nothing r = absurd r
  declined e (chooses c) r = absurd r
  declined e (declines d) r = ap (λ x. left st ids (Err x)) r

  -- as the question is refused
  pub book_refused : (e : Refusal) → ((state_ok cmp st ≡ false) × (e ≡ NotSound)) ⊎ ((state_ok cmp st ≡ true) × Refuses e answer) → left st ids (Err e) ≡ book cmp g st ids
  book_refused e w = as_refused cmp st ids (book_answer cmp answer st ids) answer e w (declined e answer)

  module _ (ok : state_ok cmp st ≡ true) where
    answered : book_answer cmp answer st ids ≡ book cmp g st ids
    answered = as_asked cmp st ids (book_answer cmp answer st ids) ok

    module _ (choice : Choice) (after : List ℕ) (s : Says choice after answer) where
      pub book_short : length ids < count_in choice → left st ids (Err IdsTooShort) ≡ book cmp g st ids
      book_short h = short_at cmp st ids choice after answer s h ∙ answered

      pub book_untasked : Does choice None → left st ids (Err NamesNoTable) ≡ book cmp g st ids
      book_untasked d = untasked_at cmp st ids choice after answer s d ∙ answered

      module _ (task : Task) (does : Does choice (Some task)) (long : count_in choice ≤ length ids) where
        pub book_barred : (e : Refusal) → Err e ≡ admits cmp st choice after task → left st ids (Err e) ≡ book cmp g st ids
        book_barred e r = barred_at cmp st ids choice after task does long answer s e r ∙ answered

        pub book_granted : (place : ℕ) → Ok place ≡ admits cmp st choice after task
            → left {R = Booking} (with_jobs st (hiding st.hidden (named choice after)) (set st.slots place (Some (job_over task (named choice after))))) (laid (named choice after) ids)
            (Ok (record { choice = choice; ticket = job_number (named choice after) }))
            ≡ book cmp g st ids
        book_granted place r = booked_at cmp st ids choice after task does long answer s place r ∙ answered

-- book and sheet, once the job is started
pub started_state : {K : Type 0} (old new : JobBook) (sheet : List (Table K)) (hs : List ℕ) (ss : List (Option Running)) → (new.standing ≡ old.standing) × (new.blob_total ≡ old.blob_total) → new.hidden ≡ hs → map slot new.jobs ≡ ss
    → state new sheet ≡ with_jobs (state old sheet) hs ss
started_state old new sheet hs ss same hidden slots = rw (same.0, same.1, hidden, slots) refl

-- what was copied to the front of an id sheet
pub front_laid : (front rest ns ids : List ℕ) (mid : ℕ) → front ≡ ns → rest ≡ drop mid ids → mid ≡ length ns → front ++ rest ≡ laid ns ids
front_laid front rest ns ids mid e f m = ap (λ xs. xs ++ rest) e ∙ ap (λ ys. ns ++ ys) (f ∙ ap (λ n. drop n ids) m)
