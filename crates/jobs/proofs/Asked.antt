-- What a question of a book says, put on an id sheet with a place for each table that can stand.
use Rattle.std.proofs.Common.{◌≡◌, ℕ, ◌^◌, ◌≤◌, Bool, true, false, cond, leb, List, length, take, replicate, Ok, Err, Result, Ordering, ◌⊎◌, sym, refl, ap, ◌∙◌, inl, inr, arith}
use Rattle.std.proofs.lemmas.Bool.{and_parts, le-leb, cond-true, cond-false}
use Rattle.refusals.specs.declared.refusal.Refusal.{Refusal}
use Rattle.refusals.specs.declared.refusal.Refusal.TheVariants.{NotSound, IdsTooShort}
use Rattle.keys.specs.KeyKind.{Laws}
use Rattle.runs.specs.declared.table.Table.{Table}
use Rattle.sheets.specs.Edits.{laid}
use Rattle.sheets.specs.HiddenSet.{hiding}
use Rattle.sheets.specs.Sound.{tables_ok, sheet_ok}
use Rattle.strategies.specs.declared.choice.Choice.{Choice}
use Rattle.strategies.specs.declared.choice.Choice.TheVariants as C
use Rattle.strategies.specs.Answer.{Chosen, Answer, nothing, chooses, declines, refusal_of, as_choice, asked, noted}
use Rattle.strategies.specs.Question.{count_in}
use Rattle.strategies.specs.Strategy.{LawfulAnswer, Law}
use Rattle.strategies.proofs.Asking.{count_is, laid_front}
use Rattle.books.specs.Book as Ask
use Rattle.books.specs.Book.{Question, Left, ahead_of}
use Rattle.books.specs.Booked.{SoundState, book_ok, state_ok}
use Rattle.books.specs.Calls.{propose}
use Rattle.books.specs.Job.{running}
use Rattle.books.specs.State.{State}
use Rattle.books.proofs.Looking.{stand_few, sheet_whole}
use Rattle.jobs.specs.declared.job_book.JobBook.{JobBook}
use Rattle.jobs.specs.View.{state, left}
use Rattle.jobs.proofs.Tested.{sound_state}

-- the standing tables pass their part of the test
pub standing_ok : {K : Type 0} (cmp : K → K → Ordering) (st : State K) → state_ok cmp st ≡ true → tables_ok cmp st.tables ≡ true
standing_ok cmp st ok =
    let sheet = and_parts (sheet_ok cmp st.room st.standing st.blobs st.tables) (book_ok cmp st.tables st.hidden (running st.slots)) ok in
    (and_parts (leb st.blobs (2 ^ 53)) _ (and_parts (leb st.standing st.room) _ (and_parts (leb st.room 1024) _ sheet.0).1).1).1

pub few : {K : Type 0} {cmp : K → K → Ordering} (st : State K) → SoundState cmp st → length st.tables ≤ 1024
few st s = omega (arith, s.whole, s.sheet.fits, s.sheet.few)

-- ---- a question that was granted
module _ (choice : Choice) (after : List ℕ) where
  -- the choice is the answer's, and its numbers are in front
  abbrev pub Says : Answer → Type 0
  Says nothing = choice ≡ C.DoNothing
  Says (chooses c) = (choice ≡ as_choice c.kind c) × (take (count_in choice) after ≡ c.numbers)
  Says (declines d) = ⊥

  says_chosen : (room : List ℕ) (c : Chosen) (b : Bool) → ◌≡◌ {A = Result Choice Refusal} (Ok choice) (cond b (Ok (as_choice c.kind c)) (Err IdsTooShort)) → after ≡ cond b (laid c.numbers room) room → Says (chooses c)
  says_chosen room c true e w =
      let f : choice ≡ as_choice c.kind c = cc in
      (f, ap (λ x. take (count_in x) after) f ∙ ap (λ n. take n after) (count_is c.kind c) ∙ ap (take (length c.numbers)) w ∙ laid_front c.numbers room)
  says_chosen room c false e w = absurd (let z : ◌≡◌ {A = ℕ} 0 1 = cc in omega arith)

  pub says : (room : List ℕ) (a : Answer) → Ok choice ≡ asked a (length room) → after ≡ noted a room → Says a
  says room nothing e w = cc
  says room (chooses c) e w = says_chosen room c (leb (length c.numbers) (length room)) e w
  says room (declines d) e w = let z : ◌≡◌ {A = ℕ} 0 1 = cc in omega arith

  -- the numbers of a look ahead
  pub ahead_is : (hs : List ℕ) (a : Answer) → Says a → hiding hs (take (count_in choice) after) ≡ ahead_of hs a
  ahead_is hs nothing s = ap (λ x. hiding hs (take (count_in x) after)) s
  ahead_is hs (chooses c) s = ap (hiding hs) s.1
  ahead_is hs (declines d) s = absurd s

  -- all its numbers are there
  pub count_long : (a : Answer) → Says a → count_in choice ≡ length (take (count_in choice) after)
  count_long nothing s = ap (λ x. count_in x) s ∙ sym (ap (λ x. length (take (count_in x) after)) s)
  count_long (chooses c) s = ap count_in s.0 ∙ count_is c.kind c ∙ sym (ap length s.1)
  count_long (declines d) s = absurd s

-- ---- a question that was refused
-- the strategy refused
abbrev pub Refuses : Refusal → Answer → Type 0
Refuses e nothing = ⊥
Refuses e (chooses c) = ⊥
Refuses e (declines d) = e ≡ refusal_of d

-- where a lawful answer has a place for each number
refuses : {K : Type 0} (cmp : K → K → Ordering) (ts : List (Table K)) (e : Refusal) (places : ℕ) → length ts ≤ places → (a : Answer) → LawfulAnswer cmp ts a → ◌≡◌ {A = Result Choice Refusal} (Err e) (asked a places) → Refuses e a
refuses cmp ts e places fits nothing law q = let z : ◌≡◌ {A = ℕ} 0 1 = cc in omega arith
refuses cmp ts e places fits (chooses c) law q =
    let h = le-leb (length c.numbers) places (omega (arith, stand_few ts law.once law.stands)) in
    let r = q ∙ ap (λ b. cond b (Ok (as_choice c.kind c)) (Err IdsTooShort)) h in
    let z : ◌≡◌ {A = ℕ} 0 1 = cc in
    omega arith
refuses cmp ts e places fits (declines d) law q = cc

-- ---- the first question of a call: put about a book and its sheet, on an id sheet of 1,024 places
module _ {K : Type 0} {cmp : K → K → Ordering} (laws : Laws cmp) (book : JobBook) (sheet : List (Table K)) (eight : length book.jobs ≡ 8) (g : Question K) (law : Law cmp g) (after : List ℕ)
    (r : Result Choice Refusal) (is : left (state book sheet) after r ≡ propose cmp g (state book sheet) (replicate 1024 0)) where
  abbrev st : State K
  st = state book sheet

  abbrev answer : Answer
  answer = g st.tables st.hidden

  -- granted, book and sheet are sound, and the choice is the answer's
  pub granted : (choice : Choice) → r ≡ Ok choice → (state_ok cmp st ≡ true) × SoundState cmp st × Says choice after answer
  granted choice e =
      elim (state_ok cmp st) as (λ b. state_ok cmp st ≡ b → left st after r ≡ cond b (Ask.propose g st (replicate 1024 0)) (left st (replicate 1024 0) (Err NotSound)) → (state_ok cmp st ≡ true) × SoundState cmp st × Says choice after answer) [
        | true ↦ λ ok q. (ok, sound_state laws book sheet ok eight, says choice after (replicate 1024 0) answer (sym e ∙ ap (λ (l : Left K Choice). l.result) q) (ap (λ (l : Left K Choice). l.ids) q))
        | false ↦ λ n q. absurd (let h = sym e ∙ ap (λ (l : Left K Choice). l.result) q in let z : ◌≡◌ {A = ℕ} 0 1 = cc in omega arith)
      ] refl is

  -- refused, they are not sound, or the strategy refused
  pub refused : (e : Refusal) → r ≡ Err e → ((state_ok cmp st ≡ false) × (e ≡ NotSound)) ⊎ ((state_ok cmp st ≡ true) × Refuses e answer)
  refused e f =
      elim (state_ok cmp st) as (λ b. state_ok cmp st ≡ b → left st after r ≡ cond b (Ask.propose g st (replicate 1024 0)) (left st (replicate 1024 0) (Err NotSound)) → ((state_ok cmp st ≡ false) × (e ≡ NotSound)) ⊎ ((state_ok cmp st ≡ true) × Refuses e answer)) [
        | true ↦ λ ok q.
            let s = sound_state laws book sheet ok eight in
            inr (ok, refuses cmp st.tables e 1024 (few st s) answer (law st.room st.blobs st.tables st.hidden (sheet_whole st s)) (sym f ∙ ap (λ (l : Left K Choice). l.result) q))
        | false ↦ λ n q. inl (n, let h = sym f ∙ ap (λ (l : Left K Choice). l.result) q in cc)
      ] refl is

-- ---- a call that asks: what it leaves, once the test is passed
module _ {K R : Type 0} (cmp : K → K → Ordering) (st : State K) (ids : List ℕ) (call : Left K R) where
  abbrev asks : Left K R
  asks = cond (state_ok cmp st) call (left st ids (Err NotSound))

  pub as_asked : state_ok cmp st ≡ true → call ≡ asks
  as_asked ok = sym (cond-true (state_ok cmp st) call _ ok)

  -- refused with its question, all is as it was
  pub as_refused : (a : Answer) (e : Refusal) → ((state_ok cmp st ≡ false) × (e ≡ NotSound)) ⊎ ((state_ok cmp st ≡ true) × Refuses e a) → (Refuses e a → left st ids (Err e) ≡ call) → left st ids (Err e) ≡ asks
  as_refused a e w f =
      elim w [
        | inl h ↦ ap (λ x. left st ids (Err x)) h.1 ∙ sym (cond-false (state_ok cmp st) call _ h.0)
        | inr h ↦ f h.1 ∙ as_asked h.0
      ]
