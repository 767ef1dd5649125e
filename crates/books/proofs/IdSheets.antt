-- What a question leaves of the id sheet: the numbers that the returned choice names, over the front. So a reply tells it, and no call reads what the sheet held.
use Rattle.std.proofs.Common.{◌≡◌, ℕ, true, false, cond, ltb, leb, List, [], length, take, drop, Ok, Err, Ordering, sym, refl, ap}
use Rattle.std.proofs.lemmas.List.{take_at}
use Rattle.std.proofs.lemmas.Bool.{cond_both}
use Rattle.refusals.specs.declared.refusal.Refusal.TheVariants.{IdsTooShort}
use Rattle.sheets.specs.Edits.{laid}
use Rattle.strategies.specs.declared.choice.Choice.{Choice}
use Rattle.strategies.specs.declared.choice.Kind.{Kind}
use Rattle.strategies.specs.Answer.{Chosen, Answer, nothing, chooses, declines, as_choice, asked, noted}
use Rattle.strategies.specs.Question.{count_in}
use Rattle.strategies.proofs.Asking.{count_is}
use Rattle.books.specs.Book.{Question, Booking, Left, job_of, second, look_on, refused, granted, book_choice, book_answer}
use Rattle.books.specs.Booked.{state_ok}
use Rattle.books.specs.Calls.{propose, look_ahead, book}
use Rattle.books.specs.Deed.{names}
use Rattle.books.specs.State.{State}
use Rattle.books.proofs.Starting.{barred_or}

-- ---- the numbers that a choice names
pub front_is : (k : Kind) (c : Chosen) (ids : List ℕ) → take (count_in (as_choice k c)) (laid c.numbers ids) ≡ c.numbers
front_is k c ids = take_at c.numbers (drop (length c.numbers) ids) (count_in (as_choice k c)) (sym (count_is k c))

-- the numbers of an answer that finds so many places
abbrev pub listed : Answer → ℕ → List ℕ
listed nothing places = []
listed (chooses c) places = cond (leb (length c.numbers) places) c.numbers []
listed (declines d) places = []

pub asked_names : (a : Answer) (ids : List ℕ) → names (λ c. c) (asked a (length ids)) (noted a ids) ≡ listed a (length ids)
asked_names nothing ids = refl
asked_names (chooses c) ids =
    elim (leb (length c.numbers) (length ids))
    as (λ b. names (λ c. c) (cond b (Ok (as_choice c.kind c)) (Err IdsTooShort)) (cond b (laid c.numbers ids) ids) ≡ cond b c.numbers []) [ true ↦ front_is c.kind c ids | false ↦ refl ]
asked_names (declines d) ids = refl

-- ---- the sheet after
noted_laid : (a : Answer) (ids : List ℕ) → noted a ids ≡ laid (names (λ c. c) (asked a (length ids)) (noted a ids)) ids
noted_laid nothing ids = refl
noted_laid (chooses c) ids =
    elim (leb (length c.numbers) (length ids))
    as (λ b. cond b (laid c.numbers ids) ids ≡ laid (names (λ c. c) (cond b (Ok (as_choice c.kind c)) (Err IdsTooShort)) (cond b (laid c.numbers ids) ids)) ids) [
      | true ↦ ap (λ ns. laid ns ids) (sym (front_is c.kind c ids))
      | false ↦ refl
    ]
noted_laid (declines d) ids = refl

module _ {K : Type 0} (cmp : K → K → Ordering) (g : Question K) (st : State K) (ids : List ℕ) where
  -- the numbers that are named lie over the front, and the rest is kept
  abbrev Lies : {R : Type 0} → (R → Choice) → Left K R → Type 0
  Lies choice l = l.ids ≡ laid (names choice l.result l.ids) ids

  pub propose_ids : Lies (λ c. c) (propose cmp g st ids)
  propose_ids = cond_both (state_ok cmp st) _ _ (Lies (λ c. c)) (λ _. noted_laid (g st.tables st.hidden) ids) (λ _. refl)

  look_on_ids : (a : Answer) → Lies (λ c. c) (look_on a g st ids)
  look_on_ids nothing = noted_laid (second g st) ids
  look_on_ids (chooses c) = noted_laid (second g st) ids
  look_on_ids (declines d) = refl

  pub look_ahead_ids : Lies (λ c. c) (look_ahead cmp g st ids)
  look_ahead_ids = cond_both (state_ok cmp st) _ _ (Lies (λ c. c)) (λ _. look_on_ids (g st.tables st.hidden)) (λ _. refl)

  choice_ids : (c : Chosen) → Lies (λ b. b.choice) (book_choice cmp c st ids)
  choice_ids c =
      let P = Lies (λ (b : Booking). b.choice) in
      cond_both (ltb (length ids) (length c.numbers)) _ _ P (λ _. refl) (λ _.
      barred_or cmp st.tables st.hidden st.slots (job_of c) P (refused st ids) (granted c st ids) (λ e _. refl) (λ _. ap (λ ns. laid ns ids) (sym (front_is c.kind c ids))))

  book_answer_ids : (a : Answer) → Lies (λ b. b.choice) (book_answer cmp a st ids)
  book_answer_ids nothing = refl
  book_answer_ids (chooses c) = choice_ids c
  book_answer_ids (declines d) = refl

  pub book_ids : Lies (λ b. b.choice) (book cmp g st ids)
  book_ids = cond_both (state_ok cmp st) _ _ (Lies (λ b. b.choice)) (λ _. book_answer_ids (g st.tables st.hidden)) (λ _. refl)
