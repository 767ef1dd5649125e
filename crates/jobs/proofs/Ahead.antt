-- Looking ahead from two questions.
use Rattle.std.proofs.Common.{◌≡◌, ℕ, true, false, ◌⊎◌, List, length, Err, Result, Ordering, refl, ap, ◌∙◌}
use Rattle.refusals.specs.declared.refusal.Refusal.{Refusal}
use Rattle.refusals.specs.declared.refusal.Refusal.TheVariants.{NotSound}
use Rattle.strategies.specs.declared.choice.Choice.{Choice}
use Rattle.strategies.specs.Answer.{Answer, nothing, chooses, declines, asked, noted}
use Rattle.books.specs.Book as Ask
use Rattle.books.specs.Book.{Question, ahead_of, second, look_on}
use Rattle.books.specs.Booked.{state_ok}
use Rattle.books.specs.Calls.{look_ahead}
use Rattle.books.specs.State.{State}
use Rattle.jobs.specs.View.{left}
use Rattle.jobs.proofs.Asked.{Says, Refuses, as_asked, as_refused}

module _ {K : Type 0} (cmp : K → K → Ordering) (g : Question K) (st : State K) (ids : List ℕ) where
  declined : (e : Refusal) (a : Answer) → Refuses e a → left st ids (Err e) ≡ look_on a g st ids
  declined e nothing r = absurd r
  declined e (chooses c) r = absurd r
  declined e (declines d) r = ap (λ x. left st ids (Err x)) r

  -- as the first question is refused
  pub look_refused : (e : Refusal) → ((state_ok cmp st ≡ false) × (e ≡ NotSound)) ⊎ ((state_ok cmp st ≡ true) × Refuses e (g st.tables st.hidden)) → left st ids (Err e) ≡ look_ahead cmp g st ids
  look_refused e w = as_refused cmp st ids (Ask.look_ahead g st ids) (g st.tables st.hidden) e w (declined e (g st.tables st.hidden))

  looked : (choice : Choice) (after : List ℕ) (a : Answer) → Says choice after a → left st (noted (second g st) ids) (asked (second g st) (length ids)) ≡ look_on a g st ids
  looked choice after nothing s = refl
  looked choice after (chooses c) s = refl
  looked choice after (declines d) s = absurd s

  -- as the second question answers
  pub look_second : (choice : Choice) (after : List ℕ) → state_ok cmp st ≡ true → Says choice after (g st.tables st.hidden)
      → (hs : List ℕ) → hs ≡ ahead_of st.hidden (g st.tables st.hidden)
      → (ids' : List ℕ) → ids' ≡ noted (g st.tables hs) ids → (r : Result Choice Refusal) → r ≡ asked (g st.tables hs) (length ids) → left st ids' r ≡ look_ahead cmp g st ids
  look_second choice after ok s hs f ids' i r e =
      ap (λ x. left st x r) (i ∙ ap (λ h. noted (g st.tables h) ids) f)
      ∙ ap (left st (noted (second g st) ids)) (e ∙ ap (λ h. asked (g st.tables h) (length ids)) f)
      ∙ looked choice after (g st.tables st.hidden) s ∙ as_asked cmp st ids (Ask.look_ahead g st ids) ok
