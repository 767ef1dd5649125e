-- The slot of the job of a number, by its place.
use Rattle.std.proofs.Common.{◌≡◌, ℕ, zero, suc, ◌<◌, Bool, true, false, ltb, List, [], ◌∷◌, map, length, get_or, set, Some, None, Option, sym, refl, ap, ◌∙◌, inl, inr, arith}
use Rattle.std.specs.List.{position, position_or_len}
use Rattle.std.proofs.lemmas.Bool.{cond-true, cond-false, ltb-true, ltb-false, cases_Bool}
use Rattle.std.proofs.lemmas.List.Sums.{fails_before_first, passes_at_first}
use Rattle.books.specs.Job.{is_known, found, ended}
use Rattle.slots.specs.declared.job.Job.{Job}
use Rattle.slots.specs.View.{slot}

module _ (n : ℕ) where
  -- the slot runs the job of the number
  abbrev knows : Job → Bool
  knows job = is_known n (slot job)

  -- where no slot before a place runs it, and the one at the place does, that is found, and freed it is ended
  found_at : (jobs : List Job) (i : ℕ) (job : Job) → i < length jobs → ((k : ℕ) → k < i → knows (get_or jobs k job) ≡ false) → knows (get_or jobs i job) ≡ true
      → found n (map slot jobs) ≡ slot (get_or jobs i job)
  found_at [] i job lt before at = absurd (omega arith)
  found_at (j ∷ jobs) zero job lt before at = cond-true (knows j) (slot j) (found n (map slot jobs)) at
  found_at (j ∷ jobs) (suc i) job lt before at =
      cond-false (knows j) (slot j) (found n (map slot jobs)) (before 0 (omega arith)) ∙ found_at jobs i job (omega arith) (λ k h. before (suc k) (omega arith)) at

  ended_at : (jobs : List Job) (i : ℕ) (job free : Job) → i < length jobs → ((k : ℕ) → k < i → knows (get_or jobs k job) ≡ false) → knows (get_or jobs i job) ≡ true → slot free ≡ None
      → map slot (set jobs i free) ≡ ended n (map slot jobs)
  ended_at [] i job free lt before at e = absurd (omega arith)
  ended_at (j ∷ jobs) zero job free lt before at e = ap (λ s. s ∷ map slot jobs) e ∙ sym (cond-true (knows j) (None ∷ map slot jobs) (slot j ∷ ended n (map slot jobs)) at)
  ended_at (j ∷ jobs) (suc i) job free lt before at e =
      ap (λ ss. slot j ∷ ss) (ended_at jobs i job free (omega arith) (λ k h. before (suc k) (omega arith)) at e)
      ∙ sym (cond-false (knows j) (None ∷ map slot jobs) (slot j ∷ ended n (map slot jobs)) (before 0 (omega arith)))

  none_at : (jobs : List Job) (job : Job) → ((k : ℕ) → k < length jobs → knows (get_or jobs k job) ≡ false) → found n (map slot jobs) ≡ None
  none_at [] job h = refl
  none_at (j ∷ jobs) job h = cond-false (knows j) (slot j) (found n (map slot jobs)) (h 0 (omega arith)) ∙ none_at jobs job (λ k lt. h (suc k) (omega arith))

  -- ---- what the search for it answered
  record At (jobs : List Job) (i : ℕ) : Type 0 where
    within : i < length jobs
    first : i ≡ position_or_len knows jobs

  at_place : (jobs : List Job) (i : ℕ) → position knows jobs ≡ Some i → At jobs i
  at_place jobs i e =
      let p = position_or_len knows jobs in
      elim (cases_Bool (ltb p (length jobs))) [
        | inl h ↦
            let lt = ltb-true p (length jobs) h in
            let some : Some p ≡ Some i = sym (cond-true (ltb p (length jobs)) (Some p) None h) ∙ e in
            let same : p ≡ i = cc in
            record { within = omega arith; first = sym same }
        | inr h ↦ let some : None ≡ Some i = sym (cond-false (ltb p (length jobs)) (Some p) None h) ∙ e in absurd (let z : ◌≡◌ {A = ℕ} 0 1 = cc in omega arith)
      ]

  -- no slot runs it
  pub none_found : (jobs : List Job) → position knows jobs ≡ None → found n (map slot jobs) ≡ None
  none_found [] e = refl
  none_found (j ∷ jobs) e =
      let all = j ∷ jobs in
      let p = position_or_len knows all in
      elim (cases_Bool (ltb p (length all))) [
        | inl h ↦ let some : Some p ≡ None = sym (cond-true (ltb p (length all)) (Some p) None h) ∙ e in absurd (let z : ◌≡◌ {A = ℕ} 0 1 = cc in omega arith)
        | inr h ↦ let le = ltb-false p (length all) h in none_at all j (λ k lt. fails_before_first knows all k j (omega arith))
      ]

  module _ (jobs : List Job) (o : Option ℕ) (said : o ≡ position knows jobs) (i : ℕ) (at : o ≡ Some i) where
    placed : At jobs i
    placed = at_place jobs i (sym said ∙ at)

    pub place_within : i < length jobs
    place_within = placed.within

    module _ (job : Job) where
      before : (k : ℕ) → k < i → knows (get_or jobs k job) ≡ false
      before k lt = let a = placed in fails_before_first knows jobs k job (omega arith)

      -- the slot at the place runs it, is the one that is found, and freed it is ended
      pub place_knows : knows (get_or jobs i job) ≡ true
      place_knows = let a = placed in ap (λ k. knows (get_or jobs k job)) a.first ∙ passes_at_first knows jobs job (omega arith)

      pub place_found : found n (map slot jobs) ≡ slot (get_or jobs i job)
      place_found = found_at jobs i job place_within before place_knows

      pub place_ended : (free : Job) → slot free ≡ None → map slot (set jobs i free) ≡ ended n (map slot jobs)
      place_ended free f = ended_at jobs i job free place_within before place_knows f
