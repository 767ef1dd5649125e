-- What FIFO answers, by the tests that come before.
use Rattle.std.proofs.Common.{◌≡◌, ℕ, suc, ◌+◌, ◌<◌, ◌≤◌, Bool, true, false, cond, not, ◌||◌, eqb, ltb, List, [], ◌∷◌, length, Some, None, filter, sym, refl, ap, ◌∙◌, arith}
use Rattle.std.specs.List.{list_any, position, position_or_len}
use Rattle.std.proofs.lemmas.List.{length-map}
use Rattle.std.proofs.lemmas.List.Recursion.{is_position_or_len}
use Rattle.std.proofs.lemmas.Bool.{lt-ltb, le-ltb}
use Rattle.std.proofs.lemmas.Bool.Decides.{nat_tests}
use Rattle.runs.specs.declared.table.Table.{Table}
use Rattle.sheets.specs.Edits.{laid}
use Rattle.sheets.specs.Level.{numbers_of, in_level, level_of, runs}
use Rattle.sheets.proofs.Levels.{filled_is}
use Rattle.strategies.specs.declared.choice.Kind.TheVariants.{Drop}
use Rattle.strategies.specs.declared.declined.Declined.TheVariants.{ManyRuns, HiddenTable}
use Rattle.strategies.specs.Answer.{Answer, nothing, declines, naming}
use Rattle.strategies.specs.Fifo.{place_of, hidden_first, left_over, goes, fifo}

-- some pass where something is kept
some_is : {X : Type 0} (p : X → Bool) (xs : List X) → list_any p xs ≡ ltb 0 (length (filter p xs))
some_is p [] = refl
some_is p (x ∷ xs) =
    elim (p x) as (λ b. (b || list_any p xs) ≡ ltb 0 (length (cond b (x ∷ filter p xs) (filter p xs)))) [ true ↦ sym (lt-ltb 0 (suc (length (filter p xs))) (omega arith)) | false ↦ some_is p xs ]

-- the place of the first that passes, if one does
place_is : {X : Type 0} (p : X → Bool) (xs : List X) → position_or_len p xs ≡ place_of p xs
place_is p xs = sym (is_position_or_len (place_of p) p refl (λ x xs. ap (λ n. cond (p x) 0 n) (let one : suc (place_of p xs) ≡ 1 + place_of p xs = omega arith in one)) xs)

pub inside_is : {X : Type 0} (p : X → Bool) (xs : List X) → ltb (place_of p xs) (length xs) ≡ list_any p xs
inside_is p [] = refl
inside_is p (x ∷ xs) =
    elim (p x) as (λ b. ltb (cond b 0 (suc (place_of p xs))) (suc (length xs)) ≡ (b || list_any p xs)) [
      | true ↦ lt-ltb 0 (suc (length xs)) (omega arith)
      | false ↦ (let more : ltb (suc (place_of p xs)) (suc (length xs)) ≡ ltb (place_of p xs) (length xs) = grind (arith, nat_tests) in more) ∙ inside_is p xs
    ]

pub position_is : {X : Type 0} (p : X → Bool) (xs : List X) → position p xs ≡ cond (list_any p xs) (Some (place_of p xs)) None
position_is p xs = ap (λ n. cond (ltb n (length xs)) (Some n) None) (place_is p xs) ∙ ap (λ b. cond b (Some (place_of p xs)) None) (inside_is p xs)

-- what an answer with a place says of the test
pub found : (b : Bool) (m n : ℕ) → Some m ≡ cond b (Some n) None → (b ≡ true) × (m ≡ n)
found true m n e = (refl, cc)
found false m n e = absurd (let z : ◌≡◌ {A = ℕ} 0 1 = cc in omega arith)

pub unfound : (b : Bool) (n : ℕ) → None ≡ cond b (Some n) None → b ≡ false
unfound true n e = absurd (let z : ◌≡◌ {A = ℕ} 0 1 = cc in omega arith)
unfound false n e = refl

module _ {K : Type 0} (limit ttl blobs clock : ℕ) (ts : List (Table K)) (hs : List ℕ) where
  abbrev p : ℕ → Table K → Bool
  p left = goes ttl clock limit left ts

  -- what is answered if level 0 is one run and nothing in it is hidden
  abbrev drops : ℕ → Answer
  drops left = cond (list_any (p left) ts) (naming Drop 0 0 0 (p left) ts) nothing

  abbrev unhidden : Answer
  unhidden = cond (list_any (hidden_first hs) ts) (declines (HiddenTable (place_of (hidden_first hs) ts))) (drops (left_over ttl clock blobs ts))

  module _ (us : List (Table K)) (first : us ≡ level_of 0 ts) where
    pub fifo_empty : true ≡ eqb (length us) 0 → nothing ≡ fifo limit ttl blobs clock ts hs
    fifo_empty e =
        let none : list_any (in_level 0) ts ≡ false = filled_is 0 ts ∙ ap (λ vs. ltb 0 (length vs)) (sym first) ∙ le-ltb _ _ (grind (arith, nat_tests)) in
        sym (ap (λ b. cond (not b) nothing (cond (ltb 1 (runs ts)) (declines ManyRuns) unhidden)) none)

    module _ (filled : false ≡ eqb (length us) 0) where
      fifo_filled : cond (ltb 1 (runs ts)) (declines ManyRuns) unhidden ≡ fifo limit ttl blobs clock ts hs
      fifo_filled =
          let more : list_any (in_level 0) ts ≡ true = filled_is 0 ts ∙ ap (λ vs. ltb 0 (length vs)) (sym first) ∙ lt-ltb _ _ (grind (arith, nat_tests)) in
          sym (ap (λ b. cond (not b) nothing (cond (ltb 1 (runs ts)) (declines ManyRuns) unhidden)) more)

      pub fifo_many : (n : ℕ) → n ≡ runs ts → 1 < n → declines ManyRuns ≡ fifo limit ttl blobs clock ts hs
      fifo_many n e h = sym (ap (λ b. cond b (declines ManyRuns) unhidden) (lt-ltb 1 (runs ts) (omega (arith, e)))) ∙ fifo_filled

      module _ (n : ℕ) (counted : n ≡ runs ts) (one : n ≤ 1) where
        fifo_one : unhidden ≡ fifo limit ttl blobs clock ts hs
        fifo_one = sym (ap (λ b. cond b (declines ManyRuns) unhidden) (le-ltb 1 (runs ts) (omega (arith, counted)))) ∙ fifo_filled

        pub fifo_hidden : (place : ℕ) → Some place ≡ position (hidden_first hs) ts → declines (HiddenTable place) ≡ fifo limit ttl blobs clock ts hs
        fifo_hidden place e =
            let f = found (list_any (hidden_first hs) ts) place (place_of (hidden_first hs) ts) (e ∙ position_is (hidden_first hs) ts) in
            ap (λ k. declines (HiddenTable k)) f.1 ∙ sym (ap (λ b. cond b (declines (HiddenTable (place_of (hidden_first hs) ts))) (drops (left_over ttl clock blobs ts))) f.0) ∙ fifo_one

        module _ (shown : None ≡ position (hidden_first hs) ts) (left : ℕ) (is_left : left ≡ left_over ttl clock blobs ts) where
          fifo_shown : drops left ≡ fifo limit ttl blobs clock ts hs
          fifo_shown =
              ap drops is_left
              ∙ sym (ap (λ b. cond b (declines (HiddenTable (place_of (hidden_first hs) ts))) (drops (left_over ttl clock blobs ts))) (unfound (list_any (hidden_first hs) ts) (place_of (hidden_first hs) ts) (shown ∙ position_is (hidden_first hs) ts))) ∙ fifo_one

          pub fifo_none : length (numbers_of (filter (p left) ts)) ≡ 0 → nothing ≡ fifo limit ttl blobs clock ts hs
          fifo_none e =
              let none : list_any (p left) ts ≡ false = some_is (p left) ts ∙ le-ltb _ _ (omega (arith, e, length-map (filter (p left) ts) (λ t. t.number))) in
              sym (ap (λ b. cond b (naming Drop 0 0 0 (p left) ts) nothing) none) ∙ fifo_shown

          pub fifo_drop : (length (numbers_of (filter (p left) ts)) ≡ 0 → ⊥) → naming Drop 0 0 0 (p left) ts ≡ fifo limit ttl blobs clock ts hs
          fifo_drop n =
              let more : list_any (p left) ts ≡ true = some_is (p left) ts ∙ lt-ltb _ _ (omega (arith, n, length-map (filter (p left) ts) (λ t. t.number))) in
              sym (ap (λ b. cond b (naming Drop 0 0 0 (p left) ts) nothing) more) ∙ fifo_shown

-- no numbers leave the id sheet as it was
pub laid_none : (ns ids : List ℕ) → length ns ≡ 0 → laid ns ids ≡ ids
laid_none [] ids e = refl
laid_none (n ∷ ns) ids e = absurd (omega arith)
