-- How many stand before the first that passes a test, and before a table of its number.
use Rattle.std.proofs.Common.{◌≡◌, ℕ, zero, suc, ◌+◌, ◌<◌, ◌≤◌, Bool, true, false, cond, not, ◌&&◌, ◌||◌, eqb, ltb, leb, List, [], ◌∷◌, length, get_or, drop, sym, refl, ap, ◌∙◌, subst, inl, inr, add-one, arith}
use Rattle.std.proofs.lemmas.Bool.{cases_Bool, eq-eqb, ne_eqb, leb-true, and_right, not_from_true, not_from_false}
use Rattle.std.proofs.lemmas.Bool.Decides.{nat_tests}
use Rattle.runs.specs.declared.table.Table.{Table}
use Rattle.runs.proofs.Sorteds.{drop_read}
use Rattle.sheets.specs.Level.{numbers_of}
use Rattle.sheets.specs.Members.{In, Pairs, none, more}
use Rattle.sheets.specs.Sound.{Differ, distinct}
use Rattle.sheets.proofs.Distinct.{differ_from}
use Rattle.sheets.proofs.Levels.{get_or_in}
use Rattle.strategies.specs.Fifo.{place_of, older}

module _ {X : Type 0} (p : X → Bool) where
  -- where none of the first i passes
  pub place_from : (xs : List X) (i : ℕ) → i ≤ place_of p xs → i + place_of p (drop i xs) ≡ place_of p xs
  place_from [] zero h = omega arith
  place_from [] (suc i) h = absurd (omega arith)
  place_from (x ∷ xs) zero h = omega arith
  place_from (x ∷ xs) (suc i) h =
      elim (p x) as (λ b. suc i ≤ cond b 0 (suc (place_of p xs)) → suc i + place_of p (drop i xs) ≡ cond b 0 (suc (place_of p xs))) [
        | true ↦ λ k. absurd (omega arith)
        | false ↦ λ k. omega (arith, place_from xs i (omega arith))
      ] h

  -- whether none of the first i passes, one further
  pub place_more : (xs : List X) (i : ℕ) (x : X) → i < length xs → x ≡ get_or xs i x → (leb i (place_of p xs) && not (p x)) ≡ leb (i + 1) (place_of p xs)
  place_more xs i x inside read =
      elim (cases_Bool (leb i (place_of p xs))) [
        | inl le ↦
            let at : i + cond (p x) 0 (suc (place_of p (drop (i + 1) xs))) ≡ place_of p xs = ap (λ us. i + place_of p us) (sym (drop_read xs i x inside read)) ∙ place_from xs i (leb-true _ _ le) in
            ap (λ b. b && not (p x)) le ∙ go (p x) at
        | inr gt ↦ let f : leb (i + 1) (place_of p xs) ≡ false = grind (arith, nat_tests) in ap (λ b. b && not (p x)) gt ∙ sym f
      ]
    where
      go : (b : Bool) → i + cond b 0 (suc (place_of p (drop (i + 1) xs))) ≡ place_of p xs → (true && not b) ≡ leb (i + 1) (place_of p xs)
      go true e = grind (arith, nat_tests)
      go false e = grind (arith, nat_tests)

module _ {K : Type 0} where
  -- has this number
  abbrev pub numbered : ℕ → Table K → Bool
  numbered n v = eqb v.number n

  own : {ts : List (Table K)} → Pairs Differ ts → (i : ℕ) (u : Table K) → i < length ts → u ≡ get_or ts i u → place_of (numbered u.number) ts ≡ i
  own none i u h e = absurd (omega arith)
  own (more {x = t} {xs = ts} d ps) zero u h e = let q : eqb t.number u.number ≡ true = eq-eqb _ _ (ap (λ (v : Table K). v.number) (sym e)) in rw q
  own (more {x = t} {xs = ts} d ps) (suc i) u h e =
      let there : In u ts = subst (λ v. In v ts) (sym e) (get_or_in ts i u (omega arith)) in
      let q : eqb t.number u.number ≡ false = ne_eqb _ _ (d u there) in
      rw q (ap suc (own ps i u (omega arith) e))

  -- where numbers differ, a table's place is that of its number
  pub own_place : (ts : List (Table K)) → distinct (numbers_of ts) ≡ true → (i : ℕ) (u : Table K) → i < length ts → u ≡ get_or ts i u → place_of (numbered u.number) ts ≡ i
  own_place ts d i u h e = own (differ_from ts d) i u h e

-- ---- the loop over the tables that may be older than t, at the table u in place i
module _ {K : Type 0} (ts : List (Table K)) (differ : distinct (numbers_of ts) ≡ true) (t : Table K) (i : ℕ) (u : Table K) (inside : i < length ts) (read : u ≡ get_or ts i u) where
  -- whether t does not stand up to here, where `before` says whether it did not stand before
  pub earlier_here : (before : Bool) → before ≡ leb i (place_of (numbered t.number) ts) → u.number ≡ t.number → false ≡ leb (i + 1) (place_of (numbered t.number) ts)
  earlier_here before b e = sym (and_right before _ (not_from_true _ (eq-eqb _ _ e))) ∙ ap (λ x. x && not (numbered t.number u)) b ∙ place_more (numbered t.number) ts i u inside read

  pub earlier_there : (before : Bool) → before ≡ leb i (place_of (numbered t.number) ts) → (u.number ≡ t.number → ⊥) → before ≡ leb (i + 1) (place_of (numbered t.number) ts)
  earlier_there before b n =
      sym (both before (ne_eqb _ _ n)) ∙ ap (λ x. x && not (numbered t.number u)) b ∙ place_more (numbered t.number) ts i u inside read
    where
      both : (x : Bool) {y : Bool} → y ≡ false → (x && not y) ≡ x
      both true e = not_from_false _ e
      both false e = refl

  -- so u is older if it was created before, or at the same time and t does not stand up to here
  pub older_here : (earlier : Bool) → earlier ≡ leb (i + 1) (place_of (numbered t.number) ts) → (ltb u.created t.created || (eqb u.created t.created && earlier)) ≡ older ts t u
  older_here earlier e =
      let before : earlier ≡ ltb (place_of (numbered u.number) ts) (place_of (numbered t.number) ts) =
      e ∙ ap (λ n. leb n (place_of (numbered t.number) ts)) (add-one i) ∙ ap (λ n. ltb n (place_of (numbered t.number) ts)) (sym (own_place ts differ i u inside read)) in
      ap (λ b. ltb u.created t.created || (eqb u.created t.created && b)) before
