-- Tables put in their places.
use Rattle.std.proofs.Common.{◌≡◌, ℕ, ◌+◌, ◌≤◌, Bool, true, false, cond, not, List, [], ◌∷◌, ◌++◌, length, Ordering, refl, ap, one-add, arith}
use Rattle.std.specs.List.{insert as inserted}
use Rattle.std.proofs.lemmas.List.Sums.{prefix_len-le-length}
use Rattle.runs.specs.declared.table.Table.{Table}
use Rattle.sheets.specs.Tables.{sooner, place, insert, inserts}
use Rattle.sheets.proofs.Laid.{length_cond}

at_place : {X : Type 0} (b : Bool) (t u : X) (us l : List X) (n : ℕ) → inserted us n t ≡ l → inserted (u ∷ us) (cond (not b) (1 + n) 0) t ≡ cond b (t ∷ u ∷ us) (u ∷ l)
at_place true t u us l n h = refl
at_place false t u us l n h = rw one-add (ap (λ k. u ∷ k) h)

module _ {K : Type 0} (cmp : K → K → Ordering) where
  pub place_within : (t : Table K) (us : List (Table K)) → place cmp t us ≤ length us
  place_within t us = prefix_len-le-length (λ u. not (sooner cmp t u)) us

  -- at its place, a table is inserted
  pub inserted_place : (t : Table K) (us : List (Table K)) → inserted us (place cmp t us) t ≡ insert cmp t us
  inserted_place t [] = refl
  inserted_place t (u ∷ us) = at_place (sooner cmp t u) t u us (insert cmp t us) (place cmp t us) (inserted_place t us)

  pub length_insert : (t : Table K) (us : List (Table K)) → length (insert cmp t us) ≡ length us + 1
  length_insert t [] = refl
  length_insert t (u ∷ us) = length_cond (sooner cmp t u) _ _ _ (omega arith) (omega (arith, length_insert t us))

  pub length_inserts : (more ts : List (Table K)) → length (inserts cmp ts more) ≡ length ts + length more
  length_inserts [] ts = omega arith
  length_inserts (t ∷ more) ts = omega (arith, length_inserts more (insert cmp t ts), length_insert t ts)

  -- one more at the end
  pub inserts_push : (more ts : List (Table K)) (t : Table K) → inserts cmp ts (more ++ t ∷ []) ≡ insert cmp t (inserts cmp ts more)
  inserts_push [] ts t = refl
  inserts_push (u ∷ more) ts t = inserts_push more (insert cmp u ts) t
