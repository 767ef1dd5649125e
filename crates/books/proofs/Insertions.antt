-- A list of tables that ascends keeps ascending where tables are put in that stand beside all.
use Rattle.std.proofs.Common.{◌≡◌, ℕ, ◌+◌, true, false, cond, ◌⊎◌, List, [], ◌∷◌, sum_by, Ordering, sym, refl, subst, inl, inr, arith}
use Rattle.std.specs.Ordering.{is_lt}
use Rattle.std.proofs.lemmas.List.Sums.{sum_by-cons}
use Rattle.keys.specs.KeyKind.{Laws}
use Rattle.runs.specs.declared.table.Table.{Table}
use Rattle.sheets.specs.Members.{In, here, later, Every, Pairs, none, more}
use Rattle.sheets.specs.Sound.{Proper}
use Rattle.sheets.specs.Tables.{sooner, insert, inserts}
use Rattle.sheets.proofs.Ascends.{Ahead, by_key, ahead_chain, sooner_yes, sooner_no}
use Rattle.sheets.proofs.Each.{none_in, in_cases}
use Rattle.books.proofs.Outs.{Out, first, next, out_in, out_rest, out_cases, out_each, out_sum, pairs_out}

-- one of them is ahead of the other
abbrev pub Beside : {K : Type 0} → (K → K → Ordering) → Table K → Table K → Type 0
Beside cmp t u = Ahead cmp t u ⊎ Ahead cmp u t

module _ {K : Type 0} (cmp : K → K → Ordering) where
  pub beside_turn : (t u : Table K) → Beside cmp t u → Beside cmp u t
  beside_turn t u (inl a) = inr a
  beside_turn t u (inr a) = inl a

  -- in one run, one ends before the other begins
  pub keyed : (t u : Table K) → t.level ≡ u.level → t.run ≡ u.run → (is_lt (cmp t.range.max u.range.min) ≡ true) ⊎ (is_lt (cmp u.range.max t.range.min) ≡ true) → Beside cmp t u
  keyed t u e f (inl h) = inl (by_key e f h)
  keyed t u e f (inr h) = inr (by_key (sym e) (sym f) h)

  -- ---- who stands afterwards
  pub insert_out : (t : Table K) (ts : List (Table K)) → Out t (insert cmp t ts) ts
  insert_out t [] = first
  insert_out t (u ∷ us) =
      let rest = insert_out t us in
      elim (sooner cmp t u) as (λ b. Out t (cond b (t ∷ u ∷ us) (u ∷ insert cmp t us)) (u ∷ us)) [ true ↦ first | false ↦ next rest ]

  pub in_inserts : (y : Table K) (ts new : List (Table K)) → In y (inserts cmp ts new) → In y new ⊎ In y ts
  in_inserts y ts [] m = inr m
  in_inserts y ts (a ∷ r) m =
      elim (in_inserts y (insert cmp a ts) r m)
      [ inl k ↦ inl (later k) | inr k ↦ elim (out_cases (insert_out a ts) k) [ inl e ↦ inl (here e) | inr n ↦ inr n ] ]

  pub inserts_old : (y : Table K) (ts new : List (Table K)) → In y ts → In y (inserts cmp ts new)
  inserts_old y ts [] m = m
  inserts_old y ts (a ∷ r) m = inserts_old y (insert cmp a ts) r (out_rest (insert_out a ts) m)

  pub inserts_new : (y : Table K) (ts new : List (Table K)) → In y new → In y (inserts cmp ts new)
  inserts_new y ts [] m = absurd (none_in m)
  inserts_new y ts (a ∷ r) (here e) = inserts_old y (insert cmp a ts) r (subst (λ x. In x (insert cmp a ts)) (sym e) (out_in (insert_out a ts)))
  inserts_new y ts (a ∷ r) (later m) = inserts_new y (insert cmp a ts) r m

  pub inserts_pairs : (R : Table K → Table K → Type 0) → ((x y : Table K) → R x y → R y x) → (ts : List (Table K)) {new : List (Table K)} → Pairs R new → Pairs R ts → ((a t : Table K) → In a new → In t ts → R a t) → Pairs R (inserts cmp ts new)
  inserts_pairs R turn ts none ps f = ps
  inserts_pairs R turn ts (more {x = a} {xs = r} h qs) ps f =
      inserts_pairs R turn (insert cmp a ts) qs (pairs_out R turn (insert_out a ts) ps (λ y m. f a y (here refl) m))
      (λ b t m n. out_each (R b) (insert_out a ts) (turn a b (h b m)) (λ u k. f b u (later m) k) t n)

  pub insert_sum : (f : Table K → ℕ) (t : Table K) (ts : List (Table K)) → sum_by f (insert cmp t ts) ≡ f t + sum_by f ts
  insert_sum f t ts = out_sum f (insert_out t ts)

  pub inserts_sum : (f : Table K → ℕ) (ts new : List (Table K)) → sum_by f (inserts cmp ts new) ≡ sum_by f new + sum_by f ts
  inserts_sum f ts [] = omega arith
  inserts_sum f ts (a ∷ r) = omega (arith, inserts_sum f (insert cmp a ts) r, insert_sum f a ts, sum_by-cons f a r)

-- ---- the order
module _ {K : Type 0} {cmp : K → K → Ordering} (laws : Laws cmp) where
  pub insert_ascends : (t : Table K) → Proper cmp t → {ts : List (Table K)} → Every (Proper cmp) ts → Every (Beside cmp t) ts → Pairs (Ahead cmp) ts → Pairs (Ahead cmp) (insert cmp t ts)
  insert_ascends t p ps b none = more (λ y m. absurd (none_in m)) none
  insert_ascends t p ps b (more {x = u} {xs = us} h rest) =
      let pu = ps u (here refl) in
      let behind = insert_ascends t p (λ x m. ps x (later m)) (λ x m. b x (later m)) rest in
      let yes : Ahead cmp t u → Pairs (Ahead cmp) (t ∷ u ∷ us) =
      λ a. more (λ y m. elim (in_cases m) [ inl e ↦ subst (Ahead cmp t) (sym e) a | inr n ↦ ahead_chain laws t u y pu a (h y n) ]) (more h rest) in
      let no : Ahead cmp u t → Pairs (Ahead cmp) (u ∷ insert cmp t us) = λ a. more (out_each (Ahead cmp u) (insert_out cmp t us) a h) behind in
      elim (b u (here refl)) [
        | inl a ↦ let e = sooner_yes laws t u p a in rw e (yes a)
        | inr a ↦ let e = sooner_no laws t u pu a in rw e (no a)
      ]

  pub inserts_ascend : (ts : List (Table K)) {new : List (Table K)} → Pairs (Beside cmp) new → Every (Proper cmp) new → Every (Proper cmp) ts → ((a t : Table K) → In a new → In t ts → Beside cmp a t) → Pairs (Ahead cmp) ts → Pairs (Ahead cmp) (inserts cmp ts new)
  inserts_ascend ts none pn pt f order = order
  inserts_ascend ts (more {x = a} {xs = r} h qs) pn pt f order =
      let pa = pn a (here refl) in
      inserts_ascend (insert cmp a ts) qs (λ x m. pn x (later m)) (out_each (Proper cmp) (insert_out cmp a ts) pa pt)
      (λ b t m n. out_each (Beside cmp b) (insert_out cmp a ts) (beside_turn cmp a b (h b m)) (λ u k. f b u (later m) k) t n)
      (insert_ascends a pa pt (λ y m. f a y (here refl) m) order)
