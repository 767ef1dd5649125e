-- Parts of a list, and tables that are named by their numbers.
-- Lemmas for a law that an impl owes, whose term can cite specs/ alone: they are proved, and nothing here has to be believed.
use Rattle.std.specs.Prelude.{◌≡◌, ℕ, zero, suc, ◌<◌, Bool, true, false, cond, ◌&&◌, ◌||◌, List, [], ◌∷◌, ◌++◌, take, drop, filter, nat_eq, refl}
use Rattle.std.proofs.Common.{ap, subst, ◌∙◌, inl, inr, arith}
use Rattle.std.proofs.lemmas.Bool.{cases_Bool, ne_eqb}
use Rattle.runs.specs.declared.table.Table.{Table}
use Rattle.sheets.specs.Level.{numbers_of, Stacked}
use Rattle.sheets.specs.Members.{In, here, later, Pairs, none, more}
use Rattle.sheets.specs.Sound.{Differ}
use Rattle.sheets.specs.Tables.{memb, named}
use Rattle.sheets.proofs.Each.{kept_in, in_map, map_in, memb_in, in_memb}

-- the first is the second with some left out
pub data Part {X : Type 0} : List X → List X → Type 0 where
  end : Part [] []
  keep : {x : X} {xs ys : List X} → Part xs ys → Part (x ∷ xs) (x ∷ ys)
  skip : {y : X} {xs ys : List X} → Part xs ys → Part xs (y ∷ ys)

module _ {X : Type 0} where
  part_none : (ys : List X) → Part [] ys
  part_none [] = end
  part_none (y ∷ ys) = skip (part_none ys)

  part_all : (ys : List X) → Part ys ys
  part_all [] = end
  part_all (y ∷ ys) = keep (part_all ys)

  pub part_kept : (p : X → Bool) (xs : List X) → Part (filter p xs) xs
  part_kept p [] = end
  part_kept p (x ∷ xs) = let k = part_kept p xs in elim (p x) as (λ b. Part (cond b (x ∷ filter p xs) (filter p xs)) (x ∷ xs)) [ true ↦ keep k | false ↦ skip k ]

  pub part_take : (n : ℕ) (xs : List X) → Part (take n xs) xs
  part_take zero xs = part_none xs
  part_take (suc n) [] = end
  part_take (suc n) (x ∷ xs) = keep (part_take n xs)

  pub part_drop : (n : ℕ) (xs : List X) → Part (drop n xs) xs
  part_drop zero xs = part_all xs
  part_drop (suc n) [] = end
  part_drop (suc n) (x ∷ xs) = skip (part_drop n xs)

  -- a part of a part
  pub part_chain : {ys zs : List X} → Part ys zs → {xs : List X} → Part xs ys → Part xs zs
  part_chain end s = s
  part_chain (keep r) (keep s) = keep (part_chain r s)
  part_chain (keep r) (skip s) = skip (part_chain r s)
  part_chain (skip r) s = skip (part_chain r s)

  pub part_in : {x : X} {xs ys : List X} → Part xs ys → In x xs → In x ys
  part_in end m = m
  part_in (keep s) (here e) = here e
  part_in (keep s) (later m) = later (part_in s m)
  part_in (skip s) m = later (part_in s m)

  -- ---- filters
  pub kept_same : (p q : X → Bool) (xs : List X) → ((x : X) → In x xs → p x ≡ q x) → filter p xs ≡ filter q xs
  kept_same p q [] f = refl
  kept_same p q (x ∷ xs) f = rw (f x (here refl), kept_same p q xs (λ y m. f y (later m)))

  pub kept_none : (p : X → Bool) (xs : List X) → ((x : X) → In x xs → p x ≡ false) → filter p xs ≡ []
  kept_none p [] f = refl
  kept_none p (x ∷ xs) f = rw (f x (here refl)) (kept_none p xs (λ y m. f y (later m)))

  pub kept_twice : (p q : X → Bool) (xs : List X) → filter (λ x. p x && q x) xs ≡ filter q (filter p xs)
  kept_twice p q [] = refl
  kept_twice p q (x ∷ xs) =
      let r = kept_twice p q xs in
      elim (p x) as (λ b. cond (b && q x) (x ∷ filter (λ y. p y && q y) xs) (filter (λ y. p y && q y) xs) ≡ filter q (cond b (x ∷ filter p xs) (filter p xs))) [
        | true ↦ ap (λ l. cond (q x) (x ∷ l) l) r
        | false ↦ r
      ]

module _ {K : Type 0} where
  -- of tables with different numbers, those that have the numbers of a part are that part
  pub named_part : {xs ys : List (Table K)} → Part xs ys → Pairs Differ ys → filter (named (numbers_of xs)) ys ≡ xs
  named_part end ps = refl
  named_part (keep {x} {xs} {ys} s) (more h ps) =
      let mine : memb x.number (numbers_of (x ∷ xs)) ≡ true = in_memb x.number (numbers_of (x ∷ xs)) (here refl) in
      let rest : filter (named (numbers_of (x ∷ xs))) ys ≡ filter (named (numbers_of xs)) ys =
      kept_same (named (numbers_of (x ∷ xs))) (named (numbers_of xs)) ys (λ y m. let z : nat_eq x.number y.number ≡ false = ne_eqb _ _ (h y m) in rw z) in
      ap (λ b. cond b (x ∷ filter (named (numbers_of (x ∷ xs))) ys) (filter (named (numbers_of (x ∷ xs))) ys)) mine ∙ ap (λ l. x ∷ l) (rest ∙ named_part s ps)
  named_part (skip {y} {xs} {ys} s) (more h ps) =
      let not_mine : memb y.number (numbers_of xs) ≡ false =
      elim (cases_Bool (memb y.number (numbers_of xs))) [
        | inl e ↦ absurd (let w = in_map (λ x. x.number) xs y.number (memb_in y.number (numbers_of xs) e) in h w.0 (part_in s w.1) w.2)
        | inr e ↦ e
      ] in
      ap (λ b. cond b (y ∷ filter (named (numbers_of xs)) ys) (filter (named (numbers_of xs)) ys)) not_mine ∙ named_part s ps

  -- so they are those that pass a test, where these were named
  pub same_named : {ts : List (Table K)} → Pairs Differ ts → (p : Table K → Bool) → filter (named (numbers_of (filter p ts))) ts ≡ filter p ts
  same_named {ts} d p = named_part (part_kept p ts) d

  pub in_named : (xs : List (Table K)) (t : Table K) → In t xs → named (numbers_of xs) t ≡ true
  in_named xs t m = in_memb t.number (numbers_of xs) (map_in (λ x. x.number) xs t m)

  -- a standing table that has a number of a part's is of the part
  pub named_in : {xs ts : List (Table K)} → Pairs Differ ts → Part xs ts → (t : Table K) → In t ts → named (numbers_of xs) t ≡ true → In t xs
  named_in {xs} {ts} d s t m h = subst (In t) (named_part s d) (kept_in (named (numbers_of xs)) ts t m h)

  -- what is kept of an earlier level stands before what is kept of a later one
  pub kept_levels : (m n : ℕ) → m < n → (p q : Table K → Bool) {ts : List (Table K)} → Stacked ts
      → ((t : Table K) → In t ts → p t ≡ true → t.level ≡ m) → ((t : Table K) → In t ts → q t ≡ true → t.level ≡ n)
      → filter (λ t. p t || q t) ts ≡ filter p ts ++ filter q ts
  kept_levels m n l p q none f g = refl
  kept_levels m n l p q (more {x = t} {xs = ts} h ps) f g =
      let rest = kept_levels m n l p q ps (λ x i. f x (later i)) (λ x i. g x (later i)) in
      elim (cases_Bool (p t)) [
        | inl e ↦
            let no : q t ≡ false = elim (cases_Bool (q t)) [ inl z ↦ absurd (omega (arith, f t (here refl) e, g t (here refl) z)) | inr z ↦ z ] in
            rw (e, no, rest)
        | inr e ↦ elim (cases_Bool (q t)) [
          | inl z ↦
              let clear : filter p ts ≡ [] = kept_none p ts (λ u i. elim (cases_Bool (p u)) [ inl y ↦ absurd (omega (arith, f u (later i) y, g t (here refl) z, (h u i).0)) | inr y ↦ y ]) in
              rw (e, z, rest, clear)
          | inr z ↦ rw (e, z, rest)
        ]
      ]
