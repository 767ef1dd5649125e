-- Who stands in a list, and what holds of each, of some and of each two.
use Rattle.std.proofs.Common.{◌||◌, ◌&&◌, ◌≡◌, ℕ, Bool, true, false, cond, eqb, ◌⊎◌, List, [], ◌∷◌, map, filter, sym, refl, ap, ◌∙◌, subst, inl, inr}
use Rattle.std.specs.List.{list_any, list_all}
use Rattle.std.proofs.lemmas.Bool.{true≢false, cases_Bool, eq-eqb, eqb-true, and_parts, and_from}
use Rattle.sheets.specs.Members.{In, here, later, Every, Pairs, none, more}
use Rattle.sheets.specs.Tables.{memb}

module _ {X : Type 0} where
  pub none_in : {x : X} → In x [] → ⊥
  none_in m = elim m [ ]

  pub in_cases : {x y : X} {ys : List X} → In x (y ∷ ys) → (x ≡ y) ⊎ In x ys
  in_cases (here e) = inl e
  in_cases (later m) = inr m

  -- ---- what a filter keeps
  pub kept_in : (p : X → Bool) (xs : List X) (x : X) → In x xs → p x ≡ true → In x (filter p xs)
  kept_in p [] x m h = elim m [ ]
  kept_in p (y ∷ ys) x (here e) h = let q : p y ≡ true = ap p (sym e) ∙ h in rw q (here e)
  kept_in p (y ∷ ys) x (later m) h =
      let k = kept_in p ys x m h in
      elim (p y) as (λ b. In x (cond b (y ∷ filter p ys) (filter p ys))) [ true ↦ later k | false ↦ k ]

  pub in_kept : (p : X → Bool) (xs : List X) (x : X) → In x (filter p xs) → In x xs × (p x ≡ true)
  in_kept p [] x m = absurd (none_in m)
  in_kept p (y ∷ ys) x m =
      let rest : In x (filter p ys) → In x (y ∷ ys) × (p x ≡ true) = λ k. (later (in_kept p ys x k).0, (in_kept p ys x k).1) in
      elim (p y) as (λ b. p y ≡ b → In x (cond b (y ∷ filter p ys) (filter p ys)) → In x (y ∷ ys) × (p x ≡ true))
      [ true ↦ λ e k. elim (in_cases k) [ inl q ↦ (here q, ap p q ∙ e) | inr n ↦ rest n ] | false ↦ λ e k. rest k ] refl m

  pub kept_pairs : (R : X → X → Type 0) (p : X → Bool) {xs : List X} → Pairs R xs → Pairs R (filter p xs)
  kept_pairs R p none = none
  kept_pairs R p (more {x = y} {xs = ys} h ps) =
      let k = kept_pairs R p ps in
      elim (p y) as (λ b. Pairs R (cond b (y ∷ filter p ys) (filter p ys))) [ true ↦ more (λ x m. h x (in_kept p ys x m).0) k | false ↦ k ]

  -- ---- each two
  pub pairs_weaker : (R S : X → X → Type 0) {xs : List X} → ((x y : X) → In x xs → In y xs → R x y → S x y) → Pairs R xs → Pairs S xs
  pairs_weaker R S f none = none
  pairs_weaker R S f (more {x} h ps) = more (λ y m. f x y (here refl) (later m) (h y m)) (pairs_weaker R S (λ a b m n. f a b (later m) (later n)) ps)

  pub pairs_zip : (R S : X → X → Type 0) {xs : List X} → Pairs R xs → Pairs S xs → Pairs (λ x y. R x y × S x y) xs
  pairs_zip R S none none = none
  pairs_zip R S (more h ps) (more g qs) = more (λ y m. (h y m, g y m)) (pairs_zip R S ps qs)

  -- two places of a list: one element, or a pair
  pub pair_in : (R : X → X → Type 0) → ((x y : X) → R x y → R y x) → {xs : List X} {x y : X} → Pairs R xs → In x xs → In y xs → (x ≡ y) ⊎ R x y
  pair_in R turn none m n = elim m [ ]
  pair_in R turn (more h ps) (here e) (here f) = inl (e ∙ sym f)
  pair_in R turn {x = x} {y = y} (more h ps) (here e) (later n) = inr (subst (λ z. R z y) (sym e) (h y n))
  pair_in R turn {x = x} {y = y} (more h ps) (later m) (here f) = inr (subst (R x) (sym f) (turn _ _ (h x m)))
  pair_in R turn (more h ps) (later m) (later n) = pair_in R turn ps m n

  -- ---- tests
  pub some_in : (p : X → Bool) (xs : List X) → list_any p xs ≡ true → (x : X) × In x xs × (p x ≡ true)
  some_in p [] h = absurd (true≢false (sym h))
  some_in p (y ∷ ys) h =
      elim (p y) as (λ b. p y ≡ b → (b || list_any p ys) ≡ true → (x : X) × In x (y ∷ ys) × (p x ≡ true))
      [ true ↦ λ e k. (y, here refl, e) | false ↦ λ e k. let r = some_in p ys k in (r.0, later r.1, r.2) ] refl h

  pub in_some : (p : X → Bool) (xs : List X) (x : X) → In x xs → p x ≡ true → list_any p xs ≡ true
  in_some p [] x m h = elim m [ ]
  in_some p (y ∷ ys) x (here e) h = let q : p y ≡ true = ap p (sym e) ∙ h in rw q
  in_some p (y ∷ ys) x (later m) h =
      let k = in_some p ys x m h in
      elim (p y) as (λ b. (b || list_any p ys) ≡ true) [ true ↦ refl | false ↦ k ]

  pub none_some : (p : X → Bool) (xs : List X) → list_any p xs ≡ false → (x : X) → In x xs → p x ≡ false
  none_some p xs h x m = elim (cases_Bool (p x)) [ inl e ↦ absurd (true≢false (sym (in_some p xs x m e) ∙ h)) | inr e ↦ e ]

  pub all_from : (p : X → Bool) (xs : List X) → list_all p xs ≡ true → Every (λ x. p x ≡ true) xs
  all_from p [] h x m = absurd (none_in m)
  all_from p (y ∷ ys) h x m = let a = and_parts (p y) (list_all p ys) h in elim (in_cases m) [ inl e ↦ ap p e ∙ a.0 | inr n ↦ all_from p ys a.1 x n ]

  pub all_to : (p : X → Bool) (xs : List X) → Every (λ x. p x ≡ true) xs → list_all p xs ≡ true
  all_to p [] f = refl
  all_to p (y ∷ ys) f = and_from (p y) (list_all p ys) (f y (here refl)) (all_to p ys (λ x m. f x (later m)))

-- ---- a map
pub in_map : {X Y : Type 0} (f : X → Y) (xs : List X) (y : Y) → In y (map f xs) → (x : X) × In x xs × (y ≡ f x)
in_map f [] y m = absurd (none_in m)
in_map f (x ∷ xs) y m = elim (in_cases m) [ inl e ↦ (x, here refl, e) | inr k ↦ let r = in_map f xs y k in (r.0, later r.1, r.2) ]

pub map_in : {X Y : Type 0} (f : X → Y) (xs : List X) (x : X) → In x xs → In (f x) (map f xs)
map_in f [] x m = elim m [ ]
map_in f (y ∷ ys) x (here e) = here (ap f e)
map_in f (y ∷ ys) x (later m) = later (map_in f ys x m)

-- ---- numbers
pub memb_in : (n : ℕ) (ns : List ℕ) → memb n ns ≡ true → In n ns
memb_in n [] h = absurd (true≢false (sym h))
memb_in n (m ∷ ms) h =
    elim (eqb m n) as (λ b. eqb m n ≡ b → (b || memb n ms) ≡ true → In n (m ∷ ms)) [ true ↦ λ e k. here (sym (eqb-true m n e)) | false ↦ λ e k. later (memb_in n ms k) ] refl h

pub in_memb : (n : ℕ) (ns : List ℕ) → In n ns → memb n ns ≡ true
in_memb n [] k = elim k [ ]
in_memb n (m ∷ ms) (here e) = let q : eqb m n ≡ true = eq-eqb m n (sym e) in rw q
in_memb n (m ∷ ms) (later k) = let r = in_memb n ms k in elim (eqb m n) as (λ b. (b || memb n ms) ≡ true) [ true ↦ refl | false ↦ r ]

-- ---- two tests that agree
module _ {X : Type 0} (p q : X → Bool) (same : (x : X) → p x ≡ q x) where
  pub some_same : (xs : List X) → list_any p xs ≡ list_any q xs
  some_same [] = refl
  some_same (x ∷ xs) = ap (λ b. b || list_any p xs) (same x) ∙ ap (λ b. q x || b) (some_same xs)

  pub all_same : (xs : List X) → list_all p xs ≡ list_all q xs
  all_same [] = refl
  all_same (x ∷ xs) = ap (λ b. b && list_all p xs) (same x) ∙ ap (λ b. q x && b) (all_same xs)
