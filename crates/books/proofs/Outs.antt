-- Lists with one taken out or put in, what holds of each two of them, and the test of each two.
use Rattle.std.proofs.Common.{◌≡◌, ℕ, suc, ◌+◌, Bool, true, ◌⊎◌, List, [], ◌∷◌, ◌++◌, map, length, sum_by, sym, refl, ap, subst, inl, inr, arith}
use Rattle.std.specs.List.{list_all}
use Rattle.std.proofs.lemmas.List.Sums.{sum_by-cons}
use Rattle.std.proofs.lemmas.Bool.{and_parts, and_from}
use Rattle.sheets.specs.Members.{In, here, later, Every, Pairs, none, more}
use Rattle.sheets.proofs.Each.{in_cases, in_map, all_from, all_to}
use Rattle.books.specs.Booked.{pairs_by}

-- the second list is the first with one x taken out
pub data Out {X : Type 0} : X → List X → List X → Type 0 where
  first : {x : X} {xs : List X} → Out x (x ∷ xs) xs
  next : {x y : X} {xs ys : List X} → Out x xs ys → Out x (y ∷ xs) (y ∷ ys)

module _ {X : Type 0} where
  pub out_in : {x : X} {xs ys : List X} → Out x xs ys → In x xs
  out_in first = here refl
  out_in (next o) = later (out_in o)

  -- any member can be taken out
  pub in_out : {x : X} {xs : List X} → In x xs → (ys : List X) × Out x xs ys
  in_out {x} (here {y} {ys} e) = subst (λ z. (zs : List X) × Out x (z ∷ ys) zs) e (ys, first)
  in_out (later {y} m) = let w = in_out m in (y ∷ w.0, next w.1)

  pub out_rest : {x y : X} {xs ys : List X} → Out x xs ys → In y ys → In y xs
  out_rest first m = later m
  out_rest (next o) (here e) = here e
  out_rest (next o) (later m) = later (out_rest o m)

  pub out_cases : {x y : X} {xs ys : List X} → Out x xs ys → In y xs → (y ≡ x) ⊎ In y ys
  out_cases first m = in_cases m
  out_cases (next o) (here e) = inr (here e)
  out_cases (next o) (later m) = elim (out_cases o m) [ inl e ↦ inl e | inr k ↦ inr (later k) ]

  -- what holds of the one and of all others holds of all
  pub out_each : (P : X → Type 0) {x : X} {xs ys : List X} → Out x xs ys → P x → Every P ys → Every P xs
  out_each P o p f y m = elim (out_cases o m) [ inl e ↦ subst P (sym e) p | inr n ↦ f y n ]

  pub out_length : {x : X} {xs ys : List X} → Out x xs ys → length xs ≡ suc (length ys)
  out_length first = refl
  out_length (next o) = ap suc (out_length o)

  pub out_sum : (f : X → ℕ) {x : X} {xs ys : List X} → Out x xs ys → sum_by f xs ≡ f x + sum_by f ys
  out_sum f {x} (first {xs = xs}) = sum_by-cons f x xs
  out_sum f (next {y = y} {xs = xs} {ys = ys} o) = omega (arith, sum_by-cons f y xs, sum_by-cons f y ys, out_sum f o)

  -- ---- each two, of a relation that can be turned round
  pub out_pairs : (R : X → X → Type 0) → ((x y : X) → R x y → R y x) → {x : X} {xs ys : List X} → Out x xs ys → Pairs R xs → Pairs R ys × ((y : X) → In y ys → R x y)
  out_pairs R turn first (more h ps) = (ps, h)
  out_pairs R turn {x} (next {y = y} {ys = ys} o) (more h ps) =
      let r = out_pairs R turn o ps in
      (more (λ z m. h z (out_rest o m)) r.0, λ z m. elim (in_cases m) [ inl e ↦ subst (R x) (sym e) (turn y x (h x (out_in o))) | inr n ↦ r.1 z n ])

  pub pairs_out : (R : X → X → Type 0) → ((x y : X) → R x y → R y x) → {x : X} {xs ys : List X} → Out x xs ys → Pairs R ys → ((y : X) → In y ys → R x y) → Pairs R xs
  pairs_out R turn first ps h = more h ps
  pairs_out R turn {x} (next {y = y} {ys = ys} o) (more g ps) h =
      more (λ z m. at (out_cases o m)) (pairs_out R turn o ps (λ z m. h z (later m)))
    where
      at : {z : X} → (z ≡ x) ⊎ In z ys → R y z
      at {z} (inl e) = subst (R y) (sym e) (turn x y (h y (here refl)))
      at {z} (inr m) = g z m

  -- ---- two lists joined
  pub in_append : {z : X} (xs ys : List X) → In z (xs ++ ys) → In z xs ⊎ In z ys
  in_append [] ys m = inr m
  in_append (a ∷ r) ys (here e) = inl (here e)
  in_append (a ∷ r) ys (later m) = elim (in_append r ys m) [ inl k ↦ inl (later k) | inr k ↦ inr k ]

  pub pairs_append : (R : X → X → Type 0) {xs ys : List X} → Pairs R xs → Pairs R ys → ((x y : X) → In x xs → In y ys → R x y) → Pairs R (xs ++ ys)
  pairs_append R none q f = q
  pairs_append R {ys = ys} (more {x} {xs} h ps) q f = more (λ z m. at (in_append xs ys m)) (pairs_append R ps q (λ a b m n. f a b (later m) n))
    where
      at : {z : X} → In z xs ⊎ In z ys → R x z
      at {z} (inl m) = h z m
      at {z} (inr m) = f x z (here refl) m

  -- ---- the test of each two
  pub pairs_from : (r : X → X → Bool) (xs : List X) → pairs_by r xs ≡ true → Pairs (λ x y. r x y ≡ true) xs
  pairs_from r [] h = none
  pairs_from r (y ∷ ys) h = let a = and_parts (list_all (r y) ys) (pairs_by r ys) h in more (all_from (r y) ys a.0) (pairs_from r ys a.1)

  pub pairs_to : (r : X → X → Bool) {xs : List X} → Pairs (λ x y. r x y ≡ true) xs → pairs_by r xs ≡ true
  pairs_to r none = refl
  pairs_to r (more {x = y} {xs = ys} h ps) = and_from (list_all (r y) ys) (pairs_by r ys) (all_to (r y) ys h) (pairs_to r ps)

-- ---- a map
pub each_map : {X Y : Type 0} (f : X → Y) (P : Y → Type 0) (xs : List X) → ((x : X) → In x xs → P (f x)) → Every P (map f xs)
each_map f P xs g y m = let w = in_map f xs y m in subst P (sym w.2) (g w.0 w.1)

pub map_pairs : {X Y : Type 0} (f : X → Y) (S : X → X → Type 0) (R : Y → Y → Type 0) {xs : List X} → ((x y : X) → In x xs → In y xs → S x y → R (f x) (f y)) → Pairs S xs → Pairs R (map f xs)
map_pairs f S R g none = none
map_pairs {X} {Y} f S R g (more {x} {xs} h ps) =
    more (λ y m. at y (in_map f xs y m)) (map_pairs f S R (λ a b m n. g a b (later m) (later n)) ps)
  where
    at : (y : Y) → (z : X) × In z xs × (y ≡ f z) → R (f x) y
    at y w = subst (R (f x)) (sym w.2) (g x w.0 (here refl) (later w.1) (h w.0 w.1))

pub map_sum : {X Y : Type 0} (f : X → Y) (g : Y → ℕ) (xs : List X) → sum_by g (map f xs) ≡ sum_by (λ x. g (f x)) xs
map_sum f g [] = refl
map_sum f g (x ∷ xs) = omega (arith, sum_by-cons g (f x) (map f xs), sum_by-cons (λ y. g (f y)) x xs, map_sum f g xs)
