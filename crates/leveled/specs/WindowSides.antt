-- A window of an ordered list: what stands outside it stands on one side of all of it.
-- Lemmas for a law that an impl owes, whose term can cite specs/ alone: they are proved, and nothing here has to be believed.
use Rattle.std.specs.Prelude.{◌≡◌, ℕ, zero, suc, Bool, true, false, cond, ◌⊎◌, List, [], ◌∷◌, take, drop, count_by, refl}
use Rattle.std.proofs.Common.{sym, ap, subst, ◌∙◌, inl, inr, arith}
use Rattle.std.proofs.lemmas.List.Sums.{sum_by-cons}
use Rattle.windows.specs.declared.slice_windows.Window.{Window}
use Rattle.windows.specs.SliceWindows.{tables_of}
use Rattle.sheets.specs.Members.{In, here, later, Pairs, none, more}
use Rattle.sheets.proofs.Each.{none_in, in_cases}
use Rattle.strategies.specs.NamingParts.{part_take, part_drop, part_in}

zero_test : (b : Bool) → ◌≡◌ {A = ℕ} (cond b 1 0) 0 → b ≡ false
zero_test true h = absurd (omega arith)
zero_test false h = refl

module _ {X : Type 0} where
  split_in : {x : X} (n : ℕ) (xs : List X) → In x xs → In x (take n xs) ⊎ In x (drop n xs)
  split_in zero xs m = inr m
  split_in (suc n) [] m = inr m
  split_in (suc n) (y ∷ ys) (here e) = inl (here e)
  split_in (suc n) (y ∷ ys) (later m) = elim (split_in n ys m) [ inl k ↦ inl (later k) | inr k ↦ inr k ]

  split_pairs : (R : X → X → Type 0) (n : ℕ) {xs : List X} → Pairs R xs → (a b : X) → In a (take n xs) → In b (drop n xs) → R a b
  split_pairs R zero ps a b m k = absurd (none_in m)
  split_pairs R (suc n) none a b m k = absurd (none_in k)
  split_pairs R (suc n) (more {x} {xs} h ps) a b m k = elim (in_cases m) [ inl e ↦ subst (λ y. R y b) (sym e) (h b (part_in (part_drop n xs) k)) | inr i ↦ split_pairs R n ps a b i k ]

  drop_pairs : (R : X → X → Type 0) (n : ℕ) {xs : List X} → Pairs R xs → Pairs R (drop n xs)
  drop_pairs R zero ps = ps
  drop_pairs R (suc n) none = none
  drop_pairs R (suc n) (more h ps) = drop_pairs R n ps

  pub window_sides : (R : X → X → Type 0) (w : Window) {xs : List X} → Pairs R xs → (u : X) → In u xs → (In u (tables_of w xs) → ⊥)
      → ((t : X) → In t (tables_of w xs) → R t u) ⊎ ((t : X) → In t (tables_of w xs) → R u t)
  window_sides R w {xs} ps u m out =
      let behind = drop w.start xs in
      elim (split_in w.start xs m) [
        | inl k ↦ inr (λ t i. split_pairs R w.start ps u t k (part_in (part_take w.len behind) i))
        | inr k ↦ elim (split_in w.len behind k) [ inl i ↦ absurd (out i) | inr j ↦ inl (λ t i. split_pairs R w.len (drop_pairs R w.start ps) t u i j) ]
      ]

  -- none is counted: each fails the test
  pub count_none : (p : X → Bool) (xs : List X) → count_by p xs ≡ 0 → (x : X) → In x xs → p x ≡ false
  count_none p [] e x m = absurd (none_in m)
  count_none p (y ∷ ys) e x m =
      let q = sum_by-cons (λ z. cond (p z) 1 0) y ys in
      let h : ◌≡◌ {A = ℕ} (cond (p y) 1 0) 0 = omega (arith, q) in
      let rest : count_by p ys ≡ 0 = omega (arith, q) in
      elim (in_cases m) [ inl i ↦ ap p i ∙ zero_test (p y) h | inr i ↦ count_none p ys rest x i ]
