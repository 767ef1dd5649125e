-- What `reduce` makes of the items of a chain, and the span of some tables as one.
use Rattle.std.proofs.Common.{◌≡◌, List, [], ◌∷◌, map, Some, None, Option, Ordering, MatchOption, refl, ap, subst}
use Rattle.std.specs.Fn.{Called}
use Rattle.std.specs.Iterator.{Drains, FoldTurn}
use Rattle.std.specs.List.{FoldsTo, reduce}
use Rattle.std.proofs.lemmas.Iterator.{YieldsList}
use Rattle.std.proofs.lemmas.Iterator.Consumers.{reduce_from_yields_List}
use Rattle.std.proofs.lemmas.List.Folds.{fold-map}
use denote.Param.Members.{Mut}
use Rattle.keys.specs.declared.key_range.KeyRange.{KeyRange}
use Rattle.keys.specs.KeyRange.{wider}
use Rattle.runs.specs.Run.{span_of}

module _ {A F : Type 0} (g : Mut F (A × (A × Unit {0})) A) (h : A → A → A) (f : F) (k : (a x b : A) (q : F) → Called g f (a, (x, tt)) b q → (q ≡ f) × (b ≡ h a x)) where
  turns : (xs : List A) (p q : F × A) → p.0 ≡ f → FoldsTo (FoldTurn g) p xs q → FoldsTo (λ a x b. b ≡ h a x) p.1 xs q.1
  turns [] p q is c = ap (λ s. s.1) c
  turns (x ∷ xs) p q is c =
      let m = k p.1 x c.0.1 c.0.0 (subst (λ w. Called g w (p.1, (x, tt)) c.0.1 c.0.0) is c.1) in
      (c.0.1, m.1, turns xs c.0 q m.0 c.2)

  -- `reduce` by a closure that computes h of two items
  pub reduce_by : {S : Type 0} {steps : S → Option A → S → Type 0} {s : S} {all : List A} (r : Option A) → MatchOption r (Drains steps s []) (λ y. (x : A) × (xs : List A) × (f' : F) × Drains steps s (x ∷ xs) × FoldsTo {P = F × A} (FoldTurn g) (f, x) xs (f', y)) → YieldsList steps (λ x. x) s all → r ≡ reduce h all
  reduce_by {s = s} None d e = reduce_from_yields_List h s None d e
  reduce_by {s = s} (Some y) d e = reduce_from_yields_List h s (Some y) (d.0, d.1, d.3, turns d.1 (f, d.0) (d.2, y) refl d.4) e

pub span_reduced : {K T : Type 0} (cmp : K → K → Ordering) (spans : T → KeyRange K) (ts : List T) → reduce (wider cmp) (map spans ts) ≡ span_of cmp spans ts
span_reduced cmp spans [] = refl
span_reduced cmp spans (t ∷ ts) = ap Some (fold-map (wider cmp) spans (spans t) ts)
