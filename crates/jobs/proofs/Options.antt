-- An option that had to be there.
use Rattle.std.proofs.Common.{◌≡◌, ℕ, Some, None, Ok, Err, Option, Result, refl, subst, arith}
use Rattle.std.specs.Option.{ok_or, MatchOption}

module _ {X E : Type 0} where
  pub or_none : (o : Option X) (e f : E) → ◌≡◌ {A = Result X E} (Err e) (ok_or o f) → (o ≡ None) × (e ≡ f)
  or_none None e f q = (refl, cc)
  or_none (Some x) e f q = absurd (let z : ◌≡◌ {A = ℕ} 0 1 = cc in omega arith)

  pub or_some : (o : Option X) (x : X) (f : E) → ◌≡◌ {A = Result X E} (Ok x) (ok_or o f) → o ≡ Some x
  or_some None x f q = absurd (let z : ◌≡◌ {A = ℕ} 0 1 = cc in omega arith)
  or_some (Some y) x f q = cc

pub at_none : {X : Type 0} (P : Type 0) (Q : X → Type 0) (o : Option X) → o ≡ None → MatchOption o P Q → P
at_none P Q o e h = subst (λ r. MatchOption r P Q) e h

pub at_some : {X : Type 0} (P : Type 0) (Q : X → Type 0) (o : Option X) (x : X) → o ≡ Some x → MatchOption o P Q → Q x
at_some P Q o x e h = subst (λ r. MatchOption r P Q) e h
