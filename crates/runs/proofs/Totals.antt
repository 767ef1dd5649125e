-- What a sum comes to that stops where it is above a limit.
use Rattle.std.proofs.Common.{◌≡◌, ℕ, ◌+◌, ◌<◌, ◌≤◌, min, leb, cond, Bool, true, false, List, [], ◌∷◌, fold, sum_by, Some, None, Option, Bor, sym, refl, subst, ap, ◌∙◌, arith}
use Rattle.std.specs.Bool.{MatchBool}
use Rattle.std.specs.Option.{MatchOption}
use Rattle.std.specs.ControlFlow.{continue_value}
use Rattle.std.specs.Fn.{Called, Mut}
use Rattle.std.specs.Iterator.Runs.{Run, ItemsMapTo, IsTryFoldRun}
use Rattle.std.proofs.lemmas.Option.{MatchOption-at_some, MatchOption-at_none}

by_bool : {X : Type 0} (b : Bool) (P Q : Type 0) → MatchBool b P Q → (b ≡ true → P → X) → (Q → X) → X
by_bool true P Q h k l = k refl h
by_bool false P Q h k l = l h

fits : (most total : ℕ) → total ≤ most → Some total ≡ cond (leb total most) (Some total) None
fits most total h = sym (ap (λ b. cond b (Some total) None) (let e : leb total most ≡ true = grind arith in e))

exceeds : (most total : ℕ) → most < total → None ≡ cond (leb total most) (Some total) None
exceeds most total h = sym (ap (λ b. cond b (Some total) None) (let e : leb total most ≡ false = grind arith in e))

-- a sum that is cut off at a limit is at most the limit
cut : {A : Type 0} (bytes : A → ℕ) (most n : ℕ) (xs : List A) → n ≤ most → fold (λ b y. min (b + bytes y) most) n xs ≤ most
cut bytes most n [] h = h
cut bytes most n (x ∷ xs) h = cut bytes most (min (n + bytes x) most) xs (omega arith)

module _ {A F S : Type 0} (E : Type 0) {steps : S → Option (Bor A) → S → Type 0} (bytes : A → ℕ) (most : ℕ) (all : List A) (p : Run steps) (g : Mut F (ℕ × (Bor A × Unit {0})) (Option ℕ)) (f : F)
    (adds : (b : ℕ) (x : Bor A) (v : Option ℕ) (f' : F) → Called g f (b, (x, tt)) v f' → (f' ≡ f) × MatchOption v (most < b + bytes x.now) (λ c. (c ≡ b + bytes x.now) × (c ≤ most)))
    (yields : ItemsMapTo p (λ y. y.now) all) (r : Option ℕ) where
  acts : (b : ℕ) (x : Bor A) (v : Option ℕ) (c : ℕ) (f' : F) → Called g f (b, (x, tt)) v f' → v ≡ Some c → (f' ≡ f) × (c ≡ b + bytes x.now)
  acts b x v c f' called goes = let m = adds b x v f' called in (m.0, (MatchOption-at_some _ _ c goes m.1).0)

  acts_cut : (b : ℕ) (x : Bor A) (v : Option ℕ) (c : ℕ) (f' : F) → Called g f (b, (x, tt)) v f' → v ≡ Some c → (f' ≡ f) × (c ≡ min (b + bytes x.now) most)
  acts_cut b x v c f' called goes =
      let m = adds b x v f' called in
      let k = MatchOption-at_some _ _ c goes m.1 in
      (m.0, omega (arith, k.0, k.1))

  -- the sum, or none where it is above the limit
  pub tried : IsTryFoldRun p {E = E} g f (λ s c. s ≡ continue_value c) (λ _ s. s ≡ None) 0 r → r ≡ cond (leb (sum_by bytes all) most) (Some (sum_by bytes all)) None
  tried h =
      by_bool p.whole _ _ h
      (λ w k.
      let sums = k.2 (λ b x. b + bytes x.now) acts ∙ yields.5 (λ b y. b + bytes y) 0 w in
      let below = k.2 (λ b x. min (b + bytes x.now) most) acts_cut ∙ yields.5 (λ b y. min (b + bytes y) most) 0 w in
      let low : k.0 ≤ most = subst (λ n. n ≤ most) (sym below) (cut bytes most 0 all (omega arith)) in
      k.1 ∙ ap Some sums ∙ fits most (sum_by bytes all) (subst (λ n. n ≤ most) sums low))
      (λ k.
      let last = k.3 in
      let sums = last.9 (λ b x. b + bytes x.now) acts in
      let called = subst (λ q. Called g q (last.1, (last.0, tt)) last.2 last.4) sums.1 last.7 in
      let over = MatchOption-at_none _ _ last.8 (adds last.1 last.0 last.2 last.4 called).1 in
      let top = yields.7 (λ b y. b + bytes y) 0 (λ b y. omega arith) in
      k.1 ∙ exceeds most (sum_by bytes all) (omega (arith, over, sums.0, top)))
