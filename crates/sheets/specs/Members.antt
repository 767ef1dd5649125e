-- Who stands in a list, and what holds of each and of each two.
use Rattle.std.specs.Prelude.{◌≡◌, List, [], ◌∷◌}

-- x stands in the list
pub data In {X : Type 0} (x : X) : List X → Type 0 where
  here : {y : X} {ys : List X} → x ≡ y → In x (y ∷ ys)
  later : {y : X} {ys : List X} → In x ys → In x (y ∷ ys)

-- each is so
abbrev pub Every : {X : Type 0} → (X → Type 0) → List X → Type 0
Every {X} P xs = (x : X) → In x xs → P x

-- each stands so to all behind it
pub data Pairs {X : Type 0} (R : X → X → Type 0) : List X → Type 0 where
  none : Pairs R []
  more : {x : X} {xs : List X} → ((y : X) → In y xs → R x y) → Pairs R xs → Pairs R (x ∷ xs)
