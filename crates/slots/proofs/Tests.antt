-- The same test by other words, and on other elements.
use Rattle.std.proofs.Common.{◌||◌, ◌≡◌, Bool, List, [], ◌∷◌, map, refl, ap}
use Rattle.std.specs.List.{list_any}

pub some_map : {X Y : Type 0} (q : Y → Bool) (f : X → Y) (xs : List X) → list_any q (map f xs) ≡ list_any (λ x. q (f x)) xs
some_map q f [] = refl
some_map q f (x ∷ xs) = ap (λ b. q (f x) || b) (some_map q f xs)
