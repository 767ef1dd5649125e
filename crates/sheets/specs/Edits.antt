-- What an edit leaves of the lent slice.
use Rattle.std.specs.Prelude.{ℕ, zero, suc, List, [], ◌∷◌, ◌++◌, length, drop}

-- xs over the front of the slice; what lies past them is kept
abbrev pub laid : {X : Type 0} → List X → List X → List X
laid xs slice = xs ++ drop (length xs) slice

-- f at one place; the rest is kept
abbrev pub changed : {X : Type 0} → (X → X) → List X → ℕ → List X
changed f [] place = []
changed f (x ∷ xs) zero = f x ∷ xs
changed f (x ∷ xs) (suc place) = x ∷ changed f xs place
