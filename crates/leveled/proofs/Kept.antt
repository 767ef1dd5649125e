-- Whether anything of a list is kept.
use Rattle.std.proofs.Common.{◌≡◌, suc, Bool, true, false, cond, not, ◌||◌, eqb, List, [], ◌∷◌, length, filter, refl, arith}
use Rattle.std.specs.List.{list_any}
use Rattle.std.proofs.lemmas.Bool.{ne_eqb}

-- none passes if none is kept
pub none_kept : {X : Type 0} (p : X → Bool) (xs : List X) → eqb (length (filter p xs)) 0 ≡ not (list_any p xs)
none_kept p [] = refl
none_kept p (x ∷ xs) =
    let rest = none_kept p xs in
    elim (p x) as (λ b. eqb (length (cond b (x ∷ filter p xs) (filter p xs))) 0 ≡ not (b || list_any p xs)) [ true ↦ ne_eqb (suc (length (filter p xs))) 0 (λ e. omega arith) | false ↦ rest ]
