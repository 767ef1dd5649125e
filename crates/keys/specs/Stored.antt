-- How a key of at most 32 bytes is stored.
use Rattle.std.specs.Prelude.{◌≡◌, ℕ, ◌-◌, ◌≤◌, List, ◌++◌, length, take, drop, replicate}
use Rattle.std.proofs.Common.{sym, subst, ap, ◌∙◌}
use Rattle.std.proofs.lemmas.List.{take-append-drop, length-take-le}

-- in 32 places, of which those behind the key are zero
pub record IsStored (bytes : List ℕ) (len : ℕ) : Type 0 where
  pub places : length bytes ≡ 32
  pub short : len ≤ 32
  pub spare : drop len bytes ≡ replicate (32 - len) 0

-- what stands in the places of a key
abbrev pub stored : List ℕ → List ℕ
stored key = key ++ replicate (32 - length key) 0

-- a key's bytes are as many as it says, and give its places back
module _ (bytes : List ℕ) (len : ℕ) (is : IsStored bytes len) where
  pub length_again : length (take len bytes) ≡ len
  length_again = length-take-le len bytes (subst (λ n. len ≤ n) (sym is.places) is.short)

  pub stored_again : stored (take len bytes) ≡ bytes
  stored_again =
      ap (λ n. take len bytes ++ replicate (32 - n) 0) length_again
      ∙ ap (λ zeros. take len bytes ++ zeros) (sym is.spare)
      ∙ take-append-drop len bytes
