-- What a key's bytes hold after some bytes were written to the front of zero bytes.
use Rattle.std.proofs.Common.{◌≡◌, ℕ, ◌-◌, List, ◌++◌, length, drop, replicate, ap, ◌∙◌}
use Rattle.std.proofs.lemmas.List.{drop_at, drop-replicate}

pub rest_is_zero : (from front rest : List ℕ) → front ≡ from → rest ≡ drop (length from) (replicate 32 0) → drop (length from) (front ++ rest) ≡ replicate (32 - length from) 0
rest_is_zero from front rest written untouched = drop_at front rest (length from) (ap length written) ∙ untouched ∙ drop-replicate (length from) 32 0
