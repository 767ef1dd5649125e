use Rattle.std.proofs.Common.{◌≡◌, ◌++◌, drop, vec_items}
use Rattle.std.specs.Option.{option_map}
use Rattle.texts.specs.Hex.{bytes_of}
use Rattle.texts.proofs.Hexes.{pairs_bytes}
use Rattle.texts.proofs.hex.read_hex.Given as goal

abbrev pub invariant-loop-high : goal.invariant-loop-high
invariant-loop-high l = option_map (λ t. vec_items l.bytes ++ t) (pairs_bytes (drop l.high-index l.pairs)) ≡ bytes_of l.word
