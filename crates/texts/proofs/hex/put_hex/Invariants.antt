use Rattle.std.proofs.Common.{◌≡◌, ◌*◌, take}
use Rattle.texts.specs.Hex.{hexed}
use Rattle.texts.proofs.hex.put_hex.Given as goal

abbrev pub invariant-loop-i : goal.invariant-loop-i
invariant-loop-i l = take (2 * l.i) l.text ≡ hexed (take l.i l.bytes)
