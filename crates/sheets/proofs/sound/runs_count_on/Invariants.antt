use Rattle.std.proofs.Common.{◌≡◌, ◌≤◌, drop}
use Rattle.sheets.specs.Sound.{counts_on}
use Rattle.sheets.proofs.sound.runs_count_on.Given as goal

abbrev pub invariant-loop-t : goal.invariant-loop-t
invariant-loop-t g l = (counts_on l.counted (drop l.t-index l.tables) ≡ counts_on 0 l.tables) × (l.counted ≤ l.t-index)
