use Rattle.std.proofs.Common.{◌≡◌, ◌<◌}
use Rattle.levels.specs.Scores.{winner}
use Rattle.levels.proofs.scores.highest.Given as goal

abbrev pub invariant-loop-i : goal.invariant-loop-i
invariant-loop-i l = (l.best < 7) × (l.best ≡ winner l.scores l.i)
