use Rattle.std.proofs.Common.{◌≡◌}
use Rattle.sheets.specs.Edits.{laid}
use Rattle.runs.specs.Fresh.{settled}
use Rattle.edits.proofs.Arrivals.{arrived}
use Rattle.edits.proofs.settling.settle.Given as goal

abbrev pub invariant-loop-i : goal.invariant-loop-i
invariant-loop-i g l = l.sheet ≡ laid (arrived g.K.KeyKind.ranks (settled l.level 0) l.initial.sheet l.count l.outputs l.i) l.initial.sheet
