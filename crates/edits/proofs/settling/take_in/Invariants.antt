use Rattle.std.proofs.Common.{◌≡◌}
use Rattle.sheets.specs.Edits.{laid}
use Rattle.sheets.specs.Tables.{placed}
use Rattle.edits.proofs.Arrivals.{taken}
use Rattle.edits.proofs.settling.take_in.Given as goal

abbrev pub invariant-loop-i : goal.invariant-loop-i
invariant-loop-i g l = l.sheet ≡ laid (taken g.K.KeyKind.ranks (placed l.level 0) l.initial.sheet l.left l.i) l.initial.sheet
