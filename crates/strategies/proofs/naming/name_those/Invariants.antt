use Rattle.std.proofs.Common.{Bool}
use Rattle.runs.specs.declared.table.Table.{Table}
use Rattle.strategies.specs.Naming.{Tests}
use Rattle.strategies.proofs.Writing.{Writing}
use Rattle.strategies.proofs.naming.name_those.Given as goal

abbrev pub invariant-loop-t : goal.invariant-loop-t
invariant-loop-t g l = (p : Table g.row.K.Denot → Bool) → Tests g.F.Fn l.test p → Writing p l.tables l.initial.ids l.ids l.named l.t-index
