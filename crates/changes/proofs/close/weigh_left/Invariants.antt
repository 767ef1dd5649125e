use Rattle.changes.proofs.Left.{Weighed}
use Rattle.changes.proofs.close.weigh_left.Given as goal

abbrev pub invariant-loop-t : goal.invariant-loop-t
invariant-loop-t g l = Weighed l.numbers l.tables l.count l.bytes l.t-index
