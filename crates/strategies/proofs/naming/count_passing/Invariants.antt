use Rattle.strategies.proofs.Limits.{Limited}
use Rattle.strategies.proofs.naming.count_passing.Given as goal

abbrev pub invariant-loop-t : goal.invariant-loop-t
invariant-loop-t g l = Limited (g.P.Picks.passes l.test) l.tables l.left l.count l.t-index
