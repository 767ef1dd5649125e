use Rattle.edits.proofs.Parting.{Parting}
use Rattle.edits.proofs.settling.part.Given as goal

abbrev pub invariant-loop-i : goal.invariant-loop-i
invariant-loop-i g l = Parting l.numbers l.initial.sheet l.sheet l.left l.i
