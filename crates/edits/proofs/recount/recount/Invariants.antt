use Rattle.sheets.specs.Recount.{old_run, next_run}
use Rattle.edits.proofs.Recounting.{Recounting}
use Rattle.edits.proofs.recount.recount.Given as goal

abbrev pub invariant-loop-t : goal.invariant-loop-t
invariant-loop-t g l = Recounting l.initial.t-items l.t-items (old_run l.last) (next_run l.last) l.t-index
