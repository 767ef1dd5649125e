use Rattle.std.proofs.Common.{rules}
use Rattle.picks.proofs.marked_run.MarkedRun.new.Goals as goal

pub returns-clause-marks : goal.returns-clause-marks
returns-clause-marks g c = c.marks_of-marks.ensures.marks _ (λ t b h. search rules)
