use Rattle.history.proofs.Runs.{Half}
use Rattle.jobs.specs.View.{state}
use Rattle.history.proofs.replay.replay.Given as goal

abbrev pub invariant-loop-i : goal.invariant-loop-i
invariant-loop-i g l = Half g.K.KeyKind.ranks g.S.CompactionStrategy.chooses l.calls (state l.initial.book l.initial.sheet) l.initial.sheet l.initial.outcomes l.i (state l.book l.sheet) l.sheet l.outcomes
