use Rattle.std.proofs.Common.{◌≤◌, Bool}
use Rattle.sheets.specs.Tests.{Tests}
use Rattle.sheets.proofs.Filtering.{Filtered}
use Rattle.sheets.proofs.keeping.keep_those.Given as goal

abbrev pub invariant-loop-i : goal.invariant-loop-i
invariant-loop-i g l = (l.kept ≤ l.i) × ((p : g.row.T.Denot → Bool) → Tests g.F.Fn l.test p → Filtered p l.initial.items l.items l.kept l.i)
