use Rattle.std.proofs.Common.{◌≡◌, Bool, false, map, length, take, drop, replicate}
use Rattle.sheets.specs.Tests.{Tests}
use Rattle.sheets.proofs.marks.marks_of.Given as goal

abbrev pub invariant-loop-i : goal.invariant-loop-i
invariant-loop-i g l =
    (drop l.i l.marks ≡ drop l.i (replicate 1024 false))
    × (length l.marks ≡ 1024)
    × ((p : g.row.T.Denot → Bool) → Tests g.F.Fn l.test p → take l.i l.marks ≡ map p (take l.i l.items))
