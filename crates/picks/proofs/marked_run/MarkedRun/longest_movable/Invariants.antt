use Rattle.std.proofs.Common.{ℕ, List}
use Rattle.picks.specs.Marks.{Marked}
use Rattle.picks.specs.Movable.{movable}
use Rattle.picks.proofs.Counts.{marked_at}
use Rattle.picks.proofs.Moves.{Stretch, BestUpTo, from_at, to_at}
use Rattle.picks.proofs.marked_run.MarkedRun.longest_movable.Given as goal

abbrev pub invariant-loop-i : goal.invariant-loop-i
invariant-loop-i g l =
    Stretch (marked_at l.self.marks) (from_at g.T.Key.KeyKind.ranks g.T.Ranged.spans l.self.level.run.tables.now l.next.tables.now) (to_at g.T.Key.KeyKind.ranks g.T.Ranged.spans l.self.level.run.tables.now l.next.tables.now) l.i l.from l.gap
    × ((hs : List ℕ) → Marked g.T.TableFile.named hs l.self.level.run.tables.now l.self.marks → BestUpTo (movable g.T.Key.KeyKind.ranks g.T.Ranged.spans g.T.TableFile.named hs l.self.level.run.tables.now l.next.tables.now) l.i l.best)
