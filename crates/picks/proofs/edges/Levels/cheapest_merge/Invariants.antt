use Rattle.std.proofs.Common.{◌≡◌, ℕ, List}
use Rattle.picks.specs.Edges.{right_of, LeftFrom, Light}
use Rattle.picks.specs.Marks.{Marked}
use Rattle.picks.proofs.Merges.{MergeTo}
use Rattle.picks.proofs.edges.Levels.cheapest_merge.Given as goal

abbrev pub invariant-loop-start : goal.invariant-loop-start
invariant-loop-start g l =
    LeftFrom g.T.Key.KeyKind.ranks g.T.Ranged.spans l.self.curr.level.run.tables.now l.self.next.level.run.tables.now g.T.TableFile.bytes l.self.curr.marks l.self.next.marks l.start l.left
    × (l.right ≡ right_of g.T.Key.KeyKind.ranks g.T.Ranged.spans l.self.curr.level.run.tables.now l.self.next.level.run.tables.now g.T.TableFile.bytes l.self.curr.marks l.self.next.marks l.right.next.at)
    × Light g.T.Key.KeyKind.ranks g.T.Ranged.spans l.self.curr.level.run.tables.now l.self.next.level.run.tables.now g.T.TableFile.bytes l.self.curr.marks l.self.next.marks l.start l.right.next.at
    × ((hs : List ℕ) → Marked g.T.TableFile.named hs l.self.curr.level.run.tables.now l.self.curr.marks → Marked g.T.TableFile.named hs l.self.next.level.run.tables.now l.self.next.marks
    → MergeTo g.T.Key.KeyKind.ranks g.T.Ranged.spans g.T.TableFile.bytes g.T.TableFile.named hs l.self.curr.level.run.tables.now l.self.next.level.run.tables.now l.target_size l.start l.best)
