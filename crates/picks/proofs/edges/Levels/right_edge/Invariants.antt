use Rattle.std.proofs.Common.{◌≡◌, ◌-◌, length}
use Rattle.picks.specs.Edges.{ended, Light}
use Rattle.picks.specs.Fronts.{front}
use Rattle.picks.proofs.edges.Levels.right_edge.Given as goal

abbrev pub invariant-loop-end : goal.invariant-loop-end
invariant-loop-end g l =
    (l.end ≡ front g.T.TableFile.bytes l.next l.self.next.marks l.end.at)
    × (l.high ≡ front g.T.TableFile.bytes l.self.curr.level.run.tables.now l.self.curr.marks (ended g.T.Key.KeyKind.ranks g.T.Ranged.spans l.self.curr.level.run.tables.now l.next l.end.at))
    × Light g.T.Key.KeyKind.ranks g.T.Ranged.spans l.self.curr.level.run.tables.now l.next g.T.TableFile.bytes l.self.curr.marks l.self.next.marks l.left.next.at l.end.at

abbrev pub decreases-loop-end : goal.decreases-loop-end
decreases-loop-end g l = length l.next - l.end.at
