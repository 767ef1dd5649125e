use Rattle.std.proofs.Common.{◌≡◌, length}
use Rattle.slots.specs.Held.{marked, unmet}
use Rattle.slots.proofs.held.marked_are_apart.Given as goal

abbrev pub invariant-loop-t : goal.invariant-loop-t
invariant-loop-t g l = unmet g.K.KeyKind.ranks (marked l.marks l.tables) ≡ unmet g.K.KeyKind.ranks (marked l.fn.marks l.fn.tables)

abbrev pub decreases-loop-t : goal.decreases-loop-t
decreases-loop-t g l = length l.tables
