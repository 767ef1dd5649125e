use Rattle.std.proofs.Common.{◌≡◌, length}
use Rattle.books.specs.Booked.{pairs_by, jobs_apart}
use Rattle.slots.specs.Sound.{free_or_so}
use Rattle.slots.specs.View.{slot}
use Rattle.slots.proofs.sound.BookTest.all_apart.Given as goal

abbrev pub invariant-loop-job : goal.invariant-loop-job
invariant-loop-job g l =
    pairs_by (λ a b. free_or_so (jobs_apart g.K.KeyKind.ranks l.self.tables.now) (slot a) (slot b)) l.rest
    ≡ pairs_by (λ a b. free_or_so (jobs_apart g.K.KeyKind.ranks l.self.tables.now) (slot a) (slot b)) l.self.jobs.now

abbrev pub decreases-loop-job : goal.decreases-loop-job
decreases-loop-job g l = length l.rest
