use Rattle.std.proofs.Common.{◌≡◌, ◌&&◌, leb}
use Rattle.strategies.specs.Fifo.{place_of, older, live}
use Rattle.strategies.proofs.Places.{numbered}
use Rattle.strategies.proofs.Taking.{Taking}
use Rattle.strategies.proofs.fifo.FifoSettings.older_weigh_less.Given as goal

abbrev pub invariant-loop-t : goal.invariant-loop-t
invariant-loop-t g l =
    (l.earlier ≡ leb l.t-index (place_of (numbered l.table.number) l.tables))
    × Taking (λ u. live l.self.ttl_seconds l.clock u && older l.tables l.table u) l.tables l.excess l.left l.t-index
