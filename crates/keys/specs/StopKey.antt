-- The order of stop keys: by tour, then by stop.
use Rattle.std.specs.declared.cmp.Ordering.{Ordering}
use Rattle.std.specs.Ordering.{ordering_then, nat_cmp}
use Rattle.keys.specs.declared.stop_key.StopKey.{StopKey}

-- the tour decides, and of one tour the stop
abbrev pub stop_ranks : StopKey → StopKey → Ordering
stop_ranks a b = ordering_then (nat_cmp a.tour b.tour) (nat_cmp a.stop b.stop)
