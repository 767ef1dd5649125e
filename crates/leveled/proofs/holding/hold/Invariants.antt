use Rattle.std.proofs.Common.{◌≡◌, take}
use Rattle.std.specs.List.{list_any}
use Rattle.sheets.specs.Level.{size_of}
use Rattle.sheets.specs.Tables.{named, without}
use Rattle.leveled.proofs.holding.hold.Given as goal

abbrev pub invariant-loop-t : goal.invariant-loop-t
invariant-loop-t g l =
    (l.free_bytes ≡ size_of (without l.hidden_set (take l.t-index l.tables))) × (l.is_busy ≡ list_any (named l.hidden_set) (take l.t-index l.tables))
