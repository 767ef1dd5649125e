use Rattle.std.proofs.Common.{◌≡◌, ◌≤◌, length, take, drop}
use Rattle.sheets.specs.HiddenSet.{hiding}
use Rattle.sheets.proofs.hidden_set.HiddenSet.hide.Given as goal

abbrev pub invariant-loop-id : goal.invariant-loop-id
invariant-loop-id l =
    (hiding l.initial.self l.ids ≡ hiding l.self (drop l.id-index l.ids))
    × (take l.before l.self ≡ l.initial.self)
    × (length l.self ≤ 1024)
