use Rattle.std.proofs.Common.{◌≡◌, take}
use Rattle.sheets.specs.Edits.{laid}
use Rattle.sheets.specs.Level.{numbers_of}
use Rattle.sheets.proofs.level.list_ids.Given as goal

abbrev pub invariant-loop-i : goal.invariant-loop-i
invariant-loop-i g l = l.ids ≡ laid (numbers_of (take l.i l.tables)) l.initial.ids
