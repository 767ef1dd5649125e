use Rattle.sheets.specs.Tables.{placed}
use Rattle.sheets.proofs.Laid.{changed_is}
use Rattle.edits.proofs.records.change_level.Goals as goal

pub returns : goal.returns
returns g c = changed_is (placed c.args.level c.args.run) c.args.sheet.now c.args.at c.index-sheet-at.result c.index-sheet-at.is
