use Rattle.std.proofs.Common.{set, ap, ◌∙◌}
use Rattle.sheets.proofs.Laid.{put_in}
use Rattle.edits.proofs.records.insert_at.Goals as goal

pub returns : goal.returns
returns g c = ap (λ l. set l c.args.at c.args.table) c.copy_within.ensures.after ∙ put_in c.args.sheet.now c.args.at c.args.count c.args.table c.requires.within c.requires.room
