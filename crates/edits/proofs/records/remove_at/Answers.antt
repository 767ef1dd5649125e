use Rattle.std.proofs.Common.{◌∙◌}
use Rattle.sheets.proofs.Laid.{take_out}
use Rattle.edits.proofs.records.remove_at.Goals as goal

pub returns : goal.returns
returns g c = c.copy_within.ensures.after ∙ take_out c.args.sheet.now c.args.at c.args.count c.requires.within c.requires.fits
