use Rattle.std.proofs.Common.{◌∙◌}
use Rattle.changes.proofs.Faults.{bad_number}
use Rattle.changes.proofs.close.is_bad_table.Goals as goal

pub returns-else-not-is_fresh_ok : goal.returns-else-not-is_fresh_ok
returns-else-not-is_fresh_ok g c = c.has_number.ensures ∙ bad_number g.K.KeyKind.ranks c.args.before.now c.args.output.now c.args.tables.now c.if-not-is_fresh_ok.ensures
