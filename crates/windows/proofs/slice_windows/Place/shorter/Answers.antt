use Rattle.std.proofs.Common.{◌-◌, length, ap, ◌∙◌, arith}
use Rattle.windows.specs.declared.slice_windows.Order.TheVariants.{Shrinking}
use Rattle.windows.specs.Cursor.{standing}
use Rattle.windows.proofs.Behind.{standing_shrinking}
use Rattle.windows.proofs.slice_windows.Place.shorter.Goals as goal

pub returns-clause-windows : goal.returns-clause-windows
returns-clause-windows g c =
    let n = length c.args.self.now.tables.now in
    ap (standing Shrinking n) c.leftmost.ensures ∙ standing_shrinking n (c.args.self.now.at.window.len - 1) _ (omega arith)
