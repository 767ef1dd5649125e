use Rattle.std.proofs.Common.{length, sym, ap, ◌∙◌}
use Rattle.windows.specs.declared.slice_windows.Order.TheVariants.{Growing}
use Rattle.windows.specs.Cursor.{standing}
use Rattle.windows.proofs.Behind.{standing_growing, growing_end}
use Rattle.windows.proofs.slice_windows.Place.longer.Goals as goal

pub returns-in_err-next-clause-windows : goal.returns-in_err-next-clause-windows
returns-in_err-next-clause-windows g c =
    let n = length c.args.self.now.tables.now in
    let past = c.in_err-next.ensures.lookup.3 in
    ap (standing Growing n) c.from_residual.ensures ∙ sym (growing_end n c.args.self.now.at.window.len past)

pub returns-clause-windows : goal.returns-clause-windows
returns-clause-windows g c =
    let n = length c.args.self.now.tables.now in
    let there = c.in_ok-next.ensures.lookup.3 in
    ap (standing Growing n) c.leftmost.ensures ∙ standing_growing n c.args.self.now.at.window.len _ there.0
