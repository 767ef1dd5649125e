use Rattle.std.proofs.Common.{◌≡◌, ◌-◌, length, sym, ap, ◌∙◌, arith}
use Rattle.windows.specs.declared.slice_windows.Order.TheVariants.{Growing}
use Rattle.windows.specs.SliceWindows.{growing_from}
use Rattle.windows.specs.Cursor.{standing}
use Rattle.windows.proofs.Behind.{standing_growing, growing_end}
use Rattle.windows.proofs.slice_windows.cursor.first_alone.Goals as goal

pub returns-in_err-first-clause-windows : goal.returns-in_err-first-clause-windows
returns-in_err-first-clause-windows g c =
    let n = length c.args.tables.now in
    ap (standing Growing n) c.from_residual.ensures ∙ sym (growing_end n 0 (omega (arith, c.in_err-first.ensures.item)))
    ∙ ap (growing_from n 1) (let q : n - 0 ≡ n = omega arith in q)

pub returns-clause-windows : goal.returns-clause-windows
returns-clause-windows g c =
    let n = length c.args.tables.now in
    ap (standing Growing n) c.leftmost.ensures ∙ standing_growing n 0 c.file_size.result c.in_ok-first.ensures.item.3.0
    ∙ ap (growing_from n 1) (let q : n - 0 ≡ n = omega arith in q)
