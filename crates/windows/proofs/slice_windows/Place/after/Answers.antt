use Rattle.std.proofs.Common.{◌∷◌, length, sym, ap, ◌∙◌}
use Rattle.windows.specs.declared.slice_windows.Order.TheVariants.{Growing, Shrinking}
use Rattle.windows.specs.Cursor.{behind, standing}
use Rattle.windows.proofs.Behind.{behind_further, behind_rightmost}
use Rattle.windows.proofs.slice_windows.Place.after.Goals as goal

pub returns-then-start-len-clause-windows : goal.returns-then-start-len-clause-windows
returns-then-start-len-clause-windows g c =
    let n = length c.args.self.now.tables.now in
    ap (λ w. w ∷ behind c.args.order n w) c.further.ensures.window ∙ behind_further c.args.order n c.args.self.now.at.window.start c.args.self.now.at.window.len c.if-start-len.true

pub returns-in-Growing-clause-windows : goal.returns-in-Growing-clause-windows
returns-in-Growing-clause-windows g c =
    let n = length c.args.self.now.tables.now in
    ap (λ o. standing o n c.longer.result) c.in-Growing.is ∙ c.longer.ensures.windows
    ∙ sym (ap (λ o. behind o n c.args.self.now.at.window) c.in-Growing.is ∙ behind_rightmost Growing n c.args.self.now.at.window c.if-start-len.false)

pub returns-in-Shrinking-clause-windows : goal.returns-in-Shrinking-clause-windows
returns-in-Shrinking-clause-windows g c =
    let n = length c.args.self.now.tables.now in
    ap (λ o. standing o n c.shorter.result) c.in-Shrinking.is ∙ c.shorter.ensures.windows
    ∙ sym (ap (λ o. behind o n c.args.self.now.at.window) c.in-Shrinking.is ∙ behind_rightmost Shrinking n c.args.self.now.at.window c.if-start-len.false)
