use Rattle.std.proofs.Common.{ap, ◌∙◌, arith}
use Rattle.sheets.specs.Edits.{laid}
use Rattle.sheets.specs.Tables.{placed}
use Rattle.edits.proofs.Arrivals.{taken, taken_none, taken_more}
use Rattle.edits.proofs.settling.take_in.Goals as goal

pub loop-i-init : goal.loop-i-init
loop-i-init g c = taken_none g.K.KeyKind.ranks (placed c.args.level 0) c.args.sheet.now c.args.left (omega arith)

pub loop-i-preserved : goal.loop-i-preserved
loop-i-preserved g c =
    taken_more g.K.KeyKind.ranks (placed c.args.level 0) c.args.sheet.now c.args.left c.loop-i.i c.loop-i.sheet c.insert.new.sheet c.index-sheet-i.result
    (omega arith) (omega arith) c.loop-i.invariant c.index-sheet-i.is c.insert.ensures

pub returns : goal.returns
returns g c =
    let s = c.args.sheet.now in
    c.loop-i.invariant ∙ ap (λ i. laid (taken g.K.KeyKind.ranks (placed c.args.level 0) s c.args.left i) s) (omega (arith, c.loop-i.auto.i-end c.requires.within))
