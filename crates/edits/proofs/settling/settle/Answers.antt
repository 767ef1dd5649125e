use Rattle.std.proofs.Common.{◌+◌, take, sym, refl, ap, ◌∙◌, arith}
use Rattle.sheets.specs.Edits.{laid}
use Rattle.runs.specs.Fresh.{settled}
use Rattle.sheets.specs.Tables.{insert}
use Rattle.edits.proofs.Arrivals.{arrived_more, arrived_all}
use Rattle.sheets.proofs.Laid.{laid_front}
use Rattle.edits.proofs.settling.settle.Goals as goal

pub loop-i-init : goal.loop-i-init
loop-i-init g c = sym (laid_front c.args.sheet.now c.args.count (omega arith))

pub loop-i-preserved : goal.loop-i-preserved
loop-i-preserved g c =
    let cmp = g.K.KeyKind.ranks in
    let s' = c.loop-i.sheet in
    arrived_more cmp (settled c.args.level 0) c.args.sheet.now c.args.count c.args.outputs.now c.loop-i.i s' c.insert.new.sheet c.index-outputs-i.result
    (omega arith) c.loop-i-test.true c.index-outputs-i.is c.loop-i.invariant (c.insert.ensures ∙ ap (λ t. laid (insert cmp t (take (c.args.count + c.loop-i.i) s')) s') c.at.ensures)

pub returns : goal.returns
returns g c =
    let s = c.args.sheet.now in
    record {
      count = refl;
      sheet = c.loop-i.invariant ∙ ap (λ l. laid l s) (arrived_all g.K.KeyKind.ranks (settled c.args.level 0) s c.args.count c.args.outputs.now c.loop-i.i c.loop-i-test.false);
    }
