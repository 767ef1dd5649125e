use Rattle.std.proofs.Common.{◌++◌, [], ◌∷◌, take, set, sym, ap, ◌∙◌, arith}
use Rattle.std.proofs.lemmas.List.{map_more, take_all, length-map, length-take-le}
use Rattle.sheets.specs.Edits.{laid}
use Rattle.sheets.specs.Level.{numbers_of}
use Rattle.sheets.proofs.Laid.{laid_push}
use Rattle.sheets.proofs.level.list_ids.Goals as goal

pub loop-i-preserved : goal.loop-i-preserved
loop-i-preserved g c =
    let ts = c.args.tables.now in
    let ids = c.args.ids.now in
    let i = c.loop-i.i in
    let t = c.index-tables-i.result in
    ap (λ l. set l i t.number) c.loop-i.invariant
    ∙ laid_push (numbers_of (take i ts)) ids i t.number (omega (arith, length-map (take i ts) (λ u. u.number), length-take-le i ts (omega arith))) (omega arith)
    ∙ ap (λ l. laid l ids) (ap (λ u. numbers_of (take i ts) ++ u.number ∷ []) c.index-tables-i.is ∙ sym (map_more (λ u. u.number) ts i t (omega arith)))

pub returns : goal.returns
returns g c = c.loop-i.invariant ∙ ap (λ ts. laid (numbers_of ts) c.args.ids.now) (take_all c.loop-i.i c.args.tables.now (omega arith))
