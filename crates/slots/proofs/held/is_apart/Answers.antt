use Rattle.std.proofs.Common.{Bool, not, ◌&&◌, ap, ◌∙◌, rules, tests}
use Rattle.std.proofs.lemmas.Iterator.{YieldsList-from_slice, YieldsList-from_zip}
use Rattle.std.proofs.lemmas.Iterator.Search.{any_from_yields_List}
use Rattle.keys.specs.KeyRange.{meets}
use Rattle.runs.specs.declared.table.Table.{Table}
use Rattle.slots.proofs.Holding.{none_marked}
use Rattle.slots.proofs.held.is_apart.Goals as goal

pub returns : goal.returns
returns g c =
    let ts = c.args.tables.now in
    let ms = c.args.marks.now in
    let p : Table g.row.K.Denot → Bool = λ u. meets g.K.KeyKind.ranks c.args.t.now.range u.range in
    let found = any_from_yields_List (λ (e : Table g.row.K.Denot × Bool). e.1 && p e.0) c.any.new.self _ c.any.result c.any.ensures.ran (YieldsList-from_zip (YieldsList-from_slice ts cc) (YieldsList-from_slice ms cc)) (λ x b q k. search (rules, tests)) in
    ap not found ∙ none_marked p ts ms
