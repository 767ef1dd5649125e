use Rattle.std.proofs.Common.{take, ap, ◌∙◌, arith}
use Rattle.std.specs.List.{insert}
use Rattle.std.proofs.lemmas.List.{length-take-le}
use Rattle.sheets.specs.Edits.{laid}
use Rattle.sheets.proofs.Inserts.{place_within, inserted_place}
use Rattle.edits.proofs.order.insert.Goals as goal

pub insert_at-requires : goal.insert_at-requires
insert_at-requires g c =
    let s = c.args.sheet.now in
    let n = length-take-le c.args.count s (omega arith) in
    let le = place_within g.K.KeyKind.ranks c.args.table (take c.args.count s) in
    record { within = omega (arith, c.place_of-at.ensures); room = c.requires }

pub returns : goal.returns
returns g c =
    let s = c.args.sheet.now in
    let ts = take c.args.count s in
    c.insert_at.ensures ∙ ap (λ n. laid (insert ts n c.args.table) s) c.place_of-at.ensures ∙ ap (λ l. laid l s) (inserted_place g.K.KeyKind.ranks c.args.table ts)
