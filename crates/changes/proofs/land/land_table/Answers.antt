use Rattle.changes.proofs.Landings.{land_within, land_sheet, land_done}
use Rattle.changes.proofs.land.land_table.Goals as goal

pub insert-requires : goal.insert-requires
insert-requires g c = land_within g.K.KeyKind.ranks c.args.fresh.now c.args.sheet.now c.args.standing c.in_ok-run.run' c.in_ok-run.ensures c.requires.1.fits

pub returns-clause-answer : goal.returns-clause-answer
returns-clause-answer g c =
    let cmp = g.K.KeyKind.ranks in
    let f = c.args.fresh.now in
    let s = c.args.sheet.now in
    let n = c.args.standing in
    let run = c.in_ok-run.run' in
    let h = c.in_ok-run.ensures in
    land_done cmp f s n run h c.requires.1.fits c.insert.new.sheet c.insert.auto.sheet (land_sheet cmp f s n run h c.insert.new.sheet c.at.result c.at.ensures c.insert.ensures)
