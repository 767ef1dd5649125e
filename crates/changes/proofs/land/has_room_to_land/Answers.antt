use Rattle.std.proofs.Common.{◌-◌, ◌^◌, leb, length, take, sym, ap, ◌∙◌, arith}
use Rattle.std.proofs.lemmas.List.{length-take-le}
use Rattle.std.proofs.lemmas.Bool.{le-ltb}
use Rattle.changes.proofs.Rooms.{landed_full, landed_fits}
use Rattle.changes.proofs.land.has_room_to_land.Goals as goal

pub returns-then-standing-sheet : goal.returns-then-standing-sheet
returns-then-standing-sheet g c =
    let s = c.args.sheet.now in
    let n = c.args.standing in
    let long = length-take-le n s c.requires.within in
    ap (λ k. leb c.args.fresh.now.size (2 ^ 53 - k)) c.size.ensures ∙ landed_fits g.K.KeyKind.ranks c.args.fresh.now (take n s) (length s) (omega (arith, c.if-standing-sheet.true)) c.requires.total

pub returns-else-standing-sheet : goal.returns-else-standing-sheet
returns-else-standing-sheet g c =
    let s = c.args.sheet.now in
    let n = c.args.standing in
    let long = length-take-le n s c.requires.within in
    le-ltb n (length s) c.if-standing-sheet.false ∙ sym (landed_full g.K.KeyKind.ranks c.args.fresh.now (take n s) (length s) (omega (arith, c.if-standing-sheet.false)))
