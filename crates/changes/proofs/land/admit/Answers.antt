use Rattle.std.proofs.Common.{◌<◌, take, arith}
use Rattle.std.proofs.lemmas.List.{length-take-le}
use Rattle.sheets.specs.Level.{runs}
use Rattle.sheets.proofs.Ascends.{sound_stacked}
use Rattle.books.proofs.Rooms.{runs_few}
use Rattle.changes.proofs.land.admit.Goals as goal

pub landing_run-requires : goal.landing_run-requires
landing_run-requires g c =
    let s = c.args.sheet.now in
    let n = c.args.standing in
    let sound = c.requires.1 in
    let few : runs (take n s) < 65536 = omega (arith, sound.few, sound.fits, runs_few g.met.K.KeyKind.total sound, length-take-le n s sound.fits) in
    record { order = sound_stacked g.met.K.KeyKind.total sound; few = few }
