use Rattle.std.proofs.Common.{◌∙◌}
use Rattle.changes.specs.Close.{job_to}
use Rattle.changes.proofs.Rooms.{room_merge, room_else}
use Rattle.changes.proofs.close.RunningJob.has_room.Goals as goal

pub returns-in-Merge : goal.returns-in-Merge
returns-in-Merge g c d = c.merge_fits.ensures ∙ room_merge g.K.KeyKind.ranks (job_to d c.args.self.now) c.args.outputs.now c.args.sheet.now c.args.standing c.in-Merge.is

pub returns-in-Move : goal.returns-in-Move
returns-in-Move g c d = room_else g.K.KeyKind.ranks (job_to d c.args.self.now) c.args.outputs.now c.args.sheet.now c.args.standing c.in-Move.is c.requires.within c.requires.total
