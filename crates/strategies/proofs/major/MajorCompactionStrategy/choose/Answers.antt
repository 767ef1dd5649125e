use Rattle.std.proofs.Common.{true, rules}
use Rattle.strategies.proofs.Tested.{room_for_some}
use Rattle.strategies.proofs.major.MajorCompactionStrategy.choose.Goals as goal

pub name_those-requires-clause-room : goal.name_those-requires-clause-room
name_those-requires-clause-room g c = (λ t. true, λ t b h. search rules, room_for_some (λ t. true) c.args.snapshot.now.tables.now _ c.requires.room)
