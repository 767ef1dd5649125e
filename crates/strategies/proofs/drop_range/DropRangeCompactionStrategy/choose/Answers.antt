use Rattle.strategies.specs.DropRange.{in_bounds}
use Rattle.strategies.proofs.Tested.{room_for_some}
use Rattle.strategies.proofs.drop_range.DropRangeCompactionStrategy.choose.Goals as goal

pub name_passing-requires-clause-room : goal.name_passing-requires-clause-room
name_passing-requires-clause-room g c = room_for_some (in_bounds g.K.KeyKind.ranks c.args.bounds.now) c.args.snapshot.now.tables.now _ c.requires.room
