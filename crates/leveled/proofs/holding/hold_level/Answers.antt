use Rattle.std.proofs.Common.{ap, arith}
use Rattle.sheets.specs.Level.{size_of}
use Rattle.sheets.proofs.Levels.{level_less}
use Rattle.leveled.proofs.holding.hold_level.Goals as goal

pub hold-requires : goal.hold-requires
hold-requires g c = omega (arith, ap size_of c.level.ensures.tables, level_less c.args.n c.args.tables.now, c.requires.small)
