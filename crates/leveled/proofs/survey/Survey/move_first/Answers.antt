use Rattle.std.proofs.Common.{length, ap, arith}
use Rattle.leveled.specs.Survey.{standing}
use Rattle.leveled.proofs.Scored.{count_less}
use Rattle.leveled.proofs.survey.Survey.move_first.Goals as goal

pub input-requires-clause-room : goal.input-requires-clause-room
input-requires-clause-room g c =
    omega (arith, ap length c.tables_of-tables.ensures.tables, count_less (standing c.args.self.now) 0, c.requires.room)
