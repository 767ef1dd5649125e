use Rattle.std.proofs.Common.{arith}
use Rattle.sheets.proofs.Levels.{runs_is, runs_none}
use Rattle.sheets.proofs.level.run_count.Goals as goal

pub returns : goal.returns
returns g c =
    let ts = c.args.tables.now in
    let us = c.level.result.tables.now in
    let none = runs_none ts us c.level.ensures.tables in
    let some = runs_is c.requires us c.level.ensures.tables in
    grind (arith, none, some)
