use Rattle.std.proofs.Common.{rules}
use Rattle.runs.specs.Search.{Min, Max}
use Rattle.runs.proofs.Sorteds.{cut_between}
use Rattle.runs.proofs.sorted_run.SortedRun.overlapping.Goals as goal

pub returns-clause-tables : goal.returns-clause-tables
returns-clause-tables g c =
    cut_between g.met.T.Key.KeyKind.total g.T.Ranged.spans Max Min c.args.range.now.min c.args.range.now.max c.args.self.now.tables.now c.args.self.now.sorted
    _ _ _ c.between.ensures.tables (search rules) (search rules)
