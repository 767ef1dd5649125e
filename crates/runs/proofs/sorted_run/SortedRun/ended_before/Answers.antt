use Rattle.std.proofs.Common.{rules}
use Rattle.runs.specs.Search.{Max, Before}
use Rattle.runs.proofs.Sorteds.{counts_passed}
use Rattle.runs.proofs.sorted_run.SortedRun.ended_before.Goals as goal

pub returns-clause-count : goal.returns-clause-count
returns-clause-count g c =
    counts_passed g.met.T.Key.KeyKind.total g.T.Ranged.spans Max Before c.args.key.now c.args.self.now.tables.now c.args.self.now.sorted
    _ c.partition_point.ensures.bound c.partition_point.ensures.partitioned (λ a r f' k. search rules)
