use Rattle.std.proofs.Common.{ltb, rules}
use Rattle.std.proofs.lemmas.List.Sorted.{IsPartitionPoint-from_clause}
use Rattle.runs.proofs.Falls.{falls_partitioned, point_is_count}
use Rattle.sheets.proofs.Levels.{stacked_falls}
use Rattle.sheets.proofs.level.level_start.Goals as goal

pub returns-clause-count : goal.returns-clause-count
returns-clause-count g c =
    let ts = c.args.tables.now in
    let n = c.args.n in
    let falls = stacked_falls n c.requires in
    point_is_count (λ t. ltb t.level n) ts c.partition_point.result falls c.partition_point.ensures.bound
    (IsPartitionPoint-from_clause (λ t. ltb t.level n) ts _ c.partition_point.ensures.partitioned (falls_partitioned (λ t. ltb t.level n) ts falls) (λ a r f' k. search rules))
