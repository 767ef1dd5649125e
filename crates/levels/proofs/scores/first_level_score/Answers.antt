use Rattle.std.proofs.Common.{◌≡◌, sym, subst, rules}
use Rattle.levels.specs.Scores.{quotient, first_level_score, Scored}
use Rattle.levels.proofs.Quotients.{first_level_scored}
use Rattle.levels.proofs.scores.first_level_score.Goals as goal

pub returns-then-table_count-threshold-clause-scored : goal.returns-then-table_count-threshold-clause-scored
returns-then-table_count-threshold-clause-scored c =
    let a = c.args in
    let e : quotient a.table_count a.threshold ≡ first_level_score a.table_count a.threshold = search rules in
    λ t. subst Scored (sym e) (first_level_scored a.table_count a.threshold c.requires t)
