use Rattle.std.proofs.Common.{◌≡◌, sym, subst, rules}
use lib.Ieee.{binary64, of_bits}
use Rattle.levels.specs.Scores.{quotient, level_score, Scored}
use Rattle.levels.proofs.Literals.{forced_is}
use Rattle.levels.proofs.Quotients.{level_scored}
use Rattle.levels.proofs.scores.level_score.Goals as goal

pub returns-then-next_is_empty : goal.returns-then-next_is_empty
returns-then-next_is_empty c =
    let a = c.args in
    let e : of_bits binary64 0x4058_ff5c_28f5_c28f ≡ level_score a.free_bytes a.target_size a.next_is_empty = search (rules, forced_is) in
    record { value = e; scored = λ t. subst Scored (sym e) (level_scored a.free_bytes a.target_size a.next_is_empty c.requires t) }

pub returns-else-next_is_empty-clause-scored : goal.returns-else-next_is_empty-clause-scored
returns-else-next_is_empty-clause-scored c =
    let a = c.args in
    let e : quotient a.free_bytes a.target_size ≡ level_score a.free_bytes a.target_size a.next_is_empty = search rules in
    λ t. subst Scored (sym e) (level_scored a.free_bytes a.target_size a.next_is_empty c.requires t)
