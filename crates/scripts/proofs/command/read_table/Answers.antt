use Rattle.std.proofs.Common.{refl}
use Rattle.scripts.specs.Command.{SaysBody, SaysTable}
use Rattle.scripts.proofs.Readers.{through, no_number, number_at}
use Rattle.scripts.proofs.Tables.{level_there, run_there, table_body, refused_table}
use Rattle.texts.specs.declared.field.Field.TheVariants as F
use Rattle.texts.specs.Lacking.{ThenNumber}
use Rattle.texts.proofs.Readings.{part_lacks, plain_part_lacks}
use Rattle.scripts.specs.Lacking.{LacksBody, LacksTable}
use Rattle.scripts.proofs.Lackings.{number_missing, behind_table, behind_level, behind_run}
use Rattle.scripts.proofs.command.read_table.Goals as goal

pub returns-in_err-number-clause-says : goal.returns-in_err-number-clause-says
returns-in_err-number-clause-says g c =
    no_number _ _ (SaysTable g.K.KeyText.says c.args.words.now) _ _ _ c.from_residual.ensures.1 c.in_err-number.ensures.word (λ t said. number_at _ refl said.next_number)

pub returns-in_err-level-clause-says : goal.returns-in_err-level-clause-says
returns-in_err-level-clause-says g c =
    no_number _ _ (SaysTable g.K.KeyText.says c.args.words.now) _ _ _ c.from_residual-in_err-level.ensures.1 c.in_err-level.ensures.word (level_there g.K.KeyText.says _ c.in_ok-number.ensures.word)

pub returns-in_err-run-clause-says : goal.returns-in_err-run-clause-says
returns-in_err-run-clause-says g c =
    no_number _ _ (SaysTable g.K.KeyText.says c.args.words.now) _ _ _ c.from_residual-in_err-run.ensures.1 c.in_err-run.ensures.word
    (λ t said. run_there g.K.KeyText.says _ c.in_ok-number.ensures.word t said c.in_ok-level.ensures.word)

pub returns-in_err-body-clause-says : goal.returns-in_err-body-clause-says
returns-in_err-body-clause-says g c =
    through (SaysBody g.K.KeyText.says c.in_ok-number.number _) (SaysTable g.K.KeyText.says c.args.words.now) _ _ c.from_residual-in_err-body.ensures.1 c.in_err-body.ensures.says
    (λ t said. table_body g.K.KeyText.says _ c.in_ok-number.ensures.word t said c.in_ok-level.ensures.word c.in_ok-run.ensures.word)
    (refused_table g.K.KeyText.says _ c.in_ok-number.ensures.word c.in_ok-level.ensures.word c.in_ok-run.ensures.word)

pub returns-in_err-number-clause-names : goal.returns-in_err-number-clause-names
returns-in_err-number-clause-names g c =
    plain_part_lacks _ (LacksTable g.K.KeyText.says g.K.KeyText.wanted c.args.words.now) (λ x h. h) _ _ c.from_residual.ensures.1 (number_missing F.Number (ThenNumber F.Level (ThenNumber F.Run (LacksBody g.K.KeyText.says g.K.KeyText.wanted))) _ _ c.in_err-number.ensures.word)

pub returns-in_err-level-clause-names : goal.returns-in_err-level-clause-names
returns-in_err-level-clause-names g c =
    plain_part_lacks _ (LacksTable g.K.KeyText.says g.K.KeyText.wanted c.args.words.now) (behind_table g.K.KeyText.says g.K.KeyText.wanted _ c.in_ok-number.ensures.word) _ _ c.from_residual-in_err-level.ensures.1
    (number_missing F.Level (ThenNumber F.Run (LacksBody g.K.KeyText.says g.K.KeyText.wanted)) _ _ c.in_err-level.ensures.word)

pub returns-in_err-run-clause-names : goal.returns-in_err-run-clause-names
returns-in_err-run-clause-names g c =
    plain_part_lacks _ (LacksTable g.K.KeyText.says g.K.KeyText.wanted c.args.words.now) (behind_level g.K.KeyText.says g.K.KeyText.wanted _ c.in_ok-number.ensures.word c.in_ok-level.ensures.word) _ _ c.from_residual-in_err-run.ensures.1
    (number_missing F.Run (LacksBody g.K.KeyText.says g.K.KeyText.wanted) _ _ c.in_err-run.ensures.word)

pub returns-in_err-body-clause-names : goal.returns-in_err-body-clause-names
returns-in_err-body-clause-names g c =
    part_lacks (LacksBody g.K.KeyText.says g.K.KeyText.wanted _) (LacksTable g.K.KeyText.says g.K.KeyText.wanted c.args.words.now) (behind_run g.K.KeyText.says g.K.KeyText.wanted _ c.in_ok-number.ensures.word c.in_ok-level.ensures.word c.in_ok-run.ensures.word) _ _ c.from_residual-in_err-body.ensures.1 c.in_err-body.ensures.names
