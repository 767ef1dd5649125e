use Rattle.texts.specs.Lacking.{Further}
use Rattle.texts.proofs.Readings.{plain_lacks}
use Rattle.scripts.specs.Lacking.{LacksNumber}
use Rattle.scripts.proofs.Lackings.{number_missing, behind_number, further_left}
use Rattle.scripts.proofs.command.last_number.Goals as goal

pub returns-in_err-n-clause-names : goal.returns-in_err-n-clause-names
returns-in_err-n-clause-names c =
    plain_lacks _ (LacksNumber c.args.field c.args.words.now) (λ x h. h) _ _ c.from_residual.ensures.1 (number_missing c.args.field Further _ _ c.in_err-n.ensures.word)

pub returns-in_err-end-clause-names : goal.returns-in_err-end-clause-names
returns-in_err-end-clause-names c =
    plain_lacks (Further _) (LacksNumber c.args.field c.args.words.now) (behind_number c.args.field Further _ c.in_ok-n.ensures.word) _ _ c.from_residual-in_err-end.ensures.1 (further_left _ _ c.in_err-end.ensures.end)
