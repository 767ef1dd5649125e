use Rattle.texts.specs.declared.field.Field.TheVariants as F
use Rattle.texts.specs.Lacking.{Further}
use Rattle.texts.proofs.Readings.{plain_lacks}
use Rattle.scripts.specs.Lacking.{LacksNumber}
use Rattle.scripts.proofs.Lackings.{number_missing, behind_number, further_left}
use Rattle.scripts.proofs.strategy.read_major.Goals as goal

pub returns-in_err-target_size-clause-names : goal.returns-in_err-target_size-clause-names
returns-in_err-target_size-clause-names c =
    plain_lacks _ (LacksNumber F.Target c.args.words.now) (λ x h. h) _ _ c.from_residual.ensures.1 (number_missing F.Target Further _ _ c.in_err-target_size.ensures.word)

pub returns-in_err-end-clause-names : goal.returns-in_err-end-clause-names
returns-in_err-end-clause-names c =
    plain_lacks (Further _) (LacksNumber F.Target c.args.words.now) (behind_number F.Target Further _ c.in_ok-target_size.ensures.word) _ _ c.from_residual-in_err-end.ensures.1 (further_left _ _ c.in_err-end.ensures.end)
