use Rattle.texts.specs.declared.field.Field.TheVariants as F
use Rattle.texts.proofs.Readings.{plain_lacks}
use Rattle.scripts.specs.Lacking.{LacksNumber}
use Rattle.scripts.proofs.command.read_places.Goals as goal

pub returns-in_err-last_number-clause-names : goal.returns-in_err-last_number-clause-names
returns-in_err-last_number-clause-names c =
    plain_lacks _ (LacksNumber F.Places c.args.words.now) (λ x h. h) _ _ c.from_residual.ensures.1 c.in_err-last_number.ensures.names
