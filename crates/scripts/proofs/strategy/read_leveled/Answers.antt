use Rattle.std.proofs.Common.{refl, sym, subst, Ok}
use Rattle.scripts.specs.Strategy.{SaysRatios}
use Rattle.texts.specs.Reading.{Plain}
use Rattle.scripts.proofs.Readers.{plainly, through, no_number, number_at, behind}
use Rattle.texts.specs.declared.field.Field.TheVariants as F
use Rattle.texts.specs.Lacking.{ThenNumber}
use Rattle.texts.proofs.Readings.{part_lacks, plain_part_lacks}
use Rattle.scripts.specs.Lacking.{LacksRatio, LacksLeveled}
use Rattle.scripts.proofs.Lackings.{number_missing, behind_target, behind_threshold}
use Rattle.scripts.proofs.strategy.read_leveled.Goals as goal

pub returns-in_err-target-clause-says : goal.returns-in_err-target-clause-says
returns-in_err-target-clause-says c = no_number _ _ _ _ _ _ c.from_residual.ensures.1 c.in_err-target.ensures.word (plainly _ (λ s said. number_at _ refl said.target))

pub returns-in_err-threshold-clause-says : goal.returns-in_err-threshold-clause-says
returns-in_err-threshold-clause-says c =
    no_number _ _ _ _ _ _ c.from_residual-in_err-threshold.ensures.1 c.in_err-threshold.ensures.word
    (plainly _ (λ s said. number_at _ (behind refl c.in_ok-target.ensures.word.next said.target) said.threshold))

pub returns-in_err-ratios-clause-says : goal.returns-in_err-ratios-clause-says
returns-in_err-ratios-clause-says c =
    through (Plain (SaysRatios c.number-2.new.self)) _ _ _ c.from_residual-in_err-ratios.ensures.1 c.in_err-ratios.ensures.says
    (plainly _ (λ s said.
    let left = behind (behind refl c.in_ok-target.ensures.word.next said.target) c.in_ok-threshold.ensures.word.next said.threshold in
    (Ok said.given, subst (λ ws. SaysRatios ws said.given) (sym left) said.ratios)))
    (λ refusal h. h)

pub returns-in_err-target-clause-names : goal.returns-in_err-target-clause-names
returns-in_err-target-clause-names c =
    plain_part_lacks _ (LacksLeveled c.args.words.now) (λ x h. h) _ _ c.from_residual.ensures.1 (number_missing F.Target (ThenNumber F.Threshold LacksRatio) _ _ c.in_err-target.ensures.word)

pub returns-in_err-threshold-clause-names : goal.returns-in_err-threshold-clause-names
returns-in_err-threshold-clause-names c =
    plain_part_lacks _ (LacksLeveled c.args.words.now) (behind_target _ c.in_ok-target.ensures.word) _ _ c.from_residual-in_err-threshold.ensures.1 (number_missing F.Threshold LacksRatio _ _ c.in_err-threshold.ensures.word)

pub returns-in_err-ratios-clause-names : goal.returns-in_err-ratios-clause-names
returns-in_err-ratios-clause-names c =
    part_lacks (LacksRatio _) (LacksLeveled c.args.words.now) (behind_threshold _ c.in_ok-target.ensures.word c.in_ok-threshold.ensures.word) _ _ c.from_residual-in_err-ratios.ensures.1 c.in_err-ratios.ensures.names
