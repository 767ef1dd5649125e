use Rattle.std.proofs.Common.{refl, sym, subst, Err}
use Rattle.scripts.specs.Command.{SaysQuestion}
use Rattle.scripts.specs.Strategy.{SaysStrategy}
use Rattle.scripts.proofs.Readers.{through, no_number, number_at, behind}
use Rattle.texts.specs.declared.field.Field.TheVariants as F
use Rattle.texts.proofs.Readings.{part_lacks, plain_part_lacks}
use Rattle.scripts.specs.Lacking.{LacksStrategy, LacksQuestion}
use Rattle.scripts.proofs.Lackings.{number_missing, behind_number}
use Rattle.scripts.proofs.command.read_question.Goals as goal

pub returns-in_err-clock-clause-says : goal.returns-in_err-clock-clause-says
returns-in_err-clock-clause-says g c =
    no_number _ _ (SaysQuestion g.K.KeyText.says c.args.words.now) _ _ _ c.from_residual.ensures.1 c.in_err-clock.ensures.word (λ t said. number_at _ refl said.next_clock)

pub returns-in_err-settings-clause-says : goal.returns-in_err-settings-clause-says
returns-in_err-settings-clause-says g c =
    through (SaysStrategy g.K.KeyText.says c.number.new.self) (SaysQuestion g.K.KeyText.says c.args.words.now) _ _ c.from_residual-in_err-settings.ensures.1 c.in_err-settings.ensures.says
    (λ t said.
    let left = behind refl c.in_ok-clock.ensures.word.next said.next_clock in
    (said.strategy.0, subst (λ ws. SaysStrategy g.K.KeyText.says ws said.strategy.0) (sym left) said.strategy.1))
    (λ refusal h. record { clock = c.in_ok-clock.clock; after = c.number.new.self; next_clock = c.in_ok-clock.ensures.word; strategy = (Err refusal, h, refl) })

pub returns-in_err-clock-clause-names : goal.returns-in_err-clock-clause-names
returns-in_err-clock-clause-names g c =
    plain_part_lacks _ (LacksQuestion g.K.KeyText.says g.K.KeyText.wanted c.args.words.now) (λ x h. h) _ _ c.from_residual.ensures.1 (number_missing F.Clock (LacksStrategy g.K.KeyText.says g.K.KeyText.wanted) _ _ c.in_err-clock.ensures.word)

pub returns-in_err-settings-clause-names : goal.returns-in_err-settings-clause-names
returns-in_err-settings-clause-names g c =
    part_lacks (LacksStrategy g.K.KeyText.says g.K.KeyText.wanted _) (LacksQuestion g.K.KeyText.says g.K.KeyText.wanted c.args.words.now) (behind_number F.Clock (LacksStrategy g.K.KeyText.says g.K.KeyText.wanted) _ c.in_ok-clock.ensures.word) _ _ c.from_residual-in_err-settings.ensures.1 c.in_err-settings.ensures.names
