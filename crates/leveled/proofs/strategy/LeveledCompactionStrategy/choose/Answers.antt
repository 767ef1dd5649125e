use Rattle.std.proofs.Common.{ap, ◌∙◌}
use Rattle.leveled.specs.Leveled.{leveled}
use Rattle.leveled.specs.Survey.{standing, hides}
use Rattle.leveled.proofs.Answered.{gives_by}
use Rattle.leveled.proofs.strategy.LeveledCompactionStrategy.choose.Goals as goal

pub returns : goal.returns
returns g c =
    let cmp = g.K.KeyKind.ranks in
    let s = c.args.settings.now in
    let v = c.new-survey.result in
    let is = c.new-survey.ensures in
    let gives =
    gives_by _ _ (ap (λ r. leveled cmp r (standing v) (hides v)) is.settings ∙ ap (λ ts. leveled cmp s ts (hides v)) is.tables ∙ ap (leveled cmp s c.args.snapshot.now.tables.now) is.hidden) c.choose.ensures in
    record { answer = gives.returns; ids = gives.writes }
