use Rattle.leveled.specs.Survey.{standing, hides}
use Rattle.leveled.proofs.FirstLevels.{filled_test}
use Rattle.leveled.proofs.survey.Survey.has_tables.Goals as goal

pub returns : goal.returns
returns g c =
    let v = c.args.self.now in
    filled_test (hides v) (standing v) c.args.n c.level.result c.level.ensures
