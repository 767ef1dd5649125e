use Rattle.std.proofs.Common.{length, ap, ◌∙◌, arith}
use Rattle.runs.specs.Run.{sorted}
use Rattle.sheets.specs.Level.{size_of}
use Rattle.sheets.proofs.Levels.{level_less}
use Rattle.leveled.specs.Survey.{standing}
use Rattle.leveled.specs.LevelRuns.{level_tested}
use Rattle.leveled.proofs.Scored.{count_less}
use Rattle.leveled.proofs.Surveys.{stacked_of, small_of}
use Rattle.leveled.proofs.survey.Survey.tables_of.Goals as goal

pub level-requires : goal.level-requires
level-requires g c = stacked_of g.met.K.KeyKind.total (standing c.args.self.now) c.args.self.now.sound

pub returns : goal.returns
returns g c =
    let ts = standing c.args.self.now in
    let n = c.args.n in
    let is = c.level.ensures.tables in
    record {
      tables = is;
      run = λ h. ap (sorted g.K.KeyKind.ranks (λ t. t.range)) is ∙ level_tested g.met.K.KeyKind.total ts c.args.self.now.sound n (λ e. absurd (omega arith));
      small = omega (arith, ap size_of is, level_less n ts, small_of g.met.K.KeyKind.total ts c.args.self.now.sound);
      few = omega (arith, ap length is, count_less ts n, c.args.self.now.few);
    }
