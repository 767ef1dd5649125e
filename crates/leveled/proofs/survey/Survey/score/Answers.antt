use Rattle.std.proofs.Common.{ap, arith}
use Rattle.leveled.specs.Survey.{standing, hides}
use Rattle.leveled.proofs.Scored.{count_less, free_less}
use Rattle.leveled.proofs.Surveys.{small_of}
use Rattle.leveled.proofs.survey.Survey.score.Goals as goal

pub first_level_score-requires : goal.first_level_score-requires
first_level_score-requires g c = let v = c.args.self.now in omega (arith, ap (λ r. r.table_count) c.level.ensures, count_less (standing v) 0, c.args.self.now.few)

pub level_score-requires : goal.level_score-requires
level_score-requires g c =
    let ts = standing c.args.self.now in
    omega (arith, ap (λ r. r.free_bytes) c.level-2.ensures, free_less ts c.args.n (hides c.args.self.now), small_of g.met.K.KeyKind.total ts c.args.self.now.sound)
