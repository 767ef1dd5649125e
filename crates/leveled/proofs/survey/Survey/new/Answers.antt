use Rattle.leveled.proofs.Surveys.{stacked_of}
use Rattle.leveled.proofs.survey.Survey.new.Goals as goal

pub run_count-requires : goal.run_count-requires
run_count-requires g c = stacked_of g.met.K.KeyKind.total c.args.tables.now c.requires.sound

pub hold_levels-requires-clause-stacked : goal.hold_levels-requires-clause-stacked
hold_levels-requires-clause-stacked g c = stacked_of g.met.K.KeyKind.total c.args.tables.now c.requires.sound
