use Rattle.std.proofs.Common.{ap, ◌∙◌}
use Rattle.runs.specs.Run.{span_of}
use Rattle.leveled.specs.Survey.{set_to, standing, hides}
use Rattle.leveled.proofs.Overlapped.{meets_none, meets_span_of}
use Rattle.leveled.proofs.survey.Survey.get_overlapping.Goals as goal

pub returns-in_default : goal.returns-in_default
returns-in_default g c =
    let v = c.args.self.now in
    meets_none g.K.KeyKind.ranks (set_to v) (standing v) (hides v) c.args.n (c.in_default.ensures ∙ ap (span_of g.K.KeyKind.ranks (λ t. t.range)) c.tables_of.ensures.tables)

pub returns : goal.returns
returns g c =
    let v = c.args.self.now in
    meets_span_of g.K.KeyKind.ranks (set_to v) (standing v) (hides v) c.args.n c.in-Some.span c.run_of.result.run.tables.now _
    (c.in-Some.ensures ∙ ap (span_of g.K.KeyKind.ranks (λ t. t.range)) c.tables_of.ensures.tables) c.run_of.ensures c.overlapping.ensures.tables
