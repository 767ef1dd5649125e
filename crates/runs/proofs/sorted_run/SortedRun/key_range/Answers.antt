use Rattle.std.proofs.Common.{ap, ◌∙◌, arith}
use Rattle.runs.proofs.Spans.{is_span}
use Rattle.runs.proofs.sorted_run.SortedRun.key_range.Goals as goal

pub returns : goal.returns
returns g c =
    let first = c.in_ok-first.ensures.item in
    let last = c.in_ok-last.ensures.item in
    is_span g.met.T.Key.KeyKind.total g.T.Ranged.spans c.args.self.now.tables.now c.key_range-first.result.now c.key_range-last.result.now
    c.in_ok-first.field-0.now c.in_ok-last.field-0.now (omega (arith, first.2)) c.args.self.now.sorted
    (c.key_range-first.ensures ∙ ap g.T.Ranged.spans first.1) (c.key_range-last.ensures ∙ ap g.T.Ranged.spans last.1)
