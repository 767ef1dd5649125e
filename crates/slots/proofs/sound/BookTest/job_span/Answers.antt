use Rattle.std.proofs.Common.{filter, ap, ◌∙◌}
use Rattle.runs.specs.Run.{span_of}
use Rattle.sheets.specs.Tables.{named}
use Rattle.slots.specs.View.{slot}
use Rattle.slots.proofs.Holding.{span_slot}
use Rattle.slots.proofs.sound.BookTest.job_span.Goals as goal

pub returns : goal.returns
returns g c =
    let cmp = g.K.KeyKind.ranks in
    let ts = c.args.self.now.tables.now in
    c.span_held.ensures ∙ ap (λ ns. span_of cmp (λ t. t.range) (filter (named ns) ts)) c.numbers.ensures ∙ span_slot cmp ts (slot c.args.job.now)
