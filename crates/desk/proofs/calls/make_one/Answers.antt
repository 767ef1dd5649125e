use Rattle.std.proofs.lemmas.Result.{IfOk-weaker}
use Rattle.standard.specs.Standard.{standard}
use Rattle.jobs.specs.View.{state}
use Rattle.desk.proofs.Replies.{one_reply, told_so}
use Rattle.desk.proofs.calls.make_one.Goals as goal

pub returns-clause-told : goal.returns-clause-told
returns-clause-told g c call one =
    let w = one_reply g.K.KeyKind.ranks (standard g.K.KeyKind.ranks) c.args.book.now.blob_total call (state c.args.book.now c.args.sheet.now) _ c.args.calls.now c.replay.new.outcomes _ one c.replay.ensures.outcomes in
    IfOk-weaker c.write_outcome.result _ _
    (λ _ t. (t.0, t.1, told_so c.done_by.result _ _ _ t.0 (c.done_by.ensures call c.args.book.now.blob_total c.args.ids.now one) w.2 t.2))
    (c.write_outcome.ensures.line w.0 w.1)
