use Rattle.std.proofs.Common.{◌∙◌}
use Rattle.std.proofs.lemmas.Result.{err_from_is_err_and}
use Rattle.changes.specs.Close.{job}
use Rattle.changes.proofs.Closings.{granted, close_refused, swapped_fits, close_sheet, close_done}
use Rattle.changes.proofs.close.RunningJob.close.Goals as goal

pub returns-in_err-test_close-clause-answer : goal.returns-in_err-test_close-clause-answer
returns-in_err-test_close-clause-answer g c =
    let p = err_from_is_err_and c.from_residual.result c.from_residual.ensures.1 in
    rw (p.1, p.2) (close_refused g.K.KeyKind.ranks (job c.args.self.now) c.args.outputs.now c.args.sheet.now c.args.standing c.in_err-test_close.field-0.0 c.in_err-test_close.ensures)

pub swap-count-requires-clause-room : goal.swap-count-requires-clause-room
swap-count-requires-clause-room g c =
    let cmp = g.K.KeyKind.ranks in
    let j = job c.args.self.now in
    swapped_fits cmp j c.args.outputs.now c.args.sheet.now c.args.standing (granted cmp j c.args.outputs.now c.args.sheet.now c.args.standing c.in_ok-test_close.ensures)

pub returns : goal.returns
returns g c =
    let cmp = g.K.KeyKind.ranks in
    let j = job c.args.self.now in
    let fs = c.args.outputs.now in
    let s = c.args.sheet.now in
    let n = c.args.standing in
    let ok = granted cmp j fs s n c.in_ok-test_close.ensures in
    let after = close_sheet cmp j fs s n ok c.swap-count.result c.swap-count.ensures.count c.swap-count.new.sheet g.met.K.KeyKind.total c.requires.sound c.requires.runs c.recount.new.sheet c.swap-count.ensures.sheet c.recount.ensures in
    record { answer = close_done cmp j fs s n ok c.swap-count.result c.swap-count.ensures.count c.recount.new.sheet (c.recount.auto.sheet ∙ c.swap-count.auto.sheet) after; sheet = after }
