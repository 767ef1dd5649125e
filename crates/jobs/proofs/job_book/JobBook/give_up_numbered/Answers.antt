use Rattle.std.proofs.Common.{Err}
use Rattle.std.proofs.lemmas.Result.{err_from_is_err_and}
use Rattle.refusals.specs.declared.refusal.Refusal.TheVariants.{NotSound}
use Rattle.books.specs.Booked.{state_ok}
use Rattle.books.specs.Close.{give_up}
use Rattle.jobs.specs.View.{state}
use Rattle.jobs.proofs.Ended.{none_given_up, given_up_is}
use Rattle.jobs.proofs.Tested.{passed}
use Rattle.jobs.proofs.job_book.JobBook.give_up_numbered.Goals as goal

pub returns-in_err-place : goal.returns-in_err-place
returns-in_err-place g c =
    let cmp = g.K.KeyKind.ranks in
    let book = c.args.self.now in
    let n = c.args.number in
    let st = state book c.args.sheet.now in
    let p = err_from_is_err_and c.from_residual.result c.from_residual.ensures.1 in
    rw (p.1, p.2) (passed (state_ok cmp st) (give_up cmp n st) (st, Err NotSound) _ c.if-not-is_sound.ensures.test
    (none_given_up cmp book c.args.sheet.now n c.place_of.result c.place_of.ensures c.in_err-place.field-0.0 c.in_err-place.ensures.value))

pub returns : goal.returns
returns g c =
    let cmp = g.K.KeyKind.ranks in
    let book = c.args.self.now in
    let n = c.args.number in
    let st = state book c.args.sheet.now in
    passed (state_ok cmp st) (give_up cmp n st) (st, Err NotSound) _ c.if-not-is_sound.ensures.test
    (given_up_is cmp book c.args.sheet.now n c.place_of.result c.place_of.ensures c.in_ok-place.place c.in_ok-place.ensures.ok_part c.index-self-place.result
    c.end.new.self c.end.ensures.free c.numbers.result.now c.show.new.self c.numbers.ensures c.show.ensures)
