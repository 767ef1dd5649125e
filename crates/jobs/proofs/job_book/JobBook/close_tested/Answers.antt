use Rattle.std.proofs.Common.{◌≡◌, length, map, refl, arith, rules}
use Rattle.std.proofs.lemmas.Result.{err_from_is_err_and}
use Rattle.books.specs.Close.{freed}
use Rattle.changes.specs.Changes.{on_sheet}
use Rattle.changes.specs.Close.{job}
use Rattle.slots.specs.View.{slot}
use Rattle.jobs.specs.View.{state}
use Rattle.jobs.proofs.Ended.{none_closed, says_one, says_task, closed_is, refused_is}
use Rattle.jobs.proofs.Places.{place_within}
use Rattle.jobs.proofs.Standing.{closed_left}
use Rattle.jobs.proofs.Tested.{kept, laid_over, sound_on, found_job}
use Rattle.jobs.proofs.job_book.JobBook.close_tested.Goals as goal

pub returns-in_err-place-clause-answer : goal.returns-in_err-place-clause-answer
returns-in_err-place-clause-answer g c =
    let p = err_from_is_err_and c.from_residual.result c.from_residual.ensures.1 in
    rw (p.1, p.2) (none_closed g.K.KeyKind.ranks c.args.self.now c.args.sheet.now c.args.number c.place_of.result c.place_of.ensures c.in_err-place.field-0.0 c.in_err-place.ensures.value c.args.outputs.now)

pub returns-in_err-place-clause-rest : goal.returns-in_err-place-clause-rest
returns-in_err-place-clause-rest g c = kept c.args.sheet.now c.args.sheet.now c.args.self.now.standing refl

pub bounds-self-place : goal.bounds-self-place
bounds-self-place g c =
    let lt = place_within c.args.number c.args.self.now.jobs c.place_of.result c.place_of.ensures c.in_ok-place.place c.in_ok-place.ensures.ok_part in
    let eight : length c.args.self.now.jobs ≡ 8 = search rules in omega arith

pub listed : goal.listed
listed g c = place_within c.args.number c.args.self.now.jobs c.place_of.result c.place_of.ensures c.in_ok-place.place c.in_ok-place.ensures.ok_part

pub offset_bounds-self-place : goal.offset_bounds-self-place
offset_bounds-self-place g c =
    let lt = place_within c.args.number c.args.self.now.jobs c.place_of.result c.place_of.ensures c.in_ok-place.place c.in_ok-place.ensures.ok_part in
    let eight : length c.args.self.now.jobs ≡ 8 = search rules in omega arith

pub unreachable-requires : goal.unreachable-requires
unreachable-requires g c =
    says_one g.K.KeyKind.ranks c.args.self.now c.args.sheet.now c.args.number c.place_of.result c.place_of.ensures c.in_ok-place.place c.in_ok-place.ensures.ok_part c.index-self-place.result c.in_default.ensures.effect

pub close-requires-clause-sound : goal.close-requires-clause-sound
close-requires-clause-sound g c = sound_on g.met.K.KeyKind.total c.args.self.now c.args.sheet.now c.requires

pub close-requires-clause-runs : goal.close-requires-clause-runs
close-requires-clause-runs g c =
    let eight : length c.args.self.now.jobs ≡ 8 = search rules in
    found_job g.met.K.KeyKind.total c.args.self.now c.args.sheet.now c.requires c.args.number (job c.running_job.result) eight
    (says_task g.K.KeyKind.ranks c.args.self.now c.args.sheet.now c.args.number c.place_of.result c.place_of.ensures c.in_ok-place.place c.in_ok-place.ensures.ok_part c.index-self-place.result
    c.in-Some.task c.numbers.result.now (job c.running_job.result) c.in-Some.ensures.effect c.numbers.ensures c.running_job.ensures)

pub returns-in-Ok-clause-answer : goal.returns-in-Ok-clause-answer
returns-in-Ok-clause-answer g c =
    let cmp = g.K.KeyKind.ranks in
    let book = c.args.self.now in
    let s = c.args.sheet.now in
    let n = c.args.number in
    let outs = c.args.outputs.now in
    let i = c.in_ok-place.place in
    let o = c.place_of.result in
    let said = c.place_of.ensures in
    let at = c.in_ok-place.ensures.ok_part in
    let own = c.index-self-place.result in
    let j = job c.running_job.result in
    let found_is = says_task cmp book s n o said i at own c.in-Some.task c.numbers.result.now j c.in-Some.ensures.effect c.numbers.ensures c.running_job.ensures in
    closed_is cmp book s n o said i at own c.end.new.self c.end.ensures.free c.numbers-in-Ok.result.now c.show.new.self c.numbers-in-Ok.ensures c.show.ensures outs c.close.new.sheet c.in-Ok.standing j found_is
    (c.in-Ok.ensures.answer book.blob_total book.hidden (map slot book.jobs))

pub returns-in-Ok-clause-rest : goal.returns-in-Ok-clause-rest
returns-in-Ok-clause-rest g c =
    let cmp = g.K.KeyKind.ranks in
    let book = c.args.self.now in
    let s = c.args.sheet.now in
    let j = job c.running_job.result in
    let slots = map slot book.jobs in
    let left = freed cmp j (on_sheet c.close.new.sheet c.in-Ok.standing book.blob_total book.hidden slots) in
    laid_over _ _ _ c.in-Ok.standing c.in-Ok.ensures.sheet (closed_left cmp (state book s) left j c.args.outputs.now (c.in-Ok.ensures.answer book.blob_total book.hidden slots))

pub returns-in-Err-clause-answer : goal.returns-in-Err-clause-answer
returns-in-Err-clause-answer g c =
    let cmp = g.K.KeyKind.ranks in
    let book = c.args.self.now in
    let s = c.args.sheet.now in
    let n = c.args.number in
    let outs = c.args.outputs.now in
    let i = c.in_ok-place.place in
    let o = c.place_of.result in
    let said = c.place_of.ensures in
    let at = c.in_ok-place.ensures.ok_part in
    let own = c.index-self-place.result in
    let j = job c.running_job.result in
    let found_is = says_task cmp book s n o said i at own c.in-Some.task c.numbers.result.now j c.in-Some.ensures.effect c.numbers.ensures c.running_job.ensures in
    refused_is cmp book s n o said i at own outs c.close.new.sheet j c.in-Err.refusal found_is (c.in-Err.ensures.answer book.blob_total book.hidden (map slot book.jobs))

pub returns-in-Err-clause-rest : goal.returns-in-Err-clause-rest
returns-in-Err-clause-rest g c = kept c.args.sheet.now c.close.new.sheet c.args.self.now.standing c.in-Err.ensures.sheet
