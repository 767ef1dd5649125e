use Rattle.std.proofs.Common.{map, sym}
use Rattle.books.proofs.Leaving.{lands_in_words}
use Rattle.changes.specs.Changes.{on_sheet}
use Rattle.slots.specs.View.{slot}
use Rattle.jobs.specs.View.{state}
use Rattle.jobs.proofs.Standing.{landed_left}
use Rattle.jobs.proofs.Tested.{kept, laid_over, sound_on}
use Rattle.jobs.proofs.job_book.JobBook.land.Goals as goal

pub land_table-requires : goal.land_table-requires
land_table-requires g c = sound_on g.met.K.KeyKind.total c.args.self.now c.args.sheet.now (sym c.if-not-is_sound.ensures.test)

pub returns-in_err-self-clause-rest : goal.returns-in_err-self-clause-rest
returns-in_err-self-clause-rest g c = kept c.args.sheet.now c.land_table.new.sheet c.args.self.now.standing c.in_err-self.ensures.sheet

pub returns-clause-rest : goal.returns-clause-rest
returns-clause-rest g c =
    let cmp = g.K.KeyKind.ranks in
    let book = c.args.self.now in
    let slots = map slot book.jobs in
    let left = on_sheet c.land_table.new.sheet c.in_ok-self.field-0 book.blob_total book.hidden slots in
    laid_over _ _ _ c.in_ok-self.field-0 c.in_ok-self.ensures.sheet (landed_left cmp (state book c.args.sheet.now) left c.args.fresh.now (c.in_ok-self.ensures.answer book.blob_total book.hidden slots))

pub returns-then-not-is_sound-clause-words : goal.returns-then-not-is_sound-clause-words
returns-then-not-is_sound-clause-words g c = lands_in_words g.K.KeyKind.ranks

pub returns-in_err-self-clause-words : goal.returns-in_err-self-clause-words
returns-in_err-self-clause-words g c = lands_in_words g.K.KeyKind.ranks

pub returns-clause-words : goal.returns-clause-words
returns-clause-words g c = lands_in_words g.K.KeyKind.ranks
