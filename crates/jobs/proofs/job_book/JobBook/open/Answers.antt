use Rattle.std.proofs.Common.{◌≡◌, [], ◌∷◌, replicate, sym, refl, subst}
use Rattle.std.proofs.lemmas.List.{length-take-le}
use Rattle.books.specs.Job.{running}
use Rattle.books.proofs.Keeping.{begins_sound}
use Rattle.jobs.specs.View.{state}
use Rattle.jobs.proofs.job_book.JobBook.open.Goals as goal

pub returns-clause-sound : goal.returns-clause-sound
returns-clause-sound g c =
    let s = c.if-not-is_sound.ensures.words.0 refl in
    begins_sound (state (record { standing = c.args.count; blob_total = c.args.blob_total; hidden = c.new.result; jobs = replicate 8 c.free.result }) c.args.sheet.now)
    (sym (length-take-le c.args.count c.args.sheet.now s.fits))
    refl
    c.new.ensures
    (subst (λ o. running (o ∷ o ∷ o ∷ o ∷ o ∷ o ∷ o ∷ o ∷ []) ≡ []) (sym c.free.ensures) refl)
    s
