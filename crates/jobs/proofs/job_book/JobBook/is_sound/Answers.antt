use Rattle.std.proofs.Common.{◌≡◌, length, rules}
use Rattle.std.proofs.lemmas.Bool.Decides.{Decides-at}
use Rattle.books.specs.Booked.{state_ok}
use Rattle.jobs.specs.View.{state}
use Rattle.jobs.proofs.Tested.{state_tested}
use Rattle.jobs.proofs.job_book.JobBook.is_sound.Goals as goal

pub returns-then-is_sound-clause-words : goal.returns-then-is_sound-clause-words
returns-then-is_sound-clause-words g c =
    let eight : length c.args.self.now.jobs ≡ 8 = search rules in
    let test : c.is_passed.result ≡ state_ok g.K.KeyKind.ranks (state c.args.self.now c.args.sheet.now) = search rules in
    Decides-at _ _ test (state_tested g.met.K.KeyKind.total c.args.self.now c.args.sheet.now eight)
