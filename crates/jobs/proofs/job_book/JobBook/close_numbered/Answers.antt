use Rattle.std.proofs.Common.{refl}
use Rattle.jobs.proofs.Tested.{kept}
use Rattle.jobs.proofs.job_book.JobBook.close_numbered.Goals as goal

pub returns-then-not-is_sound-clause-rest : goal.returns-then-not-is_sound-clause-rest
returns-then-not-is_sound-clause-rest g c = kept c.args.sheet.now c.args.sheet.now c.args.self.now.standing refl
