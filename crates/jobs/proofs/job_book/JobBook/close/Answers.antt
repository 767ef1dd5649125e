use Rattle.books.proofs.Leaving.{closes_in_words}
use Rattle.jobs.proofs.job_book.JobBook.close.Goals as goal

pub returns-in-Ok-clause-words : goal.returns-in-Ok-clause-words
returns-in-Ok-clause-words g c = closes_in_words g.K.KeyKind.ranks

pub returns-in-Err-clause-words : goal.returns-in-Err-clause-words
returns-in-Err-clause-words g c = closes_in_words g.K.KeyKind.ranks
