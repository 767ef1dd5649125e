use Rattle.std.proofs.Common.{ap, sym}
use Rattle.books.specs.Deed.{as_ended, as_chosen, as_booked}
use Rattle.jobs.specs.View.{state, question}
use Rattle.jobs.proofs.Performed.{of_case, proposed_ids, looked_ids, booked_ids}
use Rattle.jobs.proofs.Tested.{laid_take}
use Rattle.jobs.proofs.job_book.JobBook.perform.Goals as goal

pub returns-in-Land-clause-answer : goal.returns-in-Land-clause-answer
returns-in-Land-clause-answer g c =
    of_case g.K.KeyKind.ranks g.S.CompactionStrategy.chooses c.args.self.now.blob_total c.args.ids.now (state c.args.self.now c.args.sheet.now) c.in-Land.is (ap as_ended c.land.ensures.answer)

pub returns-in-Propose-clause-answer : goal.returns-in-Propose-clause-answer
returns-in-Propose-clause-answer g c =
    of_case g.K.KeyKind.ranks g.S.CompactionStrategy.chooses c.args.self.now.blob_total c.args.ids.now (state c.args.self.now c.args.sheet.now) c.in-Propose.is (ap as_chosen c.propose.ensures)

pub returns-in-Propose-clause-ids : goal.returns-in-Propose-clause-ids
returns-in-Propose-clause-ids g c =
    proposed_ids g.K.KeyKind.ranks (question g.S.CompactionStrategy.chooses c.in-Propose.query.settings c.args.self.now.blob_total c.in-Propose.query.clock) (state c.args.self.now c.args.sheet.now) c.args.ids.now c.propose.ensures

pub returns-in-LookAhead-clause-answer : goal.returns-in-LookAhead-clause-answer
returns-in-LookAhead-clause-answer g c =
    of_case g.K.KeyKind.ranks g.S.CompactionStrategy.chooses c.args.self.now.blob_total c.args.ids.now (state c.args.self.now c.args.sheet.now) c.in-LookAhead.is (ap as_chosen c.look_ahead.ensures)

pub returns-in-LookAhead-clause-rest : goal.returns-in-LookAhead-clause-rest
returns-in-LookAhead-clause-rest g c = sym (laid_take c.args.sheet.now c.look_ahead.new.self.standing)

pub returns-in-LookAhead-clause-ids : goal.returns-in-LookAhead-clause-ids
returns-in-LookAhead-clause-ids g c =
    looked_ids g.K.KeyKind.ranks (question g.S.CompactionStrategy.chooses c.in-LookAhead.query.settings c.args.self.now.blob_total c.in-LookAhead.query.clock) (state c.args.self.now c.args.sheet.now) c.args.ids.now c.look_ahead.ensures

pub returns-in-Book-clause-answer : goal.returns-in-Book-clause-answer
returns-in-Book-clause-answer g c =
    of_case g.K.KeyKind.ranks g.S.CompactionStrategy.chooses c.args.self.now.blob_total c.args.ids.now (state c.args.self.now c.args.sheet.now) c.in-Book.is (ap as_booked c.book_recorded.ensures)

pub returns-in-Book-clause-rest : goal.returns-in-Book-clause-rest
returns-in-Book-clause-rest g c = sym (laid_take c.args.sheet.now c.book_recorded.new.self.standing)

pub returns-in-Book-clause-ids : goal.returns-in-Book-clause-ids
returns-in-Book-clause-ids g c =
    booked_ids g.K.KeyKind.ranks (question g.S.CompactionStrategy.chooses c.in-Book.query.settings c.args.self.now.blob_total c.in-Book.query.clock) (state c.args.self.now c.args.sheet.now) c.args.ids.now c.book_recorded.ensures

pub returns-in-Close-clause-answer : goal.returns-in-Close-clause-answer
returns-in-Close-clause-answer g c =
    of_case g.K.KeyKind.ranks g.S.CompactionStrategy.chooses c.args.self.now.blob_total c.args.ids.now (state c.args.self.now c.args.sheet.now) c.in-Close.is (ap as_ended c.close_numbered.ensures.answer)

pub returns-in-GiveUp-clause-answer : goal.returns-in-GiveUp-clause-answer
returns-in-GiveUp-clause-answer g c =
    of_case g.K.KeyKind.ranks g.S.CompactionStrategy.chooses c.args.self.now.blob_total c.args.ids.now (state c.args.self.now c.args.sheet.now) c.in-GiveUp.is (ap as_ended c.give_up_numbered.ensures)

pub returns-in-GiveUp-clause-rest : goal.returns-in-GiveUp-clause-rest
returns-in-GiveUp-clause-rest g c = sym (laid_take c.args.sheet.now c.give_up_numbered.new.self.standing)
