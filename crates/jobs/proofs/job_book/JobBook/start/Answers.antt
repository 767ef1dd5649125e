use Rattle.std.proofs.Common.{map, set, cond, ap, ◌∙◌, arith}
use Rattle.std.proofs.lemmas.Bool.{le-leb}
use Rattle.std.proofs.lemmas.List.{map-set}
use Rattle.sheets.specs.HiddenSet.{hiding}
use Rattle.sheets.proofs.Hiding.{hiding_short}
use Rattle.slots.specs.View.{slot}
use Rattle.jobs.proofs.job_book.JobBook.start.Goals as goal

pub returns-clause-hidden : goal.returns-clause-hidden
returns-clause-hidden c =
    let hs = c.args.self.now.hidden in
    let ns = c.args.numbers.now in
    c.hide.ensures.after ∙ ap (λ b. cond b (hiding hs ns) hs) (c.hide.ensures.answer ∙ le-leb _ _ (omega (arith, hiding_short hs ns, c.requires.few)))

pub returns-clause-slots : goal.returns-clause-slots
returns-clause-slots c = map-set slot c.args.self.now.jobs c.args.place _ ∙ ap (set (map slot c.args.self.now.jobs) c.args.place) c.start.ensures
