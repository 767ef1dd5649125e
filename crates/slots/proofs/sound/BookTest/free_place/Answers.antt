use Rattle.std.proofs.Common.{◌≡◌, ◌+◌, true, ltb, leb, map, length, Some, None, ◌∙◌, arith, rules, tests}
use Rattle.std.proofs.lemmas.Bool.{le-leb}
use Rattle.std.proofs.lemmas.Iterator.{YieldsList-from_slice}
use Rattle.std.proofs.lemmas.Iterator.Search.{position_from_yields_List}
use Rattle.strategies.specs.Fifo.{place_of}
use Rattle.books.specs.Job.{running}
use Rattle.slots.specs.Admitted.{is_free}
use Rattle.slots.specs.declared.job.Job.{Job}
use Rattle.slots.specs.View.{slot}
use Rattle.slots.proofs.Admitting.{free_is, fits_all}
use Rattle.slots.proofs.sound.BookTest.free_place.Goals as goal

pub returns : goal.returns
returns g c =
    let jobs = c.args.self.now.jobs.now in
    let first = position_from_yields_List (λ (job : Job). is_free (slot job)) _ _ c.position.result c.position.ensures.ran (YieldsList-from_slice jobs cc) (λ x b q k. search (rules, tests)) in
    let fits : leb (length c.args.self.now.hidden_set.now + c.args.count) 256 ≡ true = le-leb _ _ (omega (arith, c.saturating_add.ensures, c.len.ensures.count, c.if-saturating_add-gt-MOST_HIDDEN.false)) in
    first ∙ free_is jobs c.args.self.now.eight ∙ fits_all (ltb (length (running (map slot jobs))) 8) _ (Some (place_of is_free (map slot jobs))) None fits
