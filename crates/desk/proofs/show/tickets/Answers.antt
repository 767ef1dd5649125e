use Rattle.std.proofs.Common.{◌∙◌, ◌++◌, [], ◌∷◌, map, take, sym, ap, arith}
use Rattle.slots.specs.View.{slot}
use Rattle.desk.specs.Show.{tickets}
use Rattle.desk.proofs.Tickets.{one_more}
use Rattle.desk.proofs.show.tickets.Goals as goal

pub loop-job-preserved : goal.loop-job-preserved
loop-job-preserved c =
    c.in_ok-push_ticket.ensures ∙ ap (λ ns. ns ++ tickets (slot c.job-item.result ∷ [])) c.loop-job.invariant
    ∙ sym (one_more c.args.jobs.now c.loop-job.job-index c.job-item.result (omega arith) ∙ ap (λ j. tickets (map slot (take c.loop-job.job-index c.args.jobs.now)) ++ tickets (slot j ∷ [])) (sym c.job-item.is))
