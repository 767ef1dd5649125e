use Rattle.std.proofs.Common.{◌≡◌, take, map}
use Rattle.slots.specs.View.{slot}
use Rattle.desk.specs.Show.{tickets}
use Rattle.desk.proofs.show.tickets.Given as goal

abbrev pub invariant-loop-job : goal.invariant-loop-job
invariant-loop-job l = l.numbers.items ≡ tickets (map slot (take l.job-index l.jobs))
