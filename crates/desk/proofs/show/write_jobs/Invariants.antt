use Rattle.std.proofs.Common.{◌≡◌, ◌++◌, take, map, string_bytes}
use Rattle.std.specs.List.{flat_map}
use Rattle.books.specs.Job.{found}
use Rattle.slots.specs.View.{slot}
use Rattle.desk.specs.Show.{line_of_job}
use Rattle.desk.proofs.show.write_jobs.Given as goal

abbrev pub invariant-loop-ticket : goal.invariant-loop-ticket
invariant-loop-ticket l = string_bytes l.out ≡ string_bytes l.initial.out ++ flat_map (λ n. line_of_job n (found n (map slot l.jobs))) (take l.ticket-index l.ticket-items)
