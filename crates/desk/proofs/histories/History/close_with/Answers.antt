use Rattle.std.proofs.Common.{rules}
use Rattle.jobs.specs.declared.call.Call.TheVariants.{Close}
use Rattle.desk.proofs.histories.History.close_with.Goals as goal

pub returns-clause-closes : goal.returns-clause-closes
returns-clause-closes g c = c.make.ensures.made (Close c.args.ticket c.args.outputs) (search rules)
