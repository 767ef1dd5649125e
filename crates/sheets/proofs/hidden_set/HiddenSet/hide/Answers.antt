use Rattle.std.proofs.Common.{rules, arith}
use Rattle.sheets.proofs.Hiding.{hiding_full}
use Rattle.sheets.proofs.hidden_set.HiddenSet.hide.Goals as goal

pub returns-then-not-push-clause-answer : goal.returns-then-not-push-clause-answer
returns-then-not-push-clause-answer c = hiding_full _ c.loop-id.self c.args.ids.now c.loop-id.id-index (omega arith) c.loop-id.invariant.0 (search rules) (search rules)
