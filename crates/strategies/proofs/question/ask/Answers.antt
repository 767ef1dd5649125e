use Rattle.std.proofs.Common.{◌∙◌}
use Rattle.strategies.proofs.Asking.{granted_answer, granted_ids}
use Rattle.strategies.proofs.question.ask.Goals as goal

pub returns : goal.returns
returns g c = record {
  answer = c.hand_out.ensures.answer ∙ granted_answer c.in_ok-choice.choice _ c.in_ok-choice.ensures.answer _;
  ids = c.hand_out.ensures.ids ∙ granted_ids c.in_ok-choice.choice _ c.choose.new.ids _ c.in_ok-choice.ensures.answer c.choose.ensures.ids c.args.ids.now;
}
