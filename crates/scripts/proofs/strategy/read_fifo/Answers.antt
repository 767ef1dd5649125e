use Rattle.std.proofs.Common.{refl}
use Rattle.scripts.proofs.Readers.{plainly, no_number, number_at, behind}
use Rattle.texts.specs.declared.field.Field.TheVariants as F
use Rattle.texts.specs.Lacking.{Further}
use Rattle.texts.proofs.Readings.{plain_lacks}
use Rattle.scripts.specs.Lacking.{LacksNumber, LacksFifo}
use Rattle.scripts.proofs.Lackings.{number_missing, behind_number, further_left}
use Rattle.scripts.proofs.strategy.read_fifo.Goals as goal

pub returns-in_err-limit-clause-says : goal.returns-in_err-limit-clause-says
returns-in_err-limit-clause-says c = no_number _ _ _ _ _ _ c.from_residual.ensures.1 c.in_err-limit.ensures.word (plainly _ (λ s said. number_at _ refl said.limit))

pub returns-in_err-ttl_seconds-clause-says : goal.returns-in_err-ttl_seconds-clause-says
returns-in_err-ttl_seconds-clause-says c =
    no_number _ _ _ _ _ _ c.from_residual-in_err-ttl_seconds.ensures.1 c.in_err-ttl_seconds.ensures.word
    (plainly _ (λ s said. number_at _ (behind refl c.in_ok-limit.ensures.word.next said.limit) said.ttl))

pub returns-in_err-limit-clause-names : goal.returns-in_err-limit-clause-names
returns-in_err-limit-clause-names c =
    plain_lacks _ (LacksFifo c.args.words.now) (λ x h. h) _ _ c.from_residual.ensures.1 (number_missing F.Limit (LacksNumber F.Ttl) _ _ c.in_err-limit.ensures.word)

pub returns-in_err-ttl_seconds-clause-names : goal.returns-in_err-ttl_seconds-clause-names
returns-in_err-ttl_seconds-clause-names c =
    plain_lacks (LacksNumber F.Ttl _) (LacksFifo c.args.words.now) (behind_number F.Limit (LacksNumber F.Ttl) _ c.in_ok-limit.ensures.word) _ _ c.from_residual-in_err-ttl_seconds.ensures.1 (number_missing F.Ttl Further _ _ c.in_err-ttl_seconds.ensures.word)

pub returns-in_err-end-clause-names : goal.returns-in_err-end-clause-names
returns-in_err-end-clause-names c =
    plain_lacks (Further _) (LacksFifo c.args.words.now) (λ x h. behind_number F.Limit (LacksNumber F.Ttl) _ c.in_ok-limit.ensures.word x (behind_number F.Ttl Further _ c.in_ok-ttl_seconds.ensures.word x h)) _ _ c.from_residual-in_err-end.ensures.1
    (further_left _ _ c.in_err-end.ensures.end)
