use Rattle.std.proofs.Common.{refl}
use Rattle.scripts.specs.Command.{SaysBody, SaysFresh}
use Rattle.scripts.proofs.Readers.{whole, no_number, number_at}
use Rattle.scripts.proofs.Tables.{fresh, fresh_body}
use Rattle.std.proofs.lemmas.Result.{IfErr-weaker}
use Rattle.texts.specs.declared.field.Field.TheVariants as F
use Rattle.texts.specs.Lacking.{Names}
use Rattle.texts.proofs.Readings.{named_by, plain_part_lacks}
use Rattle.scripts.specs.Lacking.{LacksBody, LacksFresh}
use Rattle.scripts.proofs.Lackings.{number_missing, behind_number}
use Rattle.scripts.proofs.command.read_fresh.Goals as goal

pub returns-in_err-number-clause-says : goal.returns-in_err-number-clause-says
returns-in_err-number-clause-says g c =
    no_number _ _ (SaysFresh g.K.KeyText.says c.args.words.now) _ _ _ c.from_residual.ensures.1 c.in_err-number.ensures.word (λ t said. number_at _ refl said.next_number)

pub returns-clause-says : goal.returns-clause-says
returns-clause-says g c =
    whole (SaysBody g.K.KeyText.says c.in_ok-number.number c.number.new.self) _ _ c.read_body.ensures.says (fresh g.K.KeyText.says _ c.in_ok-number.ensures.word) (fresh_body g.K.KeyText.says _ c.in_ok-number.ensures.word)

pub returns-in_err-number-clause-names : goal.returns-in_err-number-clause-names
returns-in_err-number-clause-names g c =
    plain_part_lacks _ (LacksFresh g.K.KeyText.says g.K.KeyText.wanted c.args.words.now) (λ x h. h) _ _ c.from_residual.ensures.1 (number_missing F.Number (LacksBody g.K.KeyText.says g.K.KeyText.wanted) _ _ c.in_err-number.ensures.word)

pub returns-clause-names : goal.returns-clause-names
returns-clause-names g c =
    let part = LacksBody g.K.KeyText.says g.K.KeyText.wanted c.number.new.self in
    let lacks = LacksFresh g.K.KeyText.says g.K.KeyText.wanted c.args.words.now in
    IfErr-weaker c.read_body.result (Names part) (Names lacks) (named_by part lacks (behind_number F.Number (LacksBody g.K.KeyText.says g.K.KeyText.wanted) _ c.in_ok-number.ensures.word)) c.read_body.ensures.names
