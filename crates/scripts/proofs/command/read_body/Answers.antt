use Rattle.texts.specs.declared.fault.Expected.TheVariants as X
use Rattle.texts.specs.declared.fault.Fault.TheVariants.{Refused}
use Rattle.texts.specs.declared.field.Field.TheVariants as F
use Rattle.texts.specs.Lacking.{Further, ThenNumber}
use Rattle.texts.proofs.Readings.{part_lacks, plain_part_lacks}
use Rattle.scripts.specs.Command.{SaysBody}
use Rattle.scripts.specs.Lacking.{LacksNumber, LacksSizes, ThenKey, LacksBody}
use Rattle.scripts.proofs.Readers.{handed, no_number, neither_refused, first_refused, second_refused}
use Rattle.scripts.proofs.Bodies.{body, size_there, created_there, linked_there}
use Rattle.scripts.proofs.Lackings.{word_missing, word_unsaid, number_missing, further_left, unsaid, behind_min, behind_keys, behind_size, behind_created, behind_linked}
use Rattle.scripts.proofs.command.read_body.Goals as goal

pub returns-in_err-size-clause-says : goal.returns-in_err-size-clause-says
returns-in_err-size-clause-says g c =
    no_number _ _ (SaysBody g.K.KeyText.says c.args.number c.args.words.now) _ _ _ c.from_residual-in_err-size.ensures.1 c.in_err-size.ensures.word (λ t said. size_there g.K.KeyText.says c.args.number _ c.in_ok-expect.ensures.word c.in_ok-expect-2.ensures.word t said)

pub returns-in_err-created-clause-says : goal.returns-in_err-created-clause-says
returns-in_err-created-clause-says g c =
    no_number _ _ (SaysBody g.K.KeyText.says c.args.number c.args.words.now) _ _ _ c.from_residual-in_err-created.ensures.1 c.in_err-created.ensures.word
    (λ t said. created_there g.K.KeyText.says c.args.number _ c.in_ok-expect.ensures.word c.in_ok-expect-2.ensures.word t said c.in_ok-size.ensures.word)

pub returns-in_err-linked-clause-says : goal.returns-in_err-linked-clause-says
returns-in_err-linked-clause-says g c =
    no_number _ _ (SaysBody g.K.KeyText.says c.args.number c.args.words.now) _ _ _ c.from_residual-in_err-linked.ensures.1 c.in_err-linked.ensures.word
    (λ t said. linked_there g.K.KeyText.says c.args.number _ c.in_ok-expect.ensures.word c.in_ok-expect-2.ensures.word t said c.in_ok-size.ensures.word c.in_ok-created.ensures.word)

pub returns-in_err-min-2-clause-says : goal.returns-in_err-min-2-clause-says
returns-in_err-min-2-clause-says g c =
    handed (SaysBody g.K.KeyText.says c.args.number c.args.words.now) _ (Refused c.in_err-min-2.field-0.0) c.from_residual-in_err-min-2.ensures.1
    (body g.K.KeyText.says c.args.number _ c.in_ok-expect.ensures.word c.in_ok-expect-2.ensures.word _ _ _ _ _ _ _ _ c.in_ok-min.ensures.says c.in_ok-max.ensures.says c.in_ok-size.ensures.word c.in_ok-created.ensures.word c.in_ok-linked.ensures.word c.in_ok-end.ensures.end _
    (first_refused _ c.in_ok-min.min c.in_ok-max.max c.in_err-min-2.was))

pub returns-in_err-max-2-clause-says : goal.returns-in_err-max-2-clause-says
returns-in_err-max-2-clause-says g c =
    handed (SaysBody g.K.KeyText.says c.args.number c.args.words.now) _ (Refused c.in_err-max-2.field-0.0) c.from_residual-in_err-max-2.ensures.1
    (body g.K.KeyText.says c.args.number _ c.in_ok-expect.ensures.word c.in_ok-expect-2.ensures.word _ _ _ _ _ _ _ _ c.in_ok-min.ensures.says c.in_ok-max.ensures.says c.in_ok-size.ensures.word c.in_ok-created.ensures.word c.in_ok-linked.ensures.word c.in_ok-end.ensures.end _
    (second_refused _ c.in_ok-min.min c.in_ok-max.max c.in_ok-min-2.was c.in_err-max-2.was))

pub returns-clause-says : goal.returns-clause-says
returns-clause-says g c =
    body g.K.KeyText.says c.args.number _ c.in_ok-expect.ensures.word c.in_ok-expect-2.ensures.word _ _ _ _ _ _ _ _ c.in_ok-min.ensures.says c.in_ok-max.ensures.says c.in_ok-size.ensures.word c.in_ok-created.ensures.word c.in_ok-linked.ensures.word c.in_ok-end.ensures.end _
    (neither_refused _ c.in_ok-min.min c.in_ok-max.max c.in_ok-min-2.was c.in_ok-max-2.was)

pub returns-in_err-expect-clause-names : goal.returns-in_err-expect-clause-names
returns-in_err-expect-clause-names g c =
    plain_part_lacks _ (LacksBody g.K.KeyText.says g.K.KeyText.wanted c.args.words.now) (λ x h. h) _ _ c.from_residual.ensures.1 (word_missing X.Key g.K.KeyText.says (λ _. g.K.KeyText.wanted) (ThenKey g.K.KeyText.says g.K.KeyText.wanted LacksSizes) c.args.words.now _ c.in_err-expect.ensures.word)

pub returns-in_err-min-clause-names : goal.returns-in_err-min-clause-names
returns-in_err-min-clause-names g c =
    part_lacks _ (LacksBody g.K.KeyText.says g.K.KeyText.wanted c.args.words.now) (λ x h. h) _ _ c.from_residual-in_err-min.ensures.1
    (unsaid g.K.KeyText.says g.K.KeyText.wanted _ (LacksBody g.K.KeyText.says g.K.KeyText.wanted c.args.words.now) (word_unsaid X.Key g.K.KeyText.says (λ _. g.K.KeyText.wanted) (ThenKey g.K.KeyText.says g.K.KeyText.wanted LacksSizes) c.args.words.now c.in_ok-expect.ensures.word) _ c.in_err-min.ensures.says c.in_err-min.ensures.names)

pub returns-in_err-expect-2-clause-names : goal.returns-in_err-expect-2-clause-names
returns-in_err-expect-2-clause-names g c =
    plain_part_lacks (ThenKey g.K.KeyText.says g.K.KeyText.wanted LacksSizes _) (LacksBody g.K.KeyText.says g.K.KeyText.wanted c.args.words.now) (behind_min g.K.KeyText.says g.K.KeyText.wanted c.args.words.now c.in_ok-expect.ensures.word c.in_ok-min.ensures.says) _ _ c.from_residual-in_err-expect-2.ensures.1
    (word_missing X.Key g.K.KeyText.says (λ _. g.K.KeyText.wanted) LacksSizes _ _ c.in_err-expect-2.ensures.word)

pub returns-in_err-max-clause-names : goal.returns-in_err-max-clause-names
returns-in_err-max-clause-names g c =
    part_lacks (ThenKey g.K.KeyText.says g.K.KeyText.wanted LacksSizes _) (LacksBody g.K.KeyText.says g.K.KeyText.wanted c.args.words.now) (behind_min g.K.KeyText.says g.K.KeyText.wanted c.args.words.now c.in_ok-expect.ensures.word c.in_ok-min.ensures.says) _ _ c.from_residual-in_err-max.ensures.1
    (unsaid g.K.KeyText.says g.K.KeyText.wanted _ (ThenKey g.K.KeyText.says g.K.KeyText.wanted LacksSizes _) (word_unsaid X.Key g.K.KeyText.says (λ _. g.K.KeyText.wanted) LacksSizes _ c.in_ok-expect-2.ensures.word) _ c.in_err-max.ensures.says c.in_err-max.ensures.names)

pub returns-in_err-size-clause-names : goal.returns-in_err-size-clause-names
returns-in_err-size-clause-names g c =
    plain_part_lacks (LacksSizes _) (LacksBody g.K.KeyText.says g.K.KeyText.wanted c.args.words.now) (behind_keys g.K.KeyText.says g.K.KeyText.wanted c.args.words.now c.in_ok-expect.ensures.word c.in_ok-min.ensures.says c.in_ok-expect-2.ensures.word c.in_ok-max.ensures.says) _ _ c.from_residual-in_err-size.ensures.1 (number_missing F.Size (ThenNumber F.Created (LacksNumber F.Linked)) _ _ c.in_err-size.ensures.word)

pub returns-in_err-created-clause-names : goal.returns-in_err-created-clause-names
returns-in_err-created-clause-names g c =
    plain_part_lacks (ThenNumber F.Created (LacksNumber F.Linked) _) (LacksBody g.K.KeyText.says g.K.KeyText.wanted c.args.words.now) (λ x h. behind_keys g.K.KeyText.says g.K.KeyText.wanted c.args.words.now c.in_ok-expect.ensures.word c.in_ok-min.ensures.says c.in_ok-expect-2.ensures.word c.in_ok-max.ensures.says x (behind_size _ c.in_ok-size.ensures.word x h)) _ _ c.from_residual-in_err-created.ensures.1
    (number_missing F.Created (LacksNumber F.Linked) _ _ c.in_err-created.ensures.word)

pub returns-in_err-linked-clause-names : goal.returns-in_err-linked-clause-names
returns-in_err-linked-clause-names g c =
    plain_part_lacks (LacksNumber F.Linked _) (LacksBody g.K.KeyText.says g.K.KeyText.wanted c.args.words.now) (λ x h. behind_keys g.K.KeyText.says g.K.KeyText.wanted c.args.words.now c.in_ok-expect.ensures.word c.in_ok-min.ensures.says c.in_ok-expect-2.ensures.word c.in_ok-max.ensures.says x (behind_created _ c.in_ok-size.ensures.word c.in_ok-created.ensures.word x h)) _ _ c.from_residual-in_err-linked.ensures.1
    (number_missing F.Linked Further _ _ c.in_err-linked.ensures.word)

pub returns-in_err-end-clause-names : goal.returns-in_err-end-clause-names
returns-in_err-end-clause-names g c =
    plain_part_lacks (Further _) (LacksBody g.K.KeyText.says g.K.KeyText.wanted c.args.words.now) (λ x h. behind_keys g.K.KeyText.says g.K.KeyText.wanted c.args.words.now c.in_ok-expect.ensures.word c.in_ok-min.ensures.says c.in_ok-expect-2.ensures.word c.in_ok-max.ensures.says x (behind_linked _ c.in_ok-size.ensures.word c.in_ok-created.ensures.word c.in_ok-linked.ensures.word x h)) _ _ c.from_residual-in_err-end.ensures.1
    (further_left _ _ c.in_err-end.ensures.end)
