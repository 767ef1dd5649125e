use Rattle.std.proofs.Common.{◌≡◌, ◌∷◌, codes, rules, refl}
use Rattle.texts.specs.declared.fault.Expected.TheVariants as X
use Rattle.texts.specs.Lacking.{Further, ThenWord}
use Rattle.texts.specs.Words.{words_of}
use Rattle.texts.proofs.Readings.{named, plain_lacks}
use Rattle.scripts.specs.Command.{key_name_of}
use Rattle.scripts.specs.Lacking.{LacksLine, of_keys, no_first_word}
use Rattle.scripts.proofs.Lackings.{word_missing, word_unsaid, behind_word, further_left}
use Rattle.scripts.proofs.command.Line.read.Goals as goal

pub returns-in_err-expect-in-Some-keys-clause-names : goal.returns-in_err-expect-in-Some-keys-clause-names
returns-in_err-expect-in-Some-keys-clause-names c =
    let e : words_of c.args.text.now ≡ codes "keys" ∷ c.next.new.self = search rules in
    plain_lacks (ThenWord X.KeyName (λ word kind. word ≡ key_name_of kind) (λ _. X.KeyName) Further c.next.new.self) (LacksLine (words_of c.args.text.now)) (λ x h. of_keys c.next.new.self e h) _ _ c.from_residual.ensures.1
    (word_missing X.KeyName (λ word kind. word ≡ key_name_of kind) (λ _. X.KeyName) Further _ _ c.in_err-expect-in-Some-keys.ensures.word)

pub returns-in_err-name-in-Some-keys-clause-names : goal.returns-in_err-name-in-Some-keys-clause-names
returns-in_err-name-in-Some-keys-clause-names c =
    let e : words_of c.args.text.now ≡ codes "keys" ∷ c.next.new.self = search rules in
    let lacks = ThenWord X.KeyName (λ word kind. word ≡ key_name_of kind) (λ _. X.KeyName) Further c.next.new.self in
    let none = c.in_err-name-in-Some-keys.ensures.value in
    plain_lacks lacks (LacksLine (words_of c.args.text.now)) (λ x h. of_keys c.next.new.self e h) _ _ c.from_residual-in_err-name-in-Some-keys.ensures.1
    (named lacks _ X.KeyName none.0 (word_unsaid X.KeyName (λ word kind. word ≡ key_name_of kind) (λ _. X.KeyName) Further _ c.in_ok-expect-in-Some-keys.ensures.word none.1 X.KeyName refl))

pub returns-in_err-end-in-Some-keys-clause-names : goal.returns-in_err-end-in-Some-keys-clause-names
returns-in_err-end-in-Some-keys-clause-names c =
    let e : words_of c.args.text.now ≡ codes "keys" ∷ c.next.new.self = search rules in
    plain_lacks (Further c.expect.new.self) (LacksLine (words_of c.args.text.now))
    (λ x h. of_keys c.next.new.self e (behind_word X.KeyName (λ word kind. word ≡ key_name_of kind) (λ _. X.KeyName) Further _ c.in_ok-expect-in-Some-keys.ensures.word c.in_ok-name-in-Some-keys.ensures.value x h))
    _ _ c.from_residual-in_err-end-in-Some-keys.ensures.1 (further_left _ _ c.in_err-end-in-Some-keys.ensures.end)

pub returns-in_err-parse-in-Some-clause-names : goal.returns-in_err-parse-in-Some-clause-names
returns-in_err-parse-in-Some-clause-names c =
    let e : words_of c.args.text.now ≡ c.in-Some.first.now ∷ c.next.new.self = search rules in
    let lacks = LacksLine (words_of c.args.text.now) in
    let none = c.in_err-parse-in-Some.ensures.value in
    plain_lacks lacks lacks (λ x h. h) _ _ c.from_residual-in_err-parse-in-Some.ensures.1
    (named lacks _ X.Word none.0 (no_first_word c.in-Some.first.now c.next.new.self e (search rules) none.1 refl))
