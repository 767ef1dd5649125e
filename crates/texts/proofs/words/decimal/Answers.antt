use Rattle.std.proofs.Common.{◌≡◌, MatchOption, rules, None, subst, leb, arith}
use Rattle.std.specs.Bool.{then_some}
use Rattle.std.proofs.lemmas.Str.Pattern.{starts_char}
use Rattle.std.proofs.lemmas.Bool.Decides.{not_from_Decides}
use Rattle.texts.proofs.Numbers.{number_read}
use Rattle.texts.proofs.Options.{MatchOption-weaker}
use Rattle.texts.proofs.words.decimal.Goals as goal

pub returns : goal.returns
returns c =
    let d = starts_char 43 c.args.word.now c.starts_with.result c.starts_with.ensures.cases (omega arith) (omega arith) in
    let kept = MatchOption-weaker c.ok.result {Q' = λ x. c.filter.result ≡ then_some (leb x c.args.most) x} (λ n. n) (λ x b. let h = b.1.1 in let e = b.1.2 in let k = b.2 in search rules) c.filter.ensures in
    number_read c.args.word.now c.parse.result _ c.parse.ensures.value.0 (not_from_Decides _ d c.if-starts_with.false) c.args.most (omega arith) (subst (λ o. MatchOption o (c.filter.result ≡ None) (λ x. c.filter.result ≡ then_some (leb x c.args.most) x)) c.ok.ensures.value kept)
