use Rattle.std.proofs.Common.{◌≡◌, None, MatchOption, from_bits, subst, rules, arith}
use Rattle.std.specs.Float.{binary32}
use Rattle.std.specs.Option.{IsSomeAnd}
use Rattle.std.proofs.lemmas.Str.Pattern.{starts_char}
use Rattle.std.proofs.lemmas.Bool.Decides.{not_from_Decides}
use Rattle.texts.proofs.Options.{MatchOption-weaker, IsSomeAnd-weaker}
use Rattle.scripts.proofs.Ratios.{ratio_read}
use Rattle.scripts.proofs.strategy.ratio_bits.Goals as goal

pub returns : goal.returns
returns c =
    let d = starts_char 43 c.args.digits.now c.starts_with.result c.starts_with.ensures.cases (omega arith) (omega arith) in
    let made = MatchOption-weaker c.ok.result {Q' = λ n. IsSomeAnd c.map.result (λ x. x ≡ from_bits binary32 n)} (λ e. e) (λ n h. IsSomeAnd-weaker c.map.result (λ x k. search rules) h) c.map.ensures.cases in
    ratio_read (from_bits binary32) c.args.digits.now c.from_str_radix.result c.map.result c.from_str_radix.ensures.value (not_from_Decides _ d c.if-starts_with.false) (omega arith)
    (subst (λ o. MatchOption o (c.map.result ≡ None) (λ n. IsSomeAnd c.map.result (λ x. x ≡ from_bits binary32 n))) c.ok.ensures.value made)
