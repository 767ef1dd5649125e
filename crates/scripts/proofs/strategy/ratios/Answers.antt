use Rattle.std.proofs.Common.{rules}
use Rattle.std.proofs.lemmas.Option.{MatchOption-at_some, MatchOption-at_none}
use Rattle.texts.proofs.Readings.{missing}
use Rattle.scripts.proofs.Readers.{plainly, turned_away}
use Rattle.scripts.proofs.Lines.{listed_error, read_more, no_ratio}
use Rattle.texts.proofs.Readings.{plain_part_lacks}
use Rattle.scripts.specs.Lacking.{LacksRatio}
use Rattle.scripts.proofs.Lackings.{lacks_ratio}
use Rattle.scripts.proofs.strategy.ratios.Goals as goal

pub returns-in_err-ok_or-clause-says : goal.returns-in_err-ok_or-clause-says
returns-in_err-ok_or-clause-says c =
    let none = c.in_err-ok_or.ensures in
    turned_away _ _ _ _ (listed_error _ c.from_residual.result c.from_residual.ensures.1) (missing _ _ _ none.ok_part none.value)
    (plainly _ (no_ratio c.in-Some.word.now c.loop-word.invariant c.in-Some.ensures.steps (MatchOption-at_none _ _ none.ok_part c.ratio.ensures.says)))

pub loop-word-preserved : goal.loop-word-preserved
loop-word-preserved c = read_more c.in-Some.word.now c.in_ok-ok_or.field-0 c.loop-word.invariant c.in-Some.ensures.steps (MatchOption-at_some _ _ _ c.in_ok-ok_or.ensures.ok_part c.ratio.ensures.says) _ (search rules)

pub returns-in_err-ok_or-clause-names : goal.returns-in_err-ok_or-clause-names
returns-in_err-ok_or-clause-names c =
    let none = c.in_err-ok_or.ensures in
    plain_part_lacks _ (LacksRatio c.args.words.now) (λ x h. h) _ _ c.from_residual.ensures.1
    (lacks_ratio c.in-Some.word.now c.loop-word.invariant c.in-Some.ensures.steps (MatchOption-at_none _ _ none.ok_part c.ratio.ensures.says) _ (missing _ _ _ none.ok_part none.value))
