use Rattle.texts.specs.declared.fault.Fault.TheVariants.{Refused}
use Rattle.scripts.specs.Strategy.{SaysBounds}
use Rattle.scripts.proofs.Readers.{handed, neither_refused, first_refused, second_refused}
use Rattle.scripts.proofs.Bounds.{bounds}
use Rattle.texts.specs.declared.fault.Expected.TheVariants as X
use Rattle.texts.specs.Lacking.{Further}
use Rattle.texts.proofs.Readings.{part_lacks, plain_part_lacks}
use Rattle.scripts.specs.Strategy.{BoundWord}
use Rattle.scripts.specs.Lacking.{bound_wanted, ThenBound, LacksBounds}
use Rattle.scripts.proofs.Lackings.{word_missing, word_unsaid, further_left, unsaid, behind_start, behind_end}
use Rattle.scripts.proofs.strategy.read_bounds.Goals as goal

pub returns-in_err-start-2-clause-says : goal.returns-in_err-start-2-clause-says
returns-in_err-start-2-clause-says g c =
    handed (SaysBounds g.K.KeyText.says c.args.words.now) _ (Refused c.in_err-start-2.field-0.0) c.from_residual-in_err-start-2.ensures.1
    (bounds g.K.KeyText.says _ c.in_ok-start.start c.in_ok-end.end c.in_ok-expect.ensures.word c.in_ok-expect-2.ensures.word c.in_ok-end-2.ensures.end c.in_ok-start.ensures.says c.in_ok-end.ensures.says _
    (first_refused _ c.in_ok-start.start c.in_ok-end.end c.in_err-start-2.was))

pub returns-in_err-end-3-clause-says : goal.returns-in_err-end-3-clause-says
returns-in_err-end-3-clause-says g c =
    handed (SaysBounds g.K.KeyText.says c.args.words.now) _ (Refused c.in_err-end-3.field-0.0) c.from_residual-in_err-end-3.ensures.1
    (bounds g.K.KeyText.says _ c.in_ok-start.start c.in_ok-end.end c.in_ok-expect.ensures.word c.in_ok-expect-2.ensures.word c.in_ok-end-2.ensures.end c.in_ok-start.ensures.says c.in_ok-end.ensures.says _
    (second_refused _ c.in_ok-start.start c.in_ok-end.end c.in_ok-start-2.was c.in_err-end-3.was))

pub returns-clause-says : goal.returns-clause-says
returns-clause-says g c =
    bounds g.K.KeyText.says _ c.in_ok-start.start c.in_ok-end.end c.in_ok-expect.ensures.word c.in_ok-expect-2.ensures.word c.in_ok-end-2.ensures.end c.in_ok-start.ensures.says c.in_ok-end.ensures.says _
    (neither_refused _ c.in_ok-start.start c.in_ok-end.end c.in_ok-start-2.was c.in_ok-end-3.was)

pub returns-in_err-expect-clause-names : goal.returns-in_err-expect-clause-names
returns-in_err-expect-clause-names g c =
    plain_part_lacks _ (LacksBounds g.K.KeyText.says g.K.KeyText.wanted c.args.words.now) (λ x h. h) _ _ c.from_residual.ensures.1 (word_missing X.Bound (BoundWord g.K.KeyText.says) (bound_wanted g.K.KeyText.wanted) (ThenBound g.K.KeyText.says g.K.KeyText.wanted Further) _ _ c.in_err-expect.ensures.word)

pub returns-in_err-start-clause-names : goal.returns-in_err-start-clause-names
returns-in_err-start-clause-names g c =
    part_lacks _ (LacksBounds g.K.KeyText.says g.K.KeyText.wanted c.args.words.now) (λ x h. h) _ _ c.from_residual-in_err-start.ensures.1
    (unsaid (BoundWord g.K.KeyText.says) _ _ (LacksBounds g.K.KeyText.says g.K.KeyText.wanted c.args.words.now) (word_unsaid X.Bound (BoundWord g.K.KeyText.says) (bound_wanted g.K.KeyText.wanted) (ThenBound g.K.KeyText.says g.K.KeyText.wanted Further) _ c.in_ok-expect.ensures.word) _ c.in_err-start.ensures.says c.in_err-start.ensures.names)

pub returns-in_err-expect-2-clause-names : goal.returns-in_err-expect-2-clause-names
returns-in_err-expect-2-clause-names g c =
    plain_part_lacks (ThenBound g.K.KeyText.says g.K.KeyText.wanted Further _) (LacksBounds g.K.KeyText.says g.K.KeyText.wanted c.args.words.now) (behind_start g.K.KeyText.says g.K.KeyText.wanted _ c.in_ok-expect.ensures.word c.in_ok-start.start c.in_ok-start.ensures.says) _ _ c.from_residual-in_err-expect-2.ensures.1
    (word_missing X.Bound (BoundWord g.K.KeyText.says) (bound_wanted g.K.KeyText.wanted) Further _ _ c.in_err-expect-2.ensures.word)

pub returns-in_err-end-clause-names : goal.returns-in_err-end-clause-names
returns-in_err-end-clause-names g c =
    part_lacks (ThenBound g.K.KeyText.says g.K.KeyText.wanted Further _) (LacksBounds g.K.KeyText.says g.K.KeyText.wanted c.args.words.now) (behind_start g.K.KeyText.says g.K.KeyText.wanted _ c.in_ok-expect.ensures.word c.in_ok-start.start c.in_ok-start.ensures.says) _ _ c.from_residual-in_err-end.ensures.1
    (unsaid (BoundWord g.K.KeyText.says) _ _ (ThenBound g.K.KeyText.says g.K.KeyText.wanted Further _) (word_unsaid X.Bound (BoundWord g.K.KeyText.says) (bound_wanted g.K.KeyText.wanted) Further _ c.in_ok-expect-2.ensures.word) _ c.in_err-end.ensures.says c.in_err-end.ensures.names)

pub returns-in_err-end-2-clause-names : goal.returns-in_err-end-2-clause-names
returns-in_err-end-2-clause-names g c =
    plain_part_lacks (Further _) (LacksBounds g.K.KeyText.says g.K.KeyText.wanted c.args.words.now) (behind_end g.K.KeyText.says g.K.KeyText.wanted _ c.in_ok-expect.ensures.word c.in_ok-start.start c.in_ok-start.ensures.says c.in_ok-expect-2.ensures.word c.in_ok-end.end c.in_ok-end.ensures.says) _ _ c.from_residual-in_err-end-2.ensures.1 (further_left _ _ c.in_err-end-2.ensures.end)
