use Rattle.std.proofs.Common.{rules, ◌∷◌, ap, ◌∙◌, refl}
use Rattle.std.proofs.lemmas.Result.{IfErr-weaker}
use Rattle.texts.specs.declared.field.Field.TheVariants as F
use Rattle.texts.specs.Lacking.{Names}
use Rattle.texts.specs.Reading.{Plain, By}
use Rattle.standard.specs.declared.standard.Settings.TheVariants.{DropRange}
use Rattle.scripts.specs.Strategy.{SaysLeveled, SaysFifo, SaysMajor, SaysBounds, SaysStrategy}
use Rattle.scripts.proofs.Readers.{through, whole, mapped}
use Rattle.scripts.proofs.Strategies.{leveled_there, fifo_there, major_there, bounds_there, drop_range}
use Rattle.texts.proofs.Readings.{named_by, part_lacks, plain_part_lacks}
use Rattle.scripts.specs.Lacking.{LacksNumber, LacksLeveled, LacksFifo, LacksBounds, LacksStrategy, of_leveled, of_fifo, of_major, of_drop_range, no_strategy}
use Rattle.scripts.proofs.Lackings.{mapped_lacks}
use Rattle.scripts.proofs.strategy.read_strategy.Goals as goal

pub returns-in_err-read_leveled-in-leveled-clause-says : goal.returns-in_err-read_leveled-in-leveled-clause-says
returns-in_err-read_leveled-in-leveled-clause-says g c =
    through (Plain (SaysLeveled c.expect.new.self)) (SaysStrategy g.K.KeyText.says c.args.words.now) _ _ c.from_residual-in_err-read_leveled-in-leveled.ensures.1 c.in_err-read_leveled-in-leveled.ensures.says
    (leveled_there g.K.KeyText.says _ c.in_ok-expect.ensures.word c.in-leveled.is) (λ refusal h. absurd h)

pub returns-in_err-read_fifo-in-fifo-clause-says : goal.returns-in_err-read_fifo-in-fifo-clause-says
returns-in_err-read_fifo-in-fifo-clause-says g c =
    through (Plain (SaysFifo c.expect.new.self)) (SaysStrategy g.K.KeyText.says c.args.words.now) _ _ c.from_residual-in_err-read_fifo-in-fifo.ensures.1 c.in_err-read_fifo-in-fifo.ensures.says
    (fifo_there g.K.KeyText.says _ c.in_ok-expect.ensures.word c.in-fifo.is) (λ refusal h. absurd h)

pub returns-in_err-read_major-in-major-clause-says : goal.returns-in_err-read_major-in-major-clause-says
returns-in_err-read_major-in-major-clause-says g c =
    through (Plain (SaysMajor c.expect.new.self)) (SaysStrategy g.K.KeyText.says c.args.words.now) _ _ c.from_residual-in_err-read_major-in-major.ensures.1 c.in_err-read_major-in-major.ensures.says
    (major_there g.K.KeyText.says _ c.in_ok-expect.ensures.word c.in-major.is) (λ refusal h. absurd h)

pub returns-in-text-clause-says : goal.returns-in-text-clause-says
returns-in-text-clause-says g c =
    whole (By DropRange (SaysBounds g.K.KeyText.says c.expect.new.self)) _ _ (mapped DropRange (SaysBounds g.K.KeyText.says c.expect.new.self) _ _ c.map.ensures.cases (λ s t h. search rules) c.read_bounds.ensures.says)
    (drop_range g.K.KeyText.says _ c.in_ok-expect.ensures.word c.in-text.is) (bounds_there g.K.KeyText.says _ c.in_ok-expect.ensures.word c.in-text.is)

pub returns-in_err-read_leveled-in-leveled-clause-names : goal.returns-in_err-read_leveled-in-leveled-clause-names
returns-in_err-read_leveled-in-leveled-clause-names g c =
    part_lacks (LacksLeveled c.expect.new.self) (LacksStrategy g.K.KeyText.says g.K.KeyText.wanted c.args.words.now) (λ x h. of_leveled c.expect.new.self (c.in_ok-expect.ensures.word ∙ ap (λ w. w ∷ c.expect.new.self) c.in-leveled.is) h) _ _
    c.from_residual-in_err-read_leveled-in-leveled.ensures.1 c.in_err-read_leveled-in-leveled.ensures.names

pub returns-in_err-read_fifo-in-fifo-clause-names : goal.returns-in_err-read_fifo-in-fifo-clause-names
returns-in_err-read_fifo-in-fifo-clause-names g c =
    plain_part_lacks (LacksFifo c.expect.new.self) (LacksStrategy g.K.KeyText.says g.K.KeyText.wanted c.args.words.now) (λ x h. of_fifo c.expect.new.self (c.in_ok-expect.ensures.word ∙ ap (λ w. w ∷ c.expect.new.self) c.in-fifo.is) h) _ _
    c.from_residual-in_err-read_fifo-in-fifo.ensures.1 c.in_err-read_fifo-in-fifo.ensures.names

pub returns-in_err-read_major-in-major-clause-names : goal.returns-in_err-read_major-in-major-clause-names
returns-in_err-read_major-in-major-clause-names g c =
    plain_part_lacks (LacksNumber F.Target c.expect.new.self) (LacksStrategy g.K.KeyText.says g.K.KeyText.wanted c.args.words.now) (λ x h. of_major c.expect.new.self (c.in_ok-expect.ensures.word ∙ ap (λ w. w ∷ c.expect.new.self) c.in-major.is) h) _ _
    c.from_residual-in_err-read_major-in-major.ensures.1 c.in_err-read_major-in-major.ensures.names

pub returns-in-text-clause-names : goal.returns-in-text-clause-names
returns-in-text-clause-names g c =
    let part = LacksBounds g.K.KeyText.says g.K.KeyText.wanted c.expect.new.self in
    let lacks = LacksStrategy g.K.KeyText.says g.K.KeyText.wanted c.args.words.now in
    IfErr-weaker c.map.result (Names part) (Names lacks) (named_by part lacks (λ x h. of_drop_range c.expect.new.self (c.in_ok-expect.ensures.word ∙ ap (λ w. w ∷ c.expect.new.self) c.in-text.is) h))
    (mapped_lacks (Names part) _ _ _ c.map.ensures.cases c.read_bounds.ensures.names)

pub returns-in_default-clause-names : goal.returns-in_default-clause-names
returns-in_default-clause-names g c = no_strategy _ c.expect.new.self c.in_ok-expect.ensures.word (search rules) (search rules) (search rules) (search rules) refl
