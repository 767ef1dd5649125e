use Rattle.std.proofs.Common.{rules, ◌∙◌, filter}
use Rattle.std.proofs.lemmas.Iterator.{YieldsList-from_slice, YieldsList-from_map}
use Rattle.std.proofs.lemmas.Iterator.Consumers.{YieldsList-at, YieldsList-from_filter}
use borrow.Author.Tests.{tests}
use Rattle.keys.specs.KeyRange.{wider}
use Rattle.sheets.specs.Tables.{named}
use Rattle.edits.proofs.Reducing.{reduce_by, span_reduced}
use Rattle.edits.proofs.records.span_held.Goals as goal

pub returns : goal.returns
returns g c =
    let cmp = g.K.KeyKind.ranks in
    let p = named c.args.numbers.now in
    reduce_by _ (wider cmp) _ (λ a x b q k. search rules) c.reduce.result c.reduce.ensures.ran
    (YieldsList-from_map _ (λ t. t.range) (YieldsList-at c.map.ensures.source (YieldsList-from_filter _ p (YieldsList-at c.filter.ensures.source (YieldsList-from_slice c.args.tables.now (cc))) c.filter.ensures.closure (λ x b q k. search (rules, tests)))) c.map.ensures.closure (λ x r q k. search rules))
    ∙ span_reduced cmp (λ t. t.range) (filter p c.args.tables.now)
