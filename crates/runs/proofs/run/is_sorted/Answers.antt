use Rattle.std.proofs.Common.{◌≡◌, true, ◌&&◌, ap, ◌∙◌, rules}
use Rattle.std.proofs.lemmas.Fn.{always_returns_same}
use Rattle.runs.proofs.Sorteds.{leads, begins_well, follow, sorted_parts, neighbours_follow}
use Rattle.runs.proofs.run.is_sorted.Goals as goal

pub returns-then-is_none_or : goal.returns-then-is_none_or
returns-then-is_none_or g c =
    let cmp = g.T.Key.KeyKind.ranks in
    let spans = g.T.Ranged.spans in
    let ts = c.args.tables.now in
    let first : true ≡ begins_well cmp spans ts = search rules in
    neighbours_follow cmp spans ts c.is_sorted_by.result (c.is_sorted_by.ensures.cases (leads cmp spans) (always_returns_same _ _ _ (λ a r f' k. search rules)))
    ∙ ap (λ b. b && follow cmp spans ts) first
    ∙ sorted_parts cmp spans ts
