use Rattle.std.proofs.Common.{refl, rules}
use Rattle.std.proofs.lemmas.Fn.{always_returns_same}
use Rattle.sheets.specs.Sound.{ahead, in_order}
use Rattle.runs.proofs.Neighbours.{neighbours_are}
use Rattle.sheets.proofs.sound.are_in_order.Goals as goal

pub returns : goal.returns
returns g c =
    let cmp = g.K.KeyKind.ranks in
    neighbours_are (ahead cmp) (in_order cmp) refl (λ t. refl) (λ t u us. refl) c.args.tables.now c.is_sorted_by.result
    (c.is_sorted_by.ensures.cases (ahead cmp) (always_returns_same _ _ _ (λ a r f' k. search rules)))
