use Rattle.std.proofs.Common.{◌≡◌, refl, rules}
use Rattle.std.proofs.lemmas.Result.{IfOk-weaker}
use Rattle.desk.proofs.Making.{used_up}
use Rattle.desk.proofs.histories.History.close.Goals as goal

pub returns-clause-closes : goal.returns-clause-closes
returns-clause-closes g c =
    let given : c.as_slice.result.now ≡ c.args.self.now.outputs.items = search rules in
    IfOk-weaker c.close_with.result _ _
    (λ _ e. (e.0, e.1, used_up g.K.KeyKind.ranks c.args.ticket c.as_slice.result.now c.args.self.now.outputs.items _ c.args.self.now _ c.close_with.new.self e.0 refl refl refl refl given (search rules) e.2))
    c.close_with.ensures.closes
