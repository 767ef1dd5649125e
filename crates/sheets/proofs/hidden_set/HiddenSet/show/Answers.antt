use Rattle.std.proofs.Common.{ap, ◌∙◌, take, rules}
use Rattle.sheets.specs.HiddenSet.{showing}
use Rattle.sheets.proofs.Laid.{take_laid}
use Rattle.sheets.proofs.hidden_set.HiddenSet.show.Goals as goal

pub returns : goal.returns
returns c =
    let kept = c.keep_those-self-inside in
    let set = c.self.inside in
    ap (take kept.result) (kept.ensures.items _ (λ n b h. search rules))
    ∙ take_laid (showing c.args.ids.now (take set.count set.ids)) set.ids kept.result (kept.ensures.count _ (λ n b h. search rules))
    ∙ ap (showing c.args.ids.now) c.self.view_is
