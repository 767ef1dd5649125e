use Rattle.std.proofs.Common.{refl, ◌∙◌, rules, tests}
use Rattle.std.proofs.lemmas.Iterator.{YieldsList-from_range}
use Rattle.std.proofs.lemmas.Iterator.Search.{all_from_yields_List}
use Rattle.leveled.specs.Leveled.{overfull}
use Rattle.leveled.specs.Survey.{set_to, standing, hides}
use Rattle.leveled.proofs.FirstLevels.{all_first}
use Rattle.leveled.proofs.survey.Survey.are_overfull.Goals as goal

pub returns : goal.returns
returns g c =
    let v = c.args.self.now in
    let l = c.args.first.n in
    all_from_yields_List (overfull (set_to v) (standing v) (hides v) l) _ _ _ c.all.ensures.ran (YieldsList-from_range l 7 _ refl refl) (λ x b q k. search (rules, tests))
    ∙ all_first (set_to v) (standing v) (hides v) l c.requires c.args.first.within.0 c.args.first.within.1
