use Rattle.std.proofs.Common.{◌∙◌, refl, rules, tests, arith}
use Rattle.std.proofs.lemmas.Iterator.{YieldsList-from_range}
use Rattle.std.proofs.lemmas.Iterator.Search.{find_from_yields_List}
use Rattle.sheets.specs.Level.{filled}
use Rattle.leveled.specs.Laws.{first_filled_range}
use Rattle.leveled.specs.Survey.{set_to, standing, hides}
use Rattle.leveled.proofs.FirstLevels.{first_found}
use Rattle.leveled.proofs.survey.Survey.first_non_empty_level.Goals as goal

pub invariant_of-result : goal.invariant_of-result
invariant_of-result g c =
    let v = c.args.self.now in
    let within = first_filled_range (set_to v) (standing v) (hides v) in
    let is =
    c.unwrap_or-n.ensures ∙ first_found (standing v) c.find.result (find_from_yields_List (filled (standing v)) _ _ c.find.result c.find.ensures.ran (YieldsList-from_range 1 6 _ refl refl) (λ x b q k. search (rules, tests))) in
    record { within = (omega (arith, is, within), omega (arith, is, within)) }

pub returns : goal.returns
returns g c =
    let v = c.args.self.now in
    c.unwrap_or-n.ensures ∙ first_found (standing v) c.find.result (find_from_yields_List (filled (standing v)) _ _ c.find.result c.find.ensures.ran (YieldsList-from_range 1 6 _ refl refl) (λ x b q k. search (rules, tests)))
