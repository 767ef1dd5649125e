use Rattle.std.proofs.Common.{sym, ◌∙◌}
use Rattle.texts.specs.KeyText.{StopWord}
use Rattle.texts.proofs.Readings.{malformed}
use Rattle.texts.proofs.Stops.{no_colon, no_tour, no_stop}
use Rattle.texts.proofs.key_text.StopKeyKeyText.read_key.Goals as goal

pub returns-in_err-before-clause-says : goal.returns-in_err-before-clause-says
returns-in_err-before-clause-says c =
    let none = c.in_err-before.ensures in
    malformed StopWord c.args.word.now _ _ _ _ c.from_residual.ensures.1 none.ok_part none.value (no_colon _ _ c.split_once.ensures.cases none.ok_part)

pub returns-in_err-tour-clause-says : goal.returns-in_err-tour-clause-says
returns-in_err-tour-clause-says c =
    let none = c.in_err-tour.ensures in
    malformed StopWord c.args.word.now _ _ _ _ c.from_residual-in_err-tour.ensures.1 none.ok_part none.value
    (no_tour _ _ c.split_once.ensures.cases _ c.in_ok-before.ensures.ok_part (sym c.decimal.ensures ∙ none.ok_part))

pub returns-in_err-stop-clause-says : goal.returns-in_err-stop-clause-says
returns-in_err-stop-clause-says c =
    let none = c.in_err-stop.ensures in
    malformed StopWord c.args.word.now _ _ _ _ c.from_residual-in_err-stop.ensures.1 none.ok_part none.value
    (no_stop _ _ c.split_once.ensures.cases _ c.in_ok-before.ensures.ok_part (sym c.decimal-2.ensures ∙ none.ok_part))
