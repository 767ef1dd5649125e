use Rattle.std.proofs.Common.{◌++◌, string_bytes, append-nil, sym, ap, ◌∙◌}
use Rattle.std.proofs.lemmas.Result.{IfOk-weaker}
use Rattle.slots.specs.View.{slot}
use Rattle.jobs.proofs.Places.{none_found, place_found}
use Rattle.desk.specs.Show.{line_of_job}
use Rattle.desk.proofs.show.write_known.Goals as goal

pub returns-in-None-clause-line : goal.returns-in-None-clause-line
returns-in-None-clause-line c =
    sym (append-nil (string_bytes c.args.out.now)) ∙ ap (λ o. string_bytes c.args.out.now ++ line_of_job c.args.ticket o) (sym (none_found c.args.ticket c.args.jobs.now (sym c.place_of.ensures ∙ c.in-None.is)))

pub returns-in-Some-clause-line : goal.returns-in-Some-clause-line
returns-in-Some-clause-line c =
    IfOk-weaker c.write_slot.result _ _
    (λ _ e. e ∙ ap (λ o. string_bytes c.args.out.now ++ line_of_job c.args.ticket o) (ap slot c.index-jobs-place.is ∙ sym (place_found c.args.ticket c.args.jobs.now c.place_of.result c.place_of.ensures c.in-Some.place c.in-Some.is c.index-jobs-place.result)))
    c.write_slot.ensures.line
