use Rattle.std.proofs.Common.{◌≡◌, ◌++◌, string_bytes, refl, ap, ◌∙◌, inr, rules}
use Rattle.std.proofs.lemmas.Result.{IfOk-weaker}
use Rattle.reports.specs.Report.{refused_line}
use Rattle.desk.specs.Carrying.{IsRefused}
use Rattle.desk.proofs.Malformed.{unrefused, well_formed}
use Rattle.desk.proofs.desk.Desk.answer.Goals as goal

pub returns-in-Err-Refused-clause-answers : goal.returns-in-Err-Refused-clause-answers
returns-in-Err-Refused-clause-answers c =
    let r = c.in-Err-Refused.refusal in
    let kept : (c.carry_out.new.self ≡ c.args.self.now) × (string_bytes c.carry_out.new.out ≡ string_bytes c.args.out.now) × IsRefused c.args.line.now c.args.self.now r = search rules in
    IfOk-weaker c.write_refusal.result _ _
    (λ _ e. let line = refused_line r in inr (kept.0, (line, e ∙ ap (λ before. before ++ line) kept.1, (r, kept.2, refl))))
    c.write_refusal.ensures.line

pub returns-in-Err-Refused-clause-malformed : goal.returns-in-Err-Refused-clause-malformed
returns-in-Err-Refused-clause-malformed c = well_formed c.write_refusal.result _ c.write_refusal.ensures.fails

pub returns-in-Err-Refused-clause-unrefused : goal.returns-in-Err-Refused-clause-unrefused
returns-in-Err-Refused-clause-unrefused c = unrefused c.write_refusal.result _ c.write_refusal.ensures.fails
