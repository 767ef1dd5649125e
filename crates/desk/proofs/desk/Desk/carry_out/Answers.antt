use Rattle.std.proofs.Common.{rules, [], sym, refl, ap, ◌∙◌, subst, append-nil}
use Rattle.texts.specs.declared.fault.Expected.TheVariants.{Keys}
use Rattle.scripts.specs.declared.command.Line.TheVariants as L
use Rattle.desk.specs.declared.desk.Desk.TheVariants.{Stops, Bytes}
use Rattle.desk.specs.Malformed.{MalformedLine, turned_down}
use Rattle.desk.proofs.Malformed.{unread, malformed_weaker}
use Rattle.desk.proofs.desk.Desk.carry_out.Goals as goal

pub returns-in-Keys-clause-does : goal.returns-in-Keys-clause-does
returns-in-Keys-clause-does c = ([], sym (append-nil _), record { said = L.Keys c.in-Keys.name; reads = search rules; does = (c.start.ensures, refl) })

pub returns-in_err-read-clause-malformed : goal.returns-in_err-read-clause-malformed
returns-in_err-read-clause-malformed c = unread c.args.line.now _ c.args.self.now c.from_residual.result c.in_err-read.field-0.0 c.from_residual.ensures.1 c.in_err-read.ensures.says

pub returns-in-Empty-clause-malformed : goal.returns-in-Empty-clause-malformed
returns-in-Empty-clause-malformed c =
    (refl, refl, turned_down (L.Call c.in-Call.word c.in-Call.words) (search rules) (subst (λ d. MalformedLine (L.Call c.in-Call.word c.in-Call.words) d Keys) (sym c.in-Empty.is) refl))

pub returns-in-Stops-clause-malformed : goal.returns-in-Stops-clause-malformed
returns-in-Stops-clause-malformed c =
    malformed_weaker c.answer.result _ _
    (λ expected e. (
      ap Stops e.0 ∙ sym c.in-Stops.is,
      e.1,
      turned_down (L.Call c.in-Call.word c.in-Call.words) (search rules) (subst (λ d. MalformedLine (L.Call c.in-Call.word c.in-Call.words) d expected) (sym c.in-Stops.is) e.2),
    ))
    c.answer.ensures.malformed

pub returns-in-Bytes-clause-malformed : goal.returns-in-Bytes-clause-malformed
returns-in-Bytes-clause-malformed c =
    malformed_weaker c.answer-in-Bytes.result _ _
    (λ expected e. (
      ap Bytes e.0 ∙ sym c.in-Bytes.is,
      e.1,
      turned_down (L.Call c.in-Call.word c.in-Call.words) (search rules) (subst (λ d. MalformedLine (L.Call c.in-Call.word c.in-Call.words) d expected) (sym c.in-Bytes.is) e.2),
    ))
    c.answer-in-Bytes.ensures.malformed
