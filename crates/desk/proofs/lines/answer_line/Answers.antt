use Rattle.std.proofs.Common.{string_bytes, sym, subst}
use Rattle.std.specs.Result.{IsOkAnd}
use Rattle.std.specs.Io.KnownBytes.{Keeps}
use Rattle.desk.specs.Lines.{IsAtFault}
use Rattle.desk.proofs.Script.{failed_for, at_fault, keeps}
use Rattle.desk.proofs.lines.answer_line.Goals as goal

pub returns-in_err-answer-clause-fails : goal.returns-in_err-answer-clause-fails
returns-in_err-answer-clause-fails g c =
    let held = g.W.Write.contents c.args.writer.now in
    let f = c.in_err-answer.field-0.0 in
    let unanswered = at_fault f c.as_str.result.now c.args.desk.now _ _ c.in_err-answer.ensures.malformed c.in_err-answer.ensures.unrefused in
    let fails : IsAtFault f (string_bytes c.in_ok-line.field-0) c.args.desk.now = subst (λ l. IsAtFault f l c.args.desk.now) c.as_str.ensures.value unanswered in
    failed_for c.from_residual-in_err-answer.result f (λ fault. IsOkAnd c.args.line (λ text. IsAtFault fault (string_bytes text) c.args.desk.now × Keeps held held)) c.from_residual-in_err-answer.ensures.1
    (subst (λ l. IsOkAnd l (λ text. IsAtFault f (string_bytes text) c.args.desk.now × Keeps held held)) (sym c.in_ok-line.was) (fails, keeps held))
