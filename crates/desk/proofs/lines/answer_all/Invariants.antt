use Rattle.std.specs.Prelude.{IfSome}
use Rattle.std.specs.Io.Iter.{lines_known_bytes}
use Rattle.desk.proofs.Script.{SoFar}
use Rattle.desk.proofs.lines.answer_all.Given as goal

abbrev pub invariant-loop-text : goal.invariant-loop-text
invariant-loop-text g l =
    IfSome (g.R.Read.remaining l.fn.script) (λ script. SoFar script l.desk (g.W.Write.contents l.initial.writer) (g.W.Write.contents l.writer) (lines_known_bytes g.R.Read.remaining l.text-iterator) l.line)
