use Rattle.std.proofs.Common.{string_bytes, ap, ◌∙◌}
use Rattle.std.specs.Io.Iter.{lines_known_bytes}
use Rattle.desk.proofs.Script.{begun, goes_on, stops}
use Rattle.desk.proofs.lines.answer_all.Goals as goal

pub loop-text-init : goal.loop-text-init
loop-text-init g c =
    begun (g.R.Read.remaining c.args.script) c.new-desk.result (g.W.Write.contents c.args.writer.now) (lines_known_bytes g.R.Read.remaining c.into_iter-text-iterator.result) c.new-desk.ensures
    (ap (lines_known_bytes g.R.Read.remaining) c.into_iter-text-iterator.ensures.into_iter_gives ∙ c.lines-text-items.ensures)

pub loop-text-preserved : goal.loop-text-preserved
loop-text-preserved g c =
    let left = lines_known_bytes g.R.Read.remaining in
    let held = g.W.Write.contents in
    goes_on c.loop-text.desk (held c.args.writer.now) (held c.loop-text.writer) (held c.answer_line.new.writer) (left c.loop-text.text-iterator) (left c.next.new.self) c.loop-text.line c.saturating_add-line.result c.saturating_add-line.ensures string_bytes
    (g.R.Read.remaining c.args.script) c.in-Some.text c.answer_line.new.desk c.loop-text.invariant c.in-Some.ensures.steps.1 c.in_default.ensures.answers

pub returns-in-Err-clause-gives_up : goal.returns-in-Err-clause-gives_up
returns-in-Err-clause-gives_up g c =
    let left = lines_known_bytes g.R.Read.remaining in
    let held = g.W.Write.contents in
    stops c.loop-text.desk (held c.args.writer.now) (held c.loop-text.writer) (held c.answer_line.new.writer) (left c.loop-text.text-iterator) (left c.next.new.self) c.loop-text.line c.saturating_add-line.result c.saturating_add-line.ensures string_bytes
    (g.R.Read.remaining c.args.script) c.in-Some.text c.in-Err.cause c.loop-text.invariant c.in-Some.ensures.steps.1 c.in-Err.ensures.fails
