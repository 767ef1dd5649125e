use Rattle.std.proofs.Common.{sym, ap, ◌∙◌, arith}
use Rattle.std.proofs.lemmas.List.{drop_all}
use Rattle.std.proofs.lemmas.Bool.Decides.{nat_tests}
use Rattle.sheets.specs.Sound.{counts_on}
use Rattle.sheets.proofs.Levels.{counts_at}
use Rattle.sheets.proofs.sound.runs_count_on.Goals as goal
use Rattle.sheets.proofs.sound.runs_count_on.Goals.{then-t-gt0+else-run-gt0, else-t-gt0+then-run-counted, else-t-gt0+else-run-counted+else-run-counted-2}

pub returns-then-run-gt0 : goal.returns-then-run-gt0
returns-then-run-gt0 g c =
    let here = counts_at c.loop-t.counted c.args.tables.now c.loop-t.t-index c.t-item.result (omega arith) c.t-item.is in
    grind (arith, nat_tests, here)

pub returns-then-run-counted-2 : goal.returns-then-run-counted-2
returns-then-run-counted-2 g c =
    let here = counts_at c.loop-t.counted c.args.tables.now c.loop-t.t-index c.t-item.result (omega arith) c.t-item.is in
    grind (arith, nat_tests, here)

pub loop-t-preserved : goal.loop-t-preserved
loop-t-preserved g c =
    let here = counts_at c.loop-t.counted c.args.tables.now c.loop-t.t-index c.t-item.result (omega arith) c.t-item.is in
    elim c.if-t-gt0.branch [
      | then-t-gt0+else-run-gt0 w ↦ rw w.counted-is (grind (arith, nat_tests, here), omega arith)
      | else-t-gt0+then-run-counted w ↦ rw w.counted-is (grind (arith, nat_tests, here), omega arith)
      | else-t-gt0+else-run-counted+else-run-counted-2 w ↦ rw w.counted-is (grind (arith, nat_tests, here), omega arith)
    ]

pub returns : goal.returns
returns g c = sym (ap (counts_on c.loop-t.counted) (drop_all c.loop-t.t-index c.args.tables.now (omega arith))) ∙ c.loop-t.invariant.0
