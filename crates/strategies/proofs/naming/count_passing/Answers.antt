use Rattle.std.proofs.Common.{sym, arith}
use Rattle.strategies.proofs.Limits.{limit_first, limit_yes, limit_not, limit_passed, limit_kept}
use Rattle.strategies.proofs.naming.count_passing.Goals as goal
use Rattle.strategies.proofs.naming.count_passing.Goals.{then-picks, else-picks}

pub loop-t-init : goal.loop-t-init
loop-t-init g c = limit_first (g.P.Picks.passes c.args.test.now) c.args.tables.now

pub returns-then-left-t : goal.returns-then-left-t
returns-then-left-t g c =
    limit_passed (g.P.Picks.passes c.args.test.now) c.args.tables.now c.loop-t.left c.loop-t.count c.loop-t.t-index
    c.t-item.result (omega arith) c.t-item.is c.loop-t.invariant (omega arith)

pub overflow_add-count : goal.overflow_add-count
overflow_add-count g c = omega (arith, c.loop-t.invariant.few)

pub loop-t-preserved : goal.loop-t-preserved
loop-t-preserved g c =
    let p = g.P.Picks.passes c.args.test.now in
    let ts = c.args.tables.now in
    let t = c.t-item.result in
    elim c.if-picks.branch [
      | then-picks w ↦ rw w.count-is (limit_yes p ts c.loop-t.left c.loop-t.count c.loop-t.t-index t (omega arith) c.t-item.is c.loop-t.invariant (omega arith) (sym w.if-picks.ensures))
      | else-picks w ↦ rw w.count-is (limit_not p ts c.loop-t.left c.loop-t.count c.loop-t.t-index t (omega arith) c.t-item.is c.loop-t.invariant (omega arith) (sym w.if-picks.ensures))
    ]

pub returns : goal.returns
returns g c = limit_kept (g.P.Picks.passes c.args.test.now) c.args.tables.now c.loop-t.left c.loop-t.count c.loop-t.t-index (omega arith) c.loop-t.invariant
