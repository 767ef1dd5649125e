use Rattle.std.proofs.Common.{not, sym, ap, arith}
use Rattle.changes.proofs.Left.{weighed_all, weigh_yes, weigh_no, weigh_light}
use Rattle.changes.proofs.close.weigh_left.Goals as goal
use Rattle.changes.proofs.close.weigh_left.Goals.{then-not-contains, else-not-contains}

pub overflow_add-count : goal.overflow_add-count
overflow_add-count g c = omega (arith, c.loop-t.invariant.few)

pub overflow_add-bytes : goal.overflow_add-bytes
overflow_add-bytes g c =
    omega (arith, c.requires, weigh_light c.args.numbers.now c.args.tables.now c.loop-t.count c.loop-t.bytes c.loop-t.t-index c.loop-t.invariant c.t-item.result (omega arith) c.t-item.is (ap not (sym c.if-not-contains.ensures.value)))

pub loop-t-preserved : goal.loop-t-preserved
loop-t-preserved g c =
    elim c.if-not-contains.branch [
      | then-not-contains w ↦ rw (w.count-is, w.bytes-is) (weigh_yes c.args.numbers.now c.args.tables.now c.loop-t.count c.loop-t.bytes c.loop-t.t-index c.loop-t.invariant c.t-item.result (omega arith) c.t-item.is (ap not (sym w.if-not-contains.ensures.value)))
      | else-not-contains w ↦ rw (w.count-is, w.bytes-is) (weigh_no c.args.numbers.now c.args.tables.now c.loop-t.count c.loop-t.bytes c.loop-t.t-index c.loop-t.invariant c.t-item.result (omega arith) c.t-item.is (ap not (sym w.if-not-contains.ensures.value)))
    ]

pub returns-clause-count : goal.returns-clause-count
returns-clause-count g c = (weighed_all c.args.numbers.now c.args.tables.now c.loop-t.count c.loop-t.bytes c.loop-t.t-index c.loop-t.invariant (omega arith)).0

pub returns-clause-bytes : goal.returns-clause-bytes
returns-clause-bytes g c = (weighed_all c.args.numbers.now c.args.tables.now c.loop-t.count c.loop-t.bytes c.loop-t.t-index c.loop-t.invariant (omega arith)).1
