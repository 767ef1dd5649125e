use Rattle.std.proofs.Common.{◌≡◌, ◌<◌, ◌++◌, length, get_or, take, drop, ap, ◌∙◌, arith, eq-eqb, ne_eqb, sym}
use Rattle.std.proofs.lemmas.List.{get_or_default, length-take-le, set-get_or}
use Rattle.sheets.specs.Recount.{old_run, next_run, counting}
use Rattle.edits.proofs.Recounting.{recount_keep, recount_new, recount_all, length_counting}
use Rattle.edits.proofs.recount.recount.Goals as goal
use Rattle.edits.proofs.recount.recount.Goals.{then-t-eq0, else-t-eq0}

pub counted_run-run-requires : goal.counted_run-run-requires
counted_run-run-requires g c = omega (arith, c.loop-t.invariant.few, length-take-le c.args.count c.args.sheet.now (omega arith))

pub loop-t-preserved : goal.loop-t-preserved
loop-t-preserved g c =
    let xs = take c.args.count c.args.sheet.now in
    let ys = c.loop-t.t-items in
    let i = c.loop-t.t-index in
    let t = get_or ys i c.t-item.result in
    let lt : i < length xs = omega arith in
    let read : t ≡ get_or ys i t = get_or_default ys i c.t-item.result t (omega arith) in
    elim c.if-t-eq0.branch [
      | then-t-eq0 w ↦ rw (w.t-items-is, w.last-is, w.counted_run-run.ensures) (recount_new xs ys (old_run c.loop-t.last) (next_run c.loop-t.last) i c.loop-t.invariant c.loop-t.auto.t-items t lt read (eq-eqb t.level 0 w.if-t-eq0.true))
      | else-t-eq0 w ↦ rw (w.t-items-is, w.last-is, set-get_or ys i c.t-item.result) (recount_keep xs ys (old_run c.loop-t.last) (next_run c.loop-t.last) i c.loop-t.invariant c.loop-t.auto.t-items t lt read (ne_eqb t.level 0 w.if-t-eq0.false))
    ]

pub returns : goal.returns
returns g c =
    let s = c.args.sheet.now in
    let n = c.args.count in
    let xs = take n s in
    let long = length-take-le n s (omega arith) in
    ap (λ l. l ++ drop n s) (recount_all xs c.loop-t.t-items (old_run c.loop-t.last) (next_run c.loop-t.last) c.loop-t.t-index c.loop-t.invariant c.loop-t.auto.t-items (omega arith))
    ∙ ap (λ k. counting 0 0 xs ++ drop k s) (sym (length_counting xs 0 0 ∙ long))
