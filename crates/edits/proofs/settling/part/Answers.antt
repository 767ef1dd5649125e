use Rattle.std.proofs.Common.{◌≡◌, not, get_or, sym, ap, ◌∙◌, arith}
use Rattle.std.proofs.lemmas.List.{get_or_default}
use Rattle.sheets.proofs.Laid.{turned_in}
use Rattle.edits.proofs.Parting.{parting_named, parting_unnamed}
use Rattle.edits.proofs.settling.part.Goals as goal
use Rattle.edits.proofs.settling.part.Goals.{then-not-contains, else-not-contains}

pub loop-i-preserved : goal.loop-i-preserved
loop-i-preserved g c =
    let ns = c.args.numbers.now in
    let xs = c.args.sheet.now in
    let ys = c.loop-i.sheet in
    let left = c.loop-i.left in
    let i = c.loop-i.i in
    let x = get_or ys i c.index-sheet-i.result in
    let read : x ≡ get_or ys i x = get_or_default ys i c.index-sheet-i.result x (omega arith) in
    let found = c.contains.ensures.value in
    elim c.if-not-contains.branch [
      | then-not-contains w ↦
          rw (w.sheet-is, w.left-is) (parting_unnamed ns xs ys left i c.loop-i.invariant x (omega arith) read _ (ap not (sym found ∙ w.if-not-contains.true))
          (turned_in ys w.rotate_right.new.self left i _ x (omega (arith, c.loop-i.invariant.behind)) (omega arith) (omega arith) read w.rotate_right.ensures.after))
      | else-not-contains w ↦ rw (w.sheet-is, w.left-is) (parting_named ns xs ys left i c.loop-i.invariant x (omega arith) read (ap not (sym found ∙ w.if-not-contains.false)))
    ]
