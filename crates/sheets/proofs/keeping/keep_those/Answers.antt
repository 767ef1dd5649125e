use Rattle.std.proofs.Common.{◌≡◌, Bool, sym, refl, ◌∙◌, arith}
use Rattle.std.proofs.lemmas.Fn.{says_at}
use Rattle.sheets.specs.Tests.{Tests}
use Rattle.sheets.proofs.Filtering.{filter_yes, filter_not}
use Rattle.sheets.proofs.keeping.keep_those.Goals as goal
use Rattle.sheets.proofs.keeping.keep_those.Goals.{then-test, else-test}

pub loop-i-preserved : goal.loop-i-preserved
loop-i-preserved g c =
    let xs = c.args.items.now in
    let x = c.index-items-i.result in
    let says : (p : g.row.T.Denot → Bool) → Tests g.F.Fn c.args.test p → p x ≡ c.test.result = λ p h. sym (h x c.test.result (says_at g.F.Fn c.test.ensures refl)) in
    elim c.if-test.branch [
      | then-test w ↦ rw (w.items-is, w.kept-is) (omega arith, λ p h. filter_yes p xs c.loop-i.items c.loop-i.kept c.loop-i.i (c.loop-i.invariant.1 p h) x (omega arith) c.index-items-i.is (says p h ∙ w.if-test.true))
      | else-test w ↦ rw (w.items-is, w.kept-is) (omega arith, λ p h. filter_not p xs c.loop-i.items c.loop-i.kept c.loop-i.i (c.loop-i.invariant.1 p h) x (omega arith) c.index-items-i.is (says p h ∙ w.if-test.false))
    ]
