use Rattle.std.proofs.Common.{◌^◌, ◌≤◌, length, sum_by, sym, ap, ◌∙◌, arith, rules}
use Rattle.windows.specs.declared.slice_windows.Order.TheVariants.{Growing, Shrinking}
use Rattle.windows.specs.Cursor.{standing, in_order}
use Rattle.windows.proofs.Behind.{standing_shrinking}
use Rattle.windows.proofs.WindowSums.{opens}
use Rattle.windows.proofs.slice_windows.cursor.windows.Goals as goal
use Rattle.windows.proofs.slice_windows.cursor.windows.Goals.{in-Growing, in-Shrinking}

pub returns-clause-all : goal.returns-clause-all
returns-clause-all g c =
    let n = length c.args.tables.now in
    elim c.match-order.branch [
      | in-Growing w ↦
          ap (λ o. standing o n c.match-order.next) w.in-Growing.is ∙ ap (standing Growing n) w.next-is ∙ w.first_alone-next.ensures.windows ∙ sym (ap (λ o. in_order o n) w.in-Growing.is)
      | in-Shrinking w ↦
          ap (λ o. standing o n c.match-order.next) w.in-Shrinking.is ∙ ap (standing Shrinking n) (w.next-is ∙ w.leftmost-next.ensures)
          ∙ standing_shrinking n n _ (omega arith) ∙ sym (ap (λ o. in_order o n) w.in-Shrinking.is)
    ]

pub returns-clause-answer : goal.returns-clause-answer
returns-clause-answer g c =
    let f = g.T.TableFile.bytes in
    let ts = c.args.tables.now in
    let small : sum_by f ts ≤ 2 ^ 53 = search rules in
    opens f ts _ _ small (returns-clause-all g c)
