use Rattle.std.proofs.Common.{◌||◌, ◌+◌, true, false, take, sym, ap, ◌∙◌, arith}
use Rattle.std.specs.List.{list_any}
use Rattle.std.proofs.lemmas.List.{take_all}
use Rattle.std.proofs.lemmas.List.Sums.{sum_by_more, sum_by-take-le}
use Rattle.sheets.specs.Level.{size_of}
use Rattle.sheets.specs.Tables.{named, without}
use Rattle.sheets.proofs.Levels.{without_less, free_more}
use Rattle.leveled.proofs.Surveys.{some_more}
use Rattle.leveled.proofs.holding.hold.Goals as goal
use Rattle.leveled.proofs.holding.hold.Goals.{then-is_hidden, else-is_hidden}

pub overflow_add-free_bytes : goal.overflow_add-free_bytes
overflow_add-free_bytes g c =
    let ts = c.args.tables.now in
    let i = c.loop-t.t-index in
    omega (
      arith,
      sum_by_more (λ u. u.size) ts i c.t-item.result (omega arith),
      sum_by-take-le (λ u. u.size) ts (i + 1),
      ap (λ u. u.size) c.t-item.is,
      without_less c.args.hidden_set.now (take i ts),
    )

pub loop-t-preserved : goal.loop-t-preserved
loop-t-preserved g c =
    let hs = c.args.hidden_set.now in
    let ts = c.args.tables.now in
    let i = c.loop-t.t-index in
    let free = free_more hs ts i c.t-item.result (omega arith) c.t-item.is in
    let busy = some_more (named hs) ts i c.t-item.result (omega arith) c.t-item.is in
    elim c.if-is_hidden.branch [
      | then-is_hidden w ↦
          let e = w.if-is_hidden.ensures in
          (w.free_bytes-is ∙ omega (arith, free true (sym e)), w.is_busy-is ∙ ap (λ b. b || list_any (named hs) (take i ts)) e ∙ sym busy)
      | else-is_hidden w ↦
          let e = w.if-is_hidden.ensures in
          (omega (arith, w.free_bytes-is, free false (sym e)), w.is_busy-is ∙ c.loop-t.invariant.1 ∙ ap (λ b. b || list_any (named hs) (take i ts)) e ∙ sym busy)
    ]

pub returns : goal.returns
returns g c =
    let hs = c.args.hidden_set.now in
    let ts = c.args.tables.now in
    let all = take_all c.loop-t.t-index ts (omega arith) in
    let free = c.loop-t.invariant.0 ∙ ap (λ us. size_of (without hs us)) all in
    let busy = c.loop-t.invariant.1 ∙ ap (list_any (named hs)) all in
    cc
