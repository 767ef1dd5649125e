use Rattle.std.proofs.Common.{◌≡◌, ◌+◌, ◌<◌, ◌≤◌, false, ◌⊎◌, length, ◌∙◌, inl, inr, arith, rules}
use Rattle.std.proofs.lemmas.List.Sums.{count_by_more_yes, count_by_more_no}
use Rattle.runs.specs.Search.{Min, Max, Before, UpTo}
use Rattle.picks.proofs.Counts.{marked_at}
use Rattle.picks.proofs.Places.{place_found}
use Rattle.picks.proofs.Moves.{from_at, to_at, turn_stops, turn_runs, turn_keeps, turn_takes, found_all}
use Rattle.picks.proofs.marked_run.MarkedRun.longest_movable.Goals as goal
use Rattle.picks.proofs.marked_run.MarkedRun.longest_movable.Goals.{then-gap-before, else-gap-before, then-before-upto, else-before-upto}

pub loop-i-preserved : goal.loop-i-preserved
loop-i-preserved g c =
    let cmp = g.T.Key.KeyKind.ranks in
    let spans = g.T.Ranged.spans in
    let named = g.T.TableFile.named in
    let laws = g.met.T.Key.KeyKind.total in
    let curr = c.args.self.now.level.run.tables.now in
    let next = c.args.next.now.tables.now in
    let curr_ok = c.args.self.now.level.run.sorted in
    let next_ok = c.args.next.now.sorted in
    let marks = c.args.self.now.marks in
    let i = c.loop-i.i in
    let t = c.table-item.result in
    let h : i < length curr = c.loop-i-test.true in
    let k : i < length marks = search rules in
    let from_is : c.ended_before-before.result ≡ from_at cmp spans curr next i =
    place_found laws spans Min Max Before next curr i t c.key_range-range.result.now c.ended_before-before.result h c.table-item.is c.key_range-range.ensures c.ended_before-before.ensures.count in
    let to_is : c.begun_by-upto.result ≡ to_at cmp spans curr next i =
    place_found laws spans Max Min UpTo next curr i t c.key_range-range.result.now c.begun_by-upto.result h c.table-item.is c.key_range-range.ensures c.begun_by-upto.ensures.count in
    let old = c.loop-i.invariant.0 in
    let best = c.loop-i.invariant.1 in
    let A = from_at cmp spans curr next i in
    let way : ((c.loop-i.gap < A) × ((c.if-gap-before.from ≡ i) × (c.if-gap-before.gap ≡ A))) ⊎ ((A ≤ c.loop-i.gap) × ((c.if-gap-before.from ≡ c.loop-i.from) × (c.if-gap-before.gap ≡ c.loop-i.gap))) =
    elim c.if-gap-before.branch [
      | then-gap-before w ↦ inl (omega (arith, w.if-gap-before.true, from_is), (w.from-is, w.gap-is ∙ from_is))
      | else-gap-before w ↦ inr (omega (arith, w.if-gap-before.false, from_is), (w.from-is, w.gap-is))
    ] in
    let under : c.if-gap-before.gap ≤ A = elim way [ inl w ↦ omega (arith, w.1.1) | inr w ↦ omega (arith, w.1.1, old.under) ] in
    elim c.if-before-upto.branch [
      | then-before-upto w ↦
          let why : (marked_at marks i < marked_at marks (i + 1)) ⊎ (A < to_at cmp spans curr next i) =
          elim w.if-before-upto.either [
            | inl e ↦ inl (omega (arith, count_by_more_yes (λ m. m) marks i false k e))
            | inr e ↦ inr (omega (arith, from_is, to_is, e))
          ] in
          let new = turn_stops laws spans curr next curr_ok next_ok marks i c.loop-i.from c.loop-i.gap old why c.if-gap-before.gap under in
          rw w.from-is (rw w.best-is (new, λ hs m. turn_keeps laws spans curr next curr_ok next_ok marks named hs m i h (i + 1) c.if-gap-before.gap new c.loop-i.best (best hs m) (omega arith)))
      | else-before-upto w ↦
          let free = count_by_more_no (λ m. m) marks i false k w.if-before-upto.false.0 in
          let clear : to_at cmp spans curr next i ≤ A = omega (arith, from_is, to_is, w.if-before-upto.false.1) in
          let new = turn_runs laws spans curr next curr_ok next_ok marks i c.loop-i.from c.loop-i.gap old (omega (arith, free)) clear c.if-gap-before.from c.if-gap-before.gap way in
          let low : c.if-gap-before.from ≤ i = elim way [ inl x ↦ omega (arith, x.1.0) | inr x ↦ omega (arith, x.1.0, old.low) ] in
          rw w.from-is (rw (w.best-is ∙ w.longer-best.ensures) (
            new,
            λ hs m. turn_takes laws spans curr next curr_ok next_ok marks named hs m i h c.if-gap-before.from c.if-gap-before.gap new c.loop-i.best (best hs m) low,
          ))
    ]

pub returns : goal.returns
returns g c =
    λ hs m. found_all g.T.Key.KeyKind.ranks g.T.Ranged.spans g.T.TableFile.named hs c.args.self.now.level.run.tables.now c.args.next.now.tables.now c.loop-i.i c.loop-i.best (omega arith) (c.loop-i.invariant.1 hs m)
