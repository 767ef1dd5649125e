use Rattle.std.proofs.Common.{◌≡◌, ℕ, ◌+◌, ◌<◌, ◌≤◌, ◌⊎◌, length, sym, refl, ap, ◌∙◌, subst, inl, inr, arith}
use Rattle.runs.specs.Search.{Max, UpTo}
use Rattle.picks.specs.declared.edges.Edge.{Edge}
use Rattle.picks.specs.declared.fronts.Front.{Front}
use Rattle.picks.specs.Edges.{right_of, left_of, Light}
use Rattle.picks.specs.Fronts.{front}
use Rattle.picks.proofs.Places.{place_found}
use Rattle.picks.proofs.Turns.{ended_last, ended_mono, light_more}
use Rattle.picks.proofs.edges.Levels.right_edge.Goals as goal
use Rattle.picks.proofs.edges.Levels.right_edge.Goals.{then-end-left, else-end-left+then-end-next}

pub advanced-high-requires-clause-behind : goal.advanced-high-requires-clause-behind
advanced-high-requires-clause-behind g c =
    let cmp = g.T.Key.KeyKind.ranks in
    let spans = g.T.Ranged.spans in
    let laws = g.met.T.Key.KeyKind.total in
    let curr = c.args.self.now.curr.level.run.tables.now in
    let next = c.args.self.now.next.level.run.tables.now in
    let e = c.loop-end.end.at in
    let h : e < length next = elim c.if-end-left.branch [ then-end-left w ↦ omega (arith, w.if-end-left.true, c.requires.within) | else-end-left+then-end-next w ↦ w.if-end-next.true.1 ] in
    let reach_is = place_found laws spans Max Max UpTo curr next e c.index-next-end.result c.key_range-last.result.now c.ended_by-reach.result h c.index-next-end.is c.key_range-last.ensures c.ended_by-reach.ensures.count in
    let at = ap (λ (x : Front). x.at) c.loop-end.invariant.1 in
    (omega (arith, reach_is, at, ended_mono laws spans curr next c.args.self.now.next.level.run.sorted e (e + 1) (omega arith), ended_last laws spans curr next (e + 1) e refl), c.ended_by-reach.ensures.within)

pub loop-end-preserved : goal.loop-end-preserved
loop-end-preserved g c =
    let cmp = g.T.Key.KeyKind.ranks in
    let spans = g.T.Ranged.spans in
    let laws = g.met.T.Key.KeyKind.total in
    let bytes = g.T.TableFile.bytes in
    let curr = c.args.self.now.curr.level.run.tables.now in
    let next = c.args.self.now.next.level.run.tables.now in
    let cm = c.args.self.now.curr.marks in
    let nm = c.args.self.now.next.marks in
    let s = c.args.left.next.at in
    let e = c.loop-end.end.at in
    let h : e < length next = elim c.if-end-left.branch [ then-end-left w ↦ omega (arith, w.if-end-left.true, c.requires.within) | else-end-left+then-end-next w ↦ w.if-end-next.true.1 ] in
    let reach_is = place_found laws spans Max Max UpTo curr next e c.index-next-end.result c.key_range-last.result.now c.ended_by-reach.result h c.index-next-end.is c.key_range-last.ensures c.ended_by-reach.ensures.count in
    let high_sum = ap (λ (x : Front). x.sum) c.loop-end.invariant.1 in
    let why : (e ≤ s) ⊎ ((right_of cmp spans curr next bytes cm nm e).curr.sum ≤ (left_of cmp spans curr next bytes cm nm s).curr.sum) =
    elim c.if-end-left.branch [ then-end-left w ↦ inl w.if-end-left.true | else-end-left+then-end-next w ↦ inr (omega (arith, w.if-end-next.true.0, high_sum, ap (λ (x : Edge). x.curr.sum) c.requires.left)) ] in
    let at : c.advanced-end.result.at ≡ e + 1 = ap (λ (x : Front). x.at) c.advanced-end.ensures in (
      c.advanced-end.ensures ∙ ap (front bytes next nm) (sym at),
      c.advanced-high.ensures ∙ ap (front bytes curr cm) (reach_is ∙ sym (ended_last laws spans curr next c.advanced-end.result.at e at)),
      subst (λ (n : ℕ). Light cmp spans curr next bytes cm nm s n) (sym at) (light_more laws spans curr next c.args.self.now.next.level.run.sorted bytes cm nm s e c.loop-end.invariant.2 h why),
    )
