use Rattle.std.proofs.Common.{◌≡◌, ℕ, ◌*◌, sym, refl, ap, ◌∙◌, subst, arith, rules}
use Rattle.picks.specs.declared.edges.Edge.{Edge}
use Rattle.picks.specs.Edges.{left_of, right_of, Shortest, allowed, merged, sooner}
use Rattle.picks.specs.Fronts.{front}
use Rattle.picks.proofs.Counts.{sum_mono}
use Rattle.picks.proofs.Merges.{found_none, found_all, turn_bars, turn_finds}
use Rattle.picks.proofs.Shortest.{allowed_gives}
use Rattle.picks.proofs.Turns.{same_edge, ended_none, left_none, left_next, light_none, light_next, edges_open}
use Rattle.picks.proofs.edges.Levels.cheapest_merge.Goals as goal
use Rattle.picks.proofs.edges.Levels.cheapest_merge.Goals.{then-is_allowed, else-is_allowed}

pub loop-start-init : goal.loop-start-init
loop-start-init g c =
    let cmp = g.T.Key.KeyKind.ranks in
    let spans = g.T.Ranged.spans in
    let bytes = g.T.TableFile.bytes in
    let laws = g.met.T.Key.KeyKind.total in
    let curr = c.args.self.now.curr.level.run.tables.now in
    let next = c.args.self.now.next.level.run.tables.now in
    let cm = c.args.self.now.curr.marks in
    let nm = c.args.self.now.next.marks in
    let none : c.default-left.result ≡ record { next = front bytes next nm 0; curr = front bytes curr cm 0 } = search rules in
    rw none (
      left_none laws spans curr next c.args.self.now.next.level.run.sorted bytes cm nm _ refl refl,
      same_edge _ _ refl (ap (front bytes curr cm) (sym (ended_none laws spans curr next))),
      light_none laws spans curr next c.args.self.now.next.level.run.sorted bytes cm nm 0,
      λ hs m n. found_none cmp spans bytes g.T.TableFile.named hs curr next c.args.target_size,
    )

pub is_allowed-requires : goal.is_allowed-requires
is_allowed-requires g c =
    let start = ap (λ (x : Edge). x.next.at) c.left_edge-left.ensures in
    omega (
      arith,
      ap (λ (x : Edge). x.next.sum) c.left_edge-left.ensures,
      ap (λ (x : Edge). x.next.sum) c.right_edge-right.ensures.edge,
      sum_mono g.T.TableFile.bytes c.args.self.now.next.level.run.tables.now c.loop-start.start c.right_edge-right.result.next.at (omega (arith, start, c.right_edge-right.ensures.shortest.past)),
    )

pub merge_between-requires : goal.merge_between-requires
merge_between-requires g c =
    let start = ap (λ (x : Edge). x.next.at) c.left_edge-left.ensures in
    let a = allowed_gives (50 * c.args.target_size) c.left_edge-left.result c.right_edge-right.result (sym c.is_allowed.ensures ∙ c.if-is_allowed.true) in
    edges_open g.met.T.Key.KeyKind.total g.T.Ranged.spans c.args.self.now.curr.level.run.tables.now c.args.self.now.next.level.run.tables.now c.args.self.now.next.level.run.sorted g.T.TableFile.bytes c.args.self.now.curr.marks c.args.self.now.next.marks
    c.loop-start.start c.right_edge-right.result.next.at c.left_edge-left.result c.right_edge-right.result c.left_edge-left.ensures c.right_edge-right.ensures.edge
    (omega (arith, start, c.right_edge-right.ensures.shortest.past)) a.weighs c.args.self.now.curr.level.small c.args.self.now.next.level.small

pub loop-start-preserved : goal.loop-start-preserved
loop-start-preserved g c =
    let cmp = g.T.Key.KeyKind.ranks in
    let spans = g.T.Ranged.spans in
    let bytes = g.T.TableFile.bytes in
    let named = g.T.TableFile.named in
    let laws = g.met.T.Key.KeyKind.total in
    let curr = c.args.self.now.curr.level.run.tables.now in
    let next = c.args.self.now.next.level.run.tables.now in
    let cm = c.args.self.now.curr.marks in
    let nm = c.args.self.now.next.marks in
    let target = c.args.target_size in
    let cap = 50 * target in
    let i = c.loop-start.start in
    let left = c.left_edge-left.result in
    let right = c.right_edge-right.result in
    let e = right.next.at in
    let left_is : left ≡ left_of cmp spans curr next bytes cm nm i = c.left_edge-left.ensures in
    let short = subst (λ (n : ℕ). Shortest cmp spans curr next bytes cm nm n e) (ap (λ (x : Edge). x.next.at) left_is) c.right_edge-right.ensures.shortest in
    let right_is : right ≡ right_of cmp spans curr next bytes cm nm e = c.right_edge-right.ensures.edge in
    let test : c.is_allowed.result ≡ allowed cap (left_of cmp spans curr next bytes cm nm i) (right_of cmp spans curr next bytes cm nm e) =
    c.is_allowed.ensures ∙ ap (λ x. allowed cap x right) left_is ∙ ap (allowed cap (left_of cmp spans curr next bytes cm nm i)) right_is in (
      left_next laws spans curr next c.args.self.now.next.level.run.sorted bytes cm nm i left left_is,
      right_is,
      light_next laws spans curr next c.args.self.now.next.level.run.sorted bytes cm nm i e short.lights,
      elim c.if-is_allowed.branch [
        | then-is_allowed w ↦
            let found : w.merge_between.result ≡ merged (left_of cmp spans curr next bytes cm nm i) (right_of cmp spans curr next bytes cm nm e) =
            w.merge_between.ensures ∙ ap (λ x. merged x right) left_is ∙ ap (merged (left_of cmp spans curr next bytes cm nm i)) right_is in
            λ hs m n. rw (w.best-is ∙ w.sooner-best.ensures ∙ ap (sooner c.loop-start.best) found)
            (turn_finds laws spans curr next c.args.self.now.curr.level.run.sorted c.args.self.now.next.level.run.sorted bytes named hs target cm nm m n i e short c.loop-start.best (c.loop-start.invariant.3 hs m n) (sym test ∙ w.if-is_allowed.true))
        | else-is_allowed w ↦
            λ hs m n. rw w.best-is
            (turn_bars laws spans curr next c.args.self.now.curr.level.run.sorted c.args.self.now.next.level.run.sorted bytes named hs target cm nm m n i e short c.loop-start.best (c.loop-start.invariant.3 hs m n) (sym test ∙ w.if-is_allowed.false))
      ],
    )

pub returns : goal.returns
returns g c =
    λ hs m n. found_all g.T.Key.KeyKind.ranks g.T.Ranged.spans g.T.TableFile.bytes g.T.TableFile.named hs c.args.self.now.curr.level.run.tables.now c.args.self.now.next.level.run.tables.now c.args.target_size c.loop-start.start c.loop-start.best (omega arith) (c.loop-start.invariant.3 hs m n)
