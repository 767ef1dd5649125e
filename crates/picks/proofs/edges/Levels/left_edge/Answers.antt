use Rattle.std.proofs.Common.{sym, ap, ◌∙◌, arith}
use Rattle.runs.specs.Search.{Min, Before}
use Rattle.picks.specs.Fronts.{front}
use Rattle.picks.proofs.Places.{place_found}
use Rattle.picks.proofs.Turns.{same_edge}
use Rattle.picks.proofs.edges.Levels.left_edge.Goals as goal

pub advanced-requires-2-clause-behind : goal.advanced-requires-2-clause-behind
advanced-requires-2-clause-behind g c =
    let begun_is =
    place_found g.met.T.Key.KeyKind.total g.T.Ranged.spans Min Min Before c.args.self.now.curr.level.run.tables.now c.args.self.now.next.level.run.tables.now c.args.start c.index-self-start.result c.key_range-first.result.now c.begun_before-begun.result
    c.requires.within c.index-self-start.is (c.key_range-first.ensures ∙ ap g.T.Ranged.spans (sym c.index-self-start.is)) c.begun_before-begun.ensures.count in
    (omega (arith, begun_is, c.requires.starts.curr_up), c.begun_before-begun.ensures.within)

pub returns : goal.returns
returns g c =
    let begun_is =
    place_found g.met.T.Key.KeyKind.total g.T.Ranged.spans Min Min Before c.args.self.now.curr.level.run.tables.now c.args.self.now.next.level.run.tables.now c.args.start c.index-self-start.result c.key_range-first.result.now c.begun_before-begun.result
    c.requires.within c.index-self-start.is (c.key_range-first.ensures ∙ ap g.T.Ranged.spans (sym c.index-self-start.is)) c.begun_before-begun.ensures.count in
    same_edge _ _ c.advanced.ensures (c.advanced-2.ensures ∙ ap (front g.T.TableFile.bytes c.args.self.now.curr.level.run.tables.now c.args.self.now.curr.marks) begun_is)
