use Rattle.std.proofs.Common.{Some, None}
use Rattle.picks.proofs.Laws.{move_law, rest_law, only_one}
use Rattle.picks.proofs.pick.pick_minimal_compaction.Goals as goal

pub returns-in-Some-clause-law : goal.returns-in-Some-clause-law
returns-in-Some-clause-law g c =
    let hs = c.args.hidden_set.now in
    let found = rw c.new-curr.ensures.tables at (c.in-Some.ensures hs c.new-curr.ensures.marks) in
    move_law g.T.Key.KeyKind.ranks g.T.Ranged.spans g.T.TableFile.bytes g.T.TableFile.named hs c.args.curr.run.tables.now c.args.next.run.tables.now c.args.target_size c.in-Some.window found

pub returns-in_err-merging-clause-law : goal.returns-in_err-merging-clause-law
returns-in_err-merging-clause-law g c =
    let hs = c.args.hidden_set.now in
    let stays = rw c.new-curr.ensures.tables at (c.in_default.ensures hs c.new-curr.ensures.marks) in
    let none = rw (c.new-curr.ensures.tables, c.new-next.ensures.tables) at (c.in_err-merging.ensures hs c.new-curr.ensures.marks c.new-next.ensures.marks) in
    rw c.from_residual.ensures
    (rest_law g.T.Key.KeyKind.ranks g.T.Ranged.spans g.T.TableFile.bytes g.T.TableFile.named hs c.args.curr.run.tables.now c.args.next.run.tables.now c.args.target_size None stays none)

pub returns-clause-law : goal.returns-clause-law
returns-clause-law g c =
    let hs = c.args.hidden_set.now in
    let stays = rw c.new-curr.ensures.tables at (c.in_default.ensures hs c.new-curr.ensures.marks) in
    let found = rw (c.new-curr.ensures.tables, c.new-next.ensures.tables) at (c.in_ok-merging.ensures hs c.new-curr.ensures.marks c.new-next.ensures.marks) in
    rest_law g.T.Key.KeyKind.ranks g.T.Ranged.spans g.T.TableFile.bytes g.T.TableFile.named hs c.args.curr.run.tables.now c.args.next.run.tables.now c.args.target_size (Some c.in_ok-merging.merging) stays found

pub returns-in-Some-clause-only : goal.returns-in-Some-clause-only
returns-in-Some-clause-only g c =
    only_one g.T.Key.KeyKind.ranks g.T.Ranged.spans g.T.TableFile.bytes g.T.TableFile.named c.args.hidden_set.now c.args.curr.run.tables.now c.args.next.run.tables.now c.args.target_size _
    (returns-in-Some-clause-law g c)

pub returns-in_err-merging-clause-only : goal.returns-in_err-merging-clause-only
returns-in_err-merging-clause-only g c =
    only_one g.T.Key.KeyKind.ranks g.T.Ranged.spans g.T.TableFile.bytes g.T.TableFile.named c.args.hidden_set.now c.args.curr.run.tables.now c.args.next.run.tables.now c.args.target_size _
    (returns-in_err-merging-clause-law g c)

pub returns-clause-only : goal.returns-clause-only
returns-clause-only g c =
    only_one g.T.Key.KeyKind.ranks g.T.Ranged.spans g.T.TableFile.bytes g.T.TableFile.named c.args.hidden_set.now c.args.curr.run.tables.now c.args.next.run.tables.now c.args.target_size _
    (returns-clause-law g c)
