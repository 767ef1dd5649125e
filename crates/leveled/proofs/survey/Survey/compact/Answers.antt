use Rattle.std.proofs.Common.{◌+◌, [], ◌++◌, Some, sym, ap, ◌∙◌, arith}
use Rattle.levels.proofs.Limits.{limits}
use Rattle.strategies.specs.declared.choice.Kind.TheVariants.{Move, Merge}
use Rattle.strategies.specs.Answer.{naming}
use Rattle.leveled.specs.Leveled.{moved, merged}
use Rattle.leveled.specs.Survey.{set_to, standing, hides}
use Rattle.leveled.proofs.Answered.{gives_by, gives_nothing, moves, merges, both_few, both_light, window_named, merge_named, covered_within, picked_move, picked_merge, picked_nothing}
use Rattle.leveled.proofs.Surveys.{small_of}
use Rattle.leveled.proofs.survey.Survey.compact.Goals as goal

pub pick_minimal_compaction-requires : goal.pick_minimal_compaction-requires
pick_minimal_compaction-requires g c = record { target_small = (limits (set_to c.args.self.now) c.args.self.now.limits).size_most }

-- ---- a move
pub input-requires : goal.input-requires
input-requires g c =
    let laws = g.met.K.KeyKind.total in
    let v = c.args.self.now in
    let ts = standing v in
    let n = c.args.n in
    let w = c.in-Some-Move.window in
    let xs = c.of-moved.result.now in
    let p = moved g.K.KeyKind.ranks (set_to v) ts (hides v) n w in
    let is = window_named laws (set_to v) ts (hides v) c.args.self.now.sound n w c.run_of-upper.result.run.tables.now xs c.run_of-upper.ensures c.of-moved.ensures in
    record { small = omega (arith, both_light p ts xs [] is, small_of laws ts c.args.self.now.sound); room = omega (arith, both_few p ts xs [] is, c.requires.room) }

pub returns-in-Some-Move : goal.returns-in-Some-Move
returns-in-Some-Move g c =
    let cmp = g.K.KeyKind.ranks in
    let v = c.args.self.now in
    let s = set_to v in
    let ts = standing v in
    let hs = hides v in
    let n = c.args.n in
    let l = c.args.first.n in
    let w = c.in-Some-Move.window in
    let curr = c.run_of-upper.result.run.tables.now in
    let xs = c.of-moved.result.now in
    let is = window_named g.met.K.KeyKind.total s ts hs c.args.self.now.sound n w curr xs c.run_of-upper.ensures c.of-moved.ensures in
    gives_by _ _
    (ap (λ k. naming Move (n + 1) k s.target_size (moved cmp s ts hs n w) ts) c.canonical-canonical_level.ensures
    ∙ picked_move cmp s ts hs l n curr c.run_of-lower.result.run.tables.now c.run_of-upper.ensures c.run_of-lower.ensures c.pick_minimal_compaction.result c.pick_minimal_compaction.ensures.picks w (sym (c.in-Some-Move.is ∙ ap Some c.in-Some-Move.field-0-is)))
    (moves (moved cmp s ts hs n w) ts (xs ++ []) is (n + 1) c.canonical-canonical_level.result s.target_size c.input.result c.input.ensures.input c.args.ids.now c.input.new.ids c.input.ensures.ids)

-- ---- a merge
pub of-covered-requires : goal.of-covered-requires
of-covered-requires g c =
    let v = c.args.self.now in
    covered_within g.met.K.KeyKind.total (hides v) c.run_of-upper.result.run.tables.now c.run_of-lower.result.run.tables.now (set_to v).target_size c.in-Some-Merge.merging
    c.run_of-upper.result.run.sorted c.run_of-lower.result.run.sorted (rw c.in-Some-Merge.field-0-is at c.in-Some-Merge.ensures.law)

pub input-requires-in-Some-Merge : goal.input-requires-in-Some-Merge
input-requires-in-Some-Merge g c =
    let laws = g.met.K.KeyKind.total in
    let v = c.args.self.now in
    let ts = standing v in
    let n = c.args.n in
    let m = c.in-Some-Merge.merging in
    let xs = c.of-covered.result.now in
    let ys = c.of-window.result.now in
    let p = merged g.K.KeyKind.ranks (set_to v) ts (hides v) n m.next in
    let is = merge_named laws (set_to v) ts (hides v) c.args.self.now.sound n m c.run_of-upper.result.run.tables.now c.run_of-lower.result.run.tables.now xs ys c.run_of-upper.ensures c.run_of-lower.ensures
    c.run_of-upper.result.run.sorted c.run_of-lower.result.run.sorted (rw c.in-Some-Merge.field-0-is at c.in-Some-Merge.ensures.law) c.of-covered.ensures c.of-window.ensures in
    record { small = omega (arith, both_light p ts xs ys is, small_of laws ts c.args.self.now.sound); room = omega (arith, both_few p ts xs ys is, c.requires.room) }

pub returns-in-Some-Merge : goal.returns-in-Some-Merge
returns-in-Some-Merge g c =
    let cmp = g.K.KeyKind.ranks in
    let v = c.args.self.now in
    let s = set_to v in
    let ts = standing v in
    let hs = hides v in
    let n = c.args.n in
    let l = c.args.first.n in
    let m = c.in-Some-Merge.merging in
    let curr = c.run_of-upper.result.run.tables.now in
    let next = c.run_of-lower.result.run.tables.now in
    let xs = c.of-covered.result.now in
    let ys = c.of-window.result.now in
    let is = merge_named g.met.K.KeyKind.total s ts hs c.args.self.now.sound n m curr next xs ys c.run_of-upper.ensures c.run_of-lower.ensures
    c.run_of-upper.result.run.sorted c.run_of-lower.result.run.sorted (rw c.in-Some-Merge.field-0-is at c.in-Some-Merge.ensures.law) c.of-covered.ensures c.of-window.ensures in
    gives_by _ _
    (ap (λ k. naming Merge (n + 1) k s.target_size (merged cmp s ts hs n m.next) ts) c.canonical-canonical_level.ensures
    ∙ picked_merge cmp s ts hs l n curr next c.run_of-upper.ensures c.run_of-lower.ensures c.pick_minimal_compaction.result c.pick_minimal_compaction.ensures.picks m (sym (c.in-Some-Merge.is ∙ ap Some c.in-Some-Merge.field-0-is)))
    (merges (merged cmp s ts hs n m.next) ts (xs ++ ys) is (n + 1) c.canonical-canonical_level.result s.target_size c.input-in-Some-Merge.result c.input-in-Some-Merge.ensures.input c.args.ids.now c.input-in-Some-Merge.new.ids c.input-in-Some-Merge.ensures.ids)

-- ---- neither
pub returns-in-None : goal.returns-in-None
returns-in-None g c =
    let v = c.args.self.now in
    gives_by _ _
    (picked_nothing g.K.KeyKind.ranks (set_to v) (standing v) (hides v) c.args.first.n c.args.n c.run_of-upper.result.run.tables.now c.run_of-lower.result.run.tables.now
    c.run_of-upper.ensures c.run_of-lower.ensures c.pick_minimal_compaction.result c.pick_minimal_compaction.ensures.picks (sym c.in-None.is))
    (gives_nothing c.args.ids.now)
