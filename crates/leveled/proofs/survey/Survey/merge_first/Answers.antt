use Rattle.std.proofs.Common.{◌++◌, sym, ◌∙◌, arith}
use Rattle.std.proofs.lemmas.Bool.{eqb-true, eqb-false}
use Rattle.leveled.specs.Leveled.{zero_and}
use Rattle.leveled.specs.Survey.{set_to, standing, hides}
use Rattle.leveled.proofs.Answered.{gives_by, moves, merges, both_few, both_light, zero_named, won_move, won_runs, won_met}
use Rattle.leveled.proofs.Surveys.{small_of}
use Rattle.leveled.proofs.survey.Survey.merge_first.Goals as goal
use Rattle.leveled.proofs.survey.Survey.merge_first.Goals.{else-self-eq1-via-then-self-eq1+else-is_empty, else-self-eq1-via-else-self-eq1}

-- what is named: level 0, then what meets it
pub input-named-requires : goal.input-named-requires
input-named-requires g c =
    let laws = g.met.K.KeyKind.total in
    let v = c.args.self.now in
    let ts = standing v in
    let l = c.args.first.n in
    let xs = c.tables_of.result.now in
    let ys = c.get_overlapping-overlapping.result.now in
    let p = zero_and g.K.KeyKind.ranks (set_to v) ts (hides v) l in
    let is = zero_named laws (set_to v) ts (hides v) c.args.self.now.sound l c.args.first.within.0 xs ys c.tables_of.ensures.tables c.get_overlapping-overlapping.ensures in
    record {
      small = omega (arith, both_light p ts xs ys is, small_of laws ts c.args.self.now.sound);
      room = omega (arith, both_few p ts xs ys is, c.requires.room);
    }

pub returns-then-is_empty : goal.returns-then-is_empty
returns-then-is_empty g c =
    let cmp = g.K.KeyKind.ranks in
    let v = c.args.self.now in
    let s = set_to v in
    let ts = standing v in
    let hs = hides v in
    let l = c.args.first.n in
    let xs = c.tables_of.result.now in
    let ys = c.get_overlapping-overlapping.result.now in
    let is = zero_named g.met.K.KeyKind.total s ts hs c.args.self.now.sound l c.args.first.within.0 xs ys c.tables_of.ensures.tables c.get_overlapping-overlapping.ensures in
    let free = sym c.is_busy.ensures ∙ c.if-is_busy.false in
    gives_by _ _ (won_move cmp s ts hs l free ys c.get_overlapping-overlapping.ensures (sym c.args.self.now.runs_are ∙ c.if-self-eq1.true) (eqb-true _ 0 (sym c.if-is_empty.ensures)))
    (moves (zero_and cmp s ts hs l) ts (xs ++ ys) is l 1 s.target_size c.input-named.result c.input-named.ensures.input c.args.ids.now c.input-named.new.ids c.input-named.ensures.ids)

pub returns-else-self-eq1 : goal.returns-else-self-eq1
returns-else-self-eq1 g c =
    let cmp = g.K.KeyKind.ranks in
    let v = c.args.self.now in
    let s = set_to v in
    let ts = standing v in
    let hs = hides v in
    let l = c.args.first.n in
    let xs = c.tables_of.result.now in
    let ys = c.get_overlapping-overlapping.result.now in
    let met_is = c.get_overlapping-overlapping.ensures in
    let is = zero_named g.met.K.KeyKind.total s ts hs c.args.self.now.sound l c.args.first.within.0 xs ys c.tables_of.ensures.tables met_is in
    let free = sym c.is_busy.ensures ∙ c.if-is_busy.false in
    let here = merges (zero_and cmp s ts hs l) ts (xs ++ ys) is l 1 s.target_size c.input-named.result c.input-named.ensures.input c.args.ids.now c.input-named.new.ids c.input-named.ensures.ids in
    elim c.else-self-eq1.branch [
      | else-self-eq1-via-then-self-eq1+else-is_empty w ↦ gives_by _ _ (won_met cmp s ts hs l free ys met_is (λ e. eqb-false _ 0 (sym w.if-is_empty.ensures) e)) here
      | else-self-eq1-via-else-self-eq1 w ↦ gives_by _ _ (won_runs cmp s ts hs l free ys met_is (λ e. w.if-self-eq1.false (c.args.self.now.runs_are ∙ e))) here
    ]
