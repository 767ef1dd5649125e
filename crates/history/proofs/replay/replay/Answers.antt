use Rattle.std.proofs.Common.{◌≤◌, ◌<◌, length, min, refl, arith}
use Rattle.books.proofs.Keeping.{stays_sound}
use Rattle.jobs.specs.View.{state}
use Rattle.history.proofs.Alike.{calls_alike}
use Rattle.history.proofs.Lawful.{calls_lawful}
use Rattle.history.proofs.Picks.{lists_pick_well}
use Rattle.history.proofs.Runs.{half_none, half_more, half_all}
use Rattle.history.proofs.replay.replay.Goals as goal

pub loop-i-init : goal.loop-i-init
loop-i-init g c = half_none g.K.KeyKind.ranks g.S.CompactionStrategy.chooses c.args.calls.now (state c.args.book.now c.args.sheet.now) c.args.sheet.now c.args.outcomes.now

pub loop-i-preserved : goal.loop-i-preserved
loop-i-preserved g c =
    let h : c.loop-i.i < length c.args.calls.now = omega arith in
    let k : c.loop-i.i < length c.args.outcomes.now = omega arith in
    half_more g.K.KeyKind.ranks g.S.CompactionStrategy.chooses c.args.calls.now (state c.args.book.now c.args.sheet.now) c.args.sheet.now c.args.outcomes.now c.loop-i.i
    (state c.loop-i.book c.loop-i.sheet) c.loop-i.sheet c.loop-i.outcomes (state c.perform.new.self c.perform.new.sheet) c.perform.new.sheet c.index-calls-i.result _ _ _ h k c.loop-i.auto.outcomes c.index-calls-i.is
    c.perform.ensures.answer refl c.perform.ensures.ids c.perform.ensures.rest c.loop-i.invariant

pub returns : goal.returns
returns g c =
    let over : min (length c.args.calls.now) (length c.args.outcomes.now) ≤ c.loop-i.i = omega arith in
    let ends = half_all g.K.KeyKind.ranks g.S.CompactionStrategy.chooses c.args.calls.now (state c.args.book.now c.args.sheet.now) c.args.sheet.now c.args.outcomes.now c.loop-i.i _ _ _ over c.loop-i.invariant in
    record {
      state = ends.0;
      rest = ends.1;
      outcomes = ends.2;
      lawful = calls_lawful g.K.KeyKind.ranks g.S.CompactionStrategy.chooses g.met.S.CompactionStrategy.keeps c.args.book.now.blob_total c.args.calls.now c.args.outcomes.now;
      alike = calls_alike g.K.KeyKind.ranks g.L.KeyKind.ranks;
      sound = stays_sound g.met.K.KeyKind.total;
      picks = lists_pick_well g.K.KeyKind.ranks;
    }
