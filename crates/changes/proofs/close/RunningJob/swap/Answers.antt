use Rattle.std.proofs.Common.{◌≤◌, length, take, sym, subst, arith}
use Rattle.strategies.specs.declared.choice.Kind.{Kind}
use Rattle.changes.specs.Close.{swapped}
use Rattle.changes.proofs.Swaps.{running, Swapped, left_le, swap_move, merged_length, swap_merge}
use Rattle.changes.proofs.close.RunningJob.swap.Goals as goal

pub take_in-requires-clause-within : goal.take_in-requires-clause-within
take_in-requires-clause-within g c =
    left_le g.K.KeyKind.ranks c.args.self.now.destination c.args.self.now.numbers.now c.args.outputs.now c.args.sheet.now c.args.standing c.requires.within c.part-left.result c.part-left.ensures.count

pub settle-requires : goal.settle-requires
settle-requires g c =
    let cmp = g.K.KeyKind.ranks in
    let s = c.args.sheet.now in
    let room = subst (λ (k : Kind). length (swapped cmp (running k c.args.self.now.destination c.args.self.now.numbers.now) c.args.outputs.now (take c.args.standing s)) ≤ length s) c.in-Merge.is c.requires.room in
    omega (arith, room, c.remove_all-left.auto.sheet, merged_length cmp c.args.self.now.destination c.args.self.now.numbers.now c.args.outputs.now s c.args.standing c.requires.within c.remove_all-left.result c.remove_all-left.ensures.count)

pub returns-in-Move : goal.returns-in-Move
returns-in-Move g c =
    let cmp = g.K.KeyKind.ranks in
    let s = c.args.sheet.now in
    let n = c.args.standing in
    let all = subst (λ (k : Kind). Swapped cmp k c.args.self.now.destination c.args.self.now.numbers.now c.args.outputs.now s c.take_in.new.sheet n n) (sym c.in-Move.is)
    (swap_move cmp c.args.self.now.destination c.args.self.now.numbers.now c.args.outputs.now s n c.requires.within c.part-left.result c.part-left.ensures.count c.part-left.new.sheet c.take_in.new.sheet c.part-left.ensures.sheet c.take_in.ensures) in
    record { count = all.count; sheet = all.sheet }

pub returns-in-Merge : goal.returns-in-Merge
returns-in-Merge g c =
    let cmp = g.K.KeyKind.ranks in
    let s = c.args.sheet.now in
    let n = c.args.standing in
    let fs = c.args.outputs.now in
    let all = subst (λ (k : Kind). Swapped cmp k c.args.self.now.destination c.args.self.now.numbers.now fs s c.settle.new.sheet n c.settle.result) (sym c.in-Merge.is)
    (swap_merge cmp c.args.self.now.destination c.args.self.now.numbers.now fs s n c.requires.within c.remove_all-left.result c.remove_all-left.ensures.count c.remove_all-left.new.sheet c.settle.new.sheet c.settle.result c.settle.ensures.count c.remove_all-left.ensures.sheet c.settle.ensures.sheet) in
    record { count = all.count; sheet = all.sheet }
