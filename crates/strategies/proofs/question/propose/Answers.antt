use Rattle.std.proofs.Common.{ℕ, ◌-◌, List, sym}
use native.Mathlib.Nat.{sub-zero}
use Rattle.runs.specs.declared.table.Table.{Table}
use Rattle.strategies.specs.Answer.{Answer}
use Rattle.strategies.proofs.Asking.{proposed_is, ids_are}
use Rattle.strategies.proofs.question.propose.Goals as goal

pub returns : goal.returns
returns g c =
    let ok = sym c.if-not-is_sound.ensures.test in
    let chooses : List (Table g.row.K.Denot) → List ℕ → Answer = λ ts hs. g.S.CompactionStrategy.chooses c.args.settings.now ts hs c.args.blob_total c.args.clock in
    record {
      answer = proposed_is g.K.KeyKind.ranks chooses c.args.sheet.now c.args.standing c.args.hidden_set.now c.args.blob_total ok (c.args.standing - 0) (sub-zero _) _ _ c.ask.ensures.answer;
      ids = ids_are g.K.KeyKind.ranks chooses c.args.sheet.now c.args.standing c.args.hidden_set.now c.args.blob_total ok (c.args.standing - 0) (sub-zero _) _ c.args.ids.now c.ask.ensures.ids;
    }
