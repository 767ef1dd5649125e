use Rattle.std.proofs.Common.{◌≡◌, ◌/◌, ◌%◌, is_ok, length, sym, ap, ◌∙◌, refl, arith}
use Rattle.std.proofs.lemmas.Bool.{eqb-true, eqb-false}
use Rattle.std.proofs.ResultArms.{chosen}
use Rattle.std.proofs.lemmas.List.{drop_more}
use Rattle.texts.proofs.Hexes.{bytes_more, bytes_start, odd_bytes}
use Rattle.texts.proofs.hex.read_hex.Goals as goal

pub returns-then-not-is_empty : goal.returns-then-not-is_empty
returns-then-not-is_empty c =
    let rest : length c.as_chunks.result.1.now ≡ length c.args.word.now % 2 = c.as_chunks.ensures.back_len ∙ ap (λ s. length s % 2) c.as_bytes.ensures.value in
    let some = eqb-false (length c.as_chunks.result.1.now) 0 (sym c.is_empty.ensures ∙ c.if-not-is_empty.true) in
    sym (odd_bytes (length c.args.word.now / 2) c.args.word.now (omega arith))

pub loop-high-init : goal.loop-high-init
loop-high-init c =
    let none = eqb-true (length c.as_chunks.result.1.now) 0 (sym c.is_empty.ensures ∙ c.if-not-is_empty.false) in
    bytes_start _ _ c.as_bytes.result.now _ _ c.new-bytes.ensures.items c.as_bytes.ensures.value c.as_chunks.ensures.front (sym c.as_chunks.ensures.back_len ∙ none) refl

pub loop-high-preserved : goal.loop-high-preserved
loop-high-preserved c =
    bytes_more _ _ c.as_chunks.result.0.now c.loop-high.high-index _ _ (drop_more c.as_chunks.result.0.now c.loop-high.high-index _ c.loop-high-test.true) c.byte.ensures c.loop-high.invariant _ _ c.in-Some.is
    (chosen _ _ _ _ c.push.ensures.items (ap is_ok c.in_ok-push.was))
