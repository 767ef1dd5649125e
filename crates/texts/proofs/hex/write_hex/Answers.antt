use Rattle.std.proofs.Common.{◌≡◌, ◌++◌, rules, ◌∙◌}
use Rattle.std.proofs.Output.{has_written_append}
use Rattle.std.proofs.lemmas.Str.{IsUtf8-from_ascii}
use Rattle.std.specs.Slice.Iter.{chunks_rest}
use Rattle.texts.specs.Hex.{hexed}
use Rattle.texts.proofs.Hexes.{hexed_cut, none_fails}
use Rattle.texts.proofs.hex.write_hex.Goals as goal

pub unwrap-requires : goal.unwrap-requires
unwrap-requires g c =
    none_fails _ _ c.from_utf8.result c.from_utf8.ensures.cases (rw c.put_hex.ensures.digits (IsUtf8-from_ascii (hexed c.in-Some.chunk.now) c.put_hex.ensures.ascii))

pub loop-chunk-preserved : goal.loop-chunk-preserved
loop-chunk-preserved g c =
    let steps = c.in-Some.ensures.steps in
    let size = c.loop-chunk.invariant.2 in
    let text : c.unwrap.result.now ≡ hexed c.in-Some.chunk.now = (rw c.unwrap.ensures at c.from_utf8.ensures.cases).0 ∙ c.put_hex.ensures.digits in (
      search rules,
      tt,
      steps.0 ∙ size,
      λ plain.
          let so_far = c.loop-chunk.invariant.3 plain in (
            so_far.0 ++ c.unwrap.result.now,
            has_written_append _ _ _ _ _ _ so_far.1 (search rules),
            rw text (hexed_cut (chunks_rest c.loop-chunk.chunk-iterator) c.in-Some.chunk.now (chunks_rest c.next.new.self) so_far.0 (hexed c.args.bytes.now) steps.1.0 so_far.2),
          ),
    )
