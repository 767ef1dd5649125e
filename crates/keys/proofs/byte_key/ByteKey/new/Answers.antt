use Rattle.std.proofs.Common.{arith}
use Rattle.std.proofs.lemmas.Option.{MatchOption-at_some}
use Rattle.keys.proofs.Spares.{rest_is_zero}
use Rattle.keys.proofs.byte_key.ByteKey.new.Goals as goal

pub invariant_of-result : goal.invariant_of-result
invariant_of-result c =
    let parts = MatchOption-at_some _ _ _ c.in_ok-bytes.ensures.ok_part c.split_at_mut_checked.ensures.cases in
    record {
      places = omega (arith, parts.4);
      short = omega (arith, parts.4);
      spare = rest_is_zero c.args.from.now c.copy_from_slice.new.self c.in_ok-bytes.field-0-1.now c.copy_from_slice.ensures.after parts.3;
    }
