use Rattle.std.proofs.Common.{◌∙◌}
use Rattle.levels.proofs.Digits.{product_single}
use Rattle.levels.proofs.rounding.nearest_f32.Goals as goal

pub returns : goal.returns
returns c =
    let r = c.round_to_24_bits-r.result in
    let s = c.round_to_24_bits-r.ensures.small in
    product_single r.digits r.unit (s.3 c.requires.0) s.2 s.0 s.1 ∙ c.round_to_24_bits-r.ensures.same
