use Rattle.std.proofs.Common.{List, length, ap}
use lib.Ieee.{Float}
use Rattle.levels.proofs.Places.{kept}
use Rattle.levels.proofs.settings.Settings.with_level_ratio_policy.Goals as goal

pub returns : goal.returns
returns c =
    let s = c.args.self in
    let rs = c.args.policy.now in
    ap (λ (xs : List Float). record { target_size = s.target_size; threshold = s.threshold; ratios = xs; given = length rs })
    (kept rs c.copy_from_slice.new.self c.min-kept.result c.min-kept.ensures c.copy_from_slice.ensures.after)
