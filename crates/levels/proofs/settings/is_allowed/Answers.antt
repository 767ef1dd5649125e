use Rattle.std.proofs.Common.{◌≡◌, true, false}
use lib.Ieee.{le}
use Rattle.levels.specs.Rounding.{single}
use Rattle.levels.proofs.Literals.{one_is, thousand_is}
use Rattle.levels.proofs.settings.is_allowed.Goals as goal

pub returns-then-ratio : goal.returns-then-ratio
returns-then-ratio c = let t : le (single 1) c.args.ratio ≡ true = simp one_is at c.if-ratio.true in simp (thousand_is, t)

pub returns-else-ratio : goal.returns-else-ratio
returns-else-ratio c = let t : le (single 1) c.args.ratio ≡ false = simp one_is at c.if-ratio.false in simp (one_is, t)
