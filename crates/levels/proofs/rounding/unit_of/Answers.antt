use Rattle.std.proofs.Common.{◌≡◌, ℕ, ◌-◌, ◌*◌, ◌%◌, ◌^◌, ◌<◌, sym, ap, ◌∙◌, mod-eq_of_lt, one-mul, arith}
use lib.Pow.{pow-lt}
use Rattle.levels.proofs.Digits.{size_leading}
use Rattle.levels.proofs.rounding.unit_of.Goals as goal

fits : (k : ℕ) → k < 64 → 1 * 2 ^ k % 2 ^ 64 ≡ 2 ^ k
fits k h = ap (λ (z : ℕ). z % 2 ^ 64) (one-mul (2 ^ k)) ∙ mod-eq_of_lt (pow-lt h)

pub returns : goal.returns
returns c =
    let k = c.saturating_sub.result in
    fits k (omega arith) ∙ ap (λ (z : ℕ). 2 ^ z) (c.saturating_sub.ensures ∙ ap (λ (z : ℕ). z - 24) (sym (size_leading c.args.x c.ranges.x.fits)))
