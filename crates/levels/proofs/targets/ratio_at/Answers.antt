use Rattle.std.proofs.Common.{◌≡◌, ℕ, ◌-◌, Bool, true, false, cond, ltb, List, length, get_or, Some, None, Option, Bor, ap, ◌∙◌}
use lib.Ieee.{Float, nan, binary32, of_bits}
use Rattle.std.specs.Option.{unwrap_or, option_copied, option_or}
use Rattle.std.specs.Slice.{IsGetResult}
use Rattle.levels.specs.Rounding.{single}
use Rattle.levels.specs.Targets.{ratio_at}
use Rattle.levels.proofs.Literals.{ten_is}
use Rattle.levels.proofs.targets.ratio_at.Goals as goal

-- which of the three places a ratio is read from
from : (rs : List Float) (i : ℕ) (a b : Bool) → a ≡ ltb i (length rs) → b ≡ ltb 0 (length rs) → cond a (get_or rs i nan) (cond b (get_or rs (length rs - 1) nan) (single 10)) ≡ ratio_at rs i
from rs i a b p q =
    ap (λ t. cond t (get_or rs i nan) (cond b (get_or rs (length rs - 1) nan) (single 10))) p
    ∙ ap (λ t. cond (ltb i (length rs)) (get_or rs i nan) (cond t (get_or rs (length rs - 1) nan) (single 10))) q

read : (rs : List Float) (i : ℕ) (here last : Option (Bor Float)) → IsGetResult rs i i here → IsGetResult rs 0 (length rs - 1) last → unwrap_or (option_copied (option_or here last)) (of_bits binary32 0x4120_0000) ≡ ratio_at rs i
read rs i (Some x) (Some y) h k = h.3.1 nan ∙ from rs i true true h.0 k.0
read rs i (Some x) None h k = h.3.1 nan ∙ from rs i true false h.0 k.0
read rs i None (Some y) h k = k.3.1 nan ∙ from rs i false true h.0 k.0
read rs i None None h k = ten_is ∙ from rs i false false h.0 k.0

pub returns : goal.returns
returns c =
    c.unwrap_or.ensures
    ∙ ap (λ o. unwrap_or o (of_bits binary32 0x4120_0000)) (c.copied.ensures ∙ ap option_copied c.or.ensures)
    ∙ read c.args.ratios.now c.args.i c.get.result c.last.result c.get.ensures.lookup c.last.ensures.item
