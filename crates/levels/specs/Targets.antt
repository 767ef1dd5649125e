-- The target size of each level, in binary32.
use Rattle.std.specs.Prelude.{ℕ, zero, suc, ◌-◌, ◌*◌, ◌≤◌, cond, T, List, length, ◌==◌, nat_lt, slice_index_or, Float}
use Rattle.std.specs.Float.{nan, binary32}
use Rattle.std.specs.Float.Ieee.{mul, to_unsigned}
use Rattle.std.specs.Float.Ieee.Scale.{finite}
use Rattle.levels.specs.declared.settings.Settings.{Settings}
use Rattle.levels.specs.Rounding.{single}
use Rattle.levels.specs.Settings.{ratios_of}

-- ratio i, counted from 0: the one given, else the last given, or 10.0 where none is
abbrev pub ratio_at : List Float → ℕ → Float
ratio_at rs i = cond (nat_lt i (length rs)) (slice_index_or rs i nan) (cond (nat_lt 0 (length rs)) (slice_index_or rs (length rs - 1) nan) (single 10))

-- x times the first n ratios, each product rounded once
unfoldable pub grown : List Float → Float → ℕ → Float
grown rs x zero = x
grown rs x (suc n) = mul binary32 (grown rs x n) (ratio_at rs n)

-- the target size of level 1
abbrev pub base_size : Settings → ℕ
base_size s = s.target_size * s.threshold

-- the target size of level 1 rounded to binary32, times the first n ratios
abbrev pub product : Settings → ℕ → Float
product s n = grown (ratios_of s) (single (base_size s)) n

-- the target size of level n: on level 1 exact, on any other the product with n - 1 ratios, its fraction dropped, and 2 ^ 64 - 1 from 2 ^ 64 up
abbrev pub target_at : Settings → ℕ → ℕ
target_at s n = cond (n == 1) (base_size s) (to_unsigned 64 (product s (n - 1)))

-- up to level 6 no product is an infinity or a NaN
abbrev pub AllFinite : Settings → Type 0
AllFinite s = (n : ℕ) → n ≤ 5 → T (finite (product s n))
