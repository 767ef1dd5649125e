-- What leveled is set to: how settings are made, and their limits.
use Rattle.std.specs.Prelude.{ℕ, ◌^◌, Bool, cond, ◌&&◌, List, [], ◌∷◌, ◌++◌, length, take, replicate, Ok, Err, Result, nat_le, Float}
use Rattle.std.specs.List.{list_all}
use Rattle.std.specs.Float.Ieee.{le}
use Rattle.refusals.specs.declared.refusal.Refusal.{Refusal}
use Rattle.refusals.specs.declared.refusal.Refusal.TheVariants.{BadSetting}
use Rattle.levels.specs.declared.settings.Settings.{Settings}
use Rattle.levels.specs.Rounding.{single}

-- the five places for ratios: the first five given, then 0.0
abbrev pub places : List Float → List Float
places rs = take 5 (rs ++ replicate 5 (single 0))

-- tables of 64 MiB, four tables on level 0, and one ratio, 10.0
abbrev pub defaults : Settings
defaults = record { target_size = 67_108_864; threshold = 4; ratios = places (single 10 ∷ []); given = 1 }

-- settings with another target size
abbrev pub with_target_size : ℕ → Settings → Settings
with_target_size bytes s = record { target_size = bytes; threshold = s.threshold; ratios = s.ratios; given = s.given }

-- settings with another threshold
abbrev pub with_threshold : ℕ → Settings → Settings
with_threshold n s = record { target_size = s.target_size; threshold = n; ratios = s.ratios; given = s.given }

-- settings with other ratios: all are counted, and the first five kept
abbrev pub with_ratios : List Float → Settings → Settings
with_ratios rs s = record { target_size = s.target_size; threshold = s.threshold; ratios = places rs; given = length rs }

-- the ratios that are given
abbrev pub ratios_of : Settings → List Float
ratios_of s = take s.given s.ratios

-- a ratio is from 1.0 to 1,000.0; a NaN is in no order with any value, and an infinity is above every other
abbrev pub allowed : Float → Bool
allowed x = le (single 1) x && le x (single 1000)

-- every ratio is allowed
abbrev pub all_allowed : List Float → Bool
all_allowed = list_all allowed

-- a target size from 1 to 2 ^ 40, a threshold from 1 to 255, and at most five ratios, each allowed
abbrev pub in_limits : Settings → Bool
in_limits s =
    nat_le 1 s.target_size && nat_le s.target_size (2 ^ 40) && nat_le 1 s.threshold && nat_le s.threshold 255 && nat_le s.given 5 && all_allowed (ratios_of s)

-- settings outside their limits are refused
abbrev pub checked : Settings → Result (Unit {0}) Refusal
checked s = cond (in_limits s) (Ok tt) (Err BadSetting)
