-- The float literals of the code, as the definitions have them.
use Rattle.std.proofs.Common.{◌≡◌, refl}
use lib.Ieee.{binary32, binary64, of_bits, of_int, round}
use Rattle.levels.specs.Rounding.{single}
use Rattle.levels.specs.Scores.{double, forced}

pub one_is : of_bits binary32 0x3f80_0000 ≡ single 1
unfolding of_bits of_int
one_is = refl

pub ten_is : of_bits binary32 0x4120_0000 ≡ single 10
unfolding of_bits of_int
ten_is = refl

pub thousand_is : of_bits binary32 0x447a_0000 ≡ single 1000
unfolding of_bits of_int
thousand_is = refl

pub forced_is : of_bits binary64 0x4058_ff5c_28f5_c28f ≡ forced
unfolding of_bits round
forced_is = refl

pub double_one_is : of_bits binary64 0x3ff0_0000_0000_0000 ≡ double 1
unfolding of_bits of_int
double_one_is = refl
