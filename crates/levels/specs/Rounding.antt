-- Whole numbers in binary32.
use Rattle.std.specs.Prelude.{ℕ, pos, Float}
use Rattle.std.specs.Float.{binary32}
use Rattle.std.specs.Float.Ieee.{of_int, to_unsigned}

-- a whole number rounded to binary32: the nearest value, at a tie the one whose last digit is even
abbrev pub single : ℕ → Float
single n = of_int binary32 (pos n)

-- the whole number that n rounded to binary32 stands for
abbrev pub rounded : ℕ → ℕ
rounded n = to_unsigned 64 (single n)
