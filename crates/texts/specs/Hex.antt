-- Bytes as pairs of hex digits.
use Rattle.std.specs.Prelude.{ℕ, ◌+◌, ◌*◌, ◌/◌, ◌%◌, cond, List, [], ◌∷◌, Some, None, Option, nat_lt}
use Rattle.std.specs.List.{flat_map}
use Rattle.std.specs.Char.{digit_value, digit_char}

-- the value of a hex digit, of either case
abbrev pub digit_of : ℕ → Option ℕ
digit_of c = cond (nat_lt (digit_value c) 16) (Some (digit_value c)) None

-- the byte of two digits
abbrev pub byte_of : Option ℕ → Option ℕ → Option ℕ
byte_of None low = None
byte_of (Some high) None = None
byte_of (Some high) (Some low) = Some (16 * high + low)

-- a byte before some others, where each is one
abbrev pub before : Option ℕ → Option (List ℕ) → Option (List ℕ)
before None bs = None
before (Some b) None = None
before (Some b) (Some bs) = Some (b ∷ bs)

-- the bytes that pairs of hex digits write
abbrev pub bytes_of : List ℕ → Option (List ℕ)
bytes_of [] = Some []
bytes_of (c ∷ []) = None
bytes_of (c ∷ d ∷ cs) = before (byte_of (digit_of c) (digit_of d)) (bytes_of cs)

-- two hex digits for each byte
abbrev pub hexed : List ℕ → List ℕ
hexed bs = flat_map (λ b. digit_char (b / 16) ∷ digit_char (b % 16) ∷ []) bs
