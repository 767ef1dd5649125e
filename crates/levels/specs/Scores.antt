-- The scores of the levels, in binary64.
use Rattle.std.specs.Prelude.{◌≡◌, ℕ, zero, suc, ◌<◌, Bool, true, false, cond, T, ◌⊎◌, List, pos, Some, None, Option, nat_le, nat_lt, slice_index_or, Float}
use Rattle.std.specs.Float.{nan, inf, fin, binary64}
use Rattle.std.specs.Float.Ieee.{of_int, div, round, le, lt}

-- a whole number in binary64
abbrev pub double : ℕ → Float
double n = of_int binary64 (pos n)

-- 0.0
abbrev pub none : Float
none = fin false 0 (pos 0)

-- 99.99: the value of binary64 nearest to 9999 / 100
abbrev pub forced : Float
forced = round binary64 false 9999 100

-- one division of two whole numbers
abbrev pub quotient : ℕ → ℕ → Float
quotient a b = div binary64 (double a) (double b)

-- level 0: its table count over the threshold, if that is at least 1
abbrev pub first_level_score : ℕ → ℕ → Float
first_level_score count threshold = cond (nat_le threshold count) (quotient count threshold) none

-- a level from 1 on: more free bytes than its target score the quotient, or 99.99 where the next level is empty
abbrev pub level_score : ℕ → ℕ → Bool → Float
level_score free target next_is_empty = cond (nat_lt target free) (cond next_is_empty forced (quotient free target)) none

-- the place of the highest of the first n scores, the last among equals
unfoldable pub winner : List Float → ℕ → ℕ
winner ss zero = 0
winner ss (suc n) = cond (le (slice_index_or ss (winner ss n) nan) (slice_index_or ss n nan)) n (winner ss n)

-- the level that wins: none where the highest score is below 1
abbrev pub chosen : List Float → Option ℕ
chosen ss = cond (lt (slice_index_or ss (winner ss 7) nan) (double 1)) None (Some (winner ss 7))

-- finite and not negative
abbrev pub plain : Float → Bool
plain nan = false
plain (inf s) = false
plain (fin true m e) = false
plain (fin false m e) = true

-- a score is finite, and 0 or at least 1
abbrev pub Scored : Float → Type 0
Scored x = T (plain x) × ((x ≡ none) ⊎ T (le (double 1) x))

-- each of the seven is a score
abbrev pub AllScored : List Float → Type 0
AllScored ss = (k : ℕ) → k < 7 → Scored (slice_index_or ss k nan)

-- w is the place of the last of the highest among the first n scores
pub record Highest (ss : List Float) (n w : ℕ) : Type 0 where
  pub inside : w < n
  pub top : (k : ℕ) → k < n → T (le (slice_index_or ss k nan) (slice_index_or ss w nan))
  pub last : (k : ℕ) → w < k → k < n → T (lt (slice_index_or ss k nan) (slice_index_or ss w nan))

-- a level is chosen by the last of the highest scores, which is at least 1; none is where all are 0
abbrev pub Chooses : List Float → Option ℕ → Type 0
Chooses ss None = (k : ℕ) → k < 7 → slice_index_or ss k nan ≡ none
Chooses ss (Some w) = Highest ss 7 w × T (le (double 1) (slice_index_or ss w nan))
