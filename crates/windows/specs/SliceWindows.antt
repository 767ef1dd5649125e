-- Windows of n tables, in the two orders in which they are read.
use Rattle.std.specs.Prelude.{◌≡◌, ℕ, zero, suc, ◌+◌, ◌-◌, ◌<◌, ◌≤◌, Bool, true, ◌&&◌, ◌⊎◌, List, [], ◌∷◌, ◌++◌, take, drop, Some, None, sum_by, Option, nat_le, nat_lt}
use Rattle.std.specs.List.{ContainsAt, AllByRecursion}
use Rattle.windows.specs.declared.slice_windows.Window.{Window}
use Rattle.windows.specs.declared.slice_windows.Summed.{Summed}

-- the window of n tables behind s others
abbrev pub win : ℕ → ℕ → Window
win s n = record { start = s; len = n }

-- the tables of a window
abbrev pub tables_of : {T : Type 0} → Window → List T → List T
tables_of w ts = take w.len (drop w.start ts)

-- k windows of a length, the first at s
unfoldable pub from_left : ℕ → ℕ → ℕ → List Window
from_left len s zero = []
from_left len s (suc k) = win s len ∷ from_left len (suc s) k

-- all windows of a length, from the left
abbrev pub of_length : ℕ → ℕ → List Window
of_length n len = from_left len 0 (suc n - len)

-- the windows of k lengths, from len on
unfoldable pub growing_from : ℕ → ℕ → ℕ → List Window
growing_from n len zero = []
growing_from n len (suc k) = of_length n len ++ growing_from n (suc len) k

-- length 1 from the left, then 2 and on
abbrev pub growing : ℕ → List Window
growing n = growing_from n 1 n

-- the windows of the lengths from k down
unfoldable pub shrinking_from : ℕ → ℕ → List Window
shrinking_from n zero = []
shrinking_from n (suc k) = of_length n (suc k) ++ shrinking_from n k

-- the longest first, each length from the left
abbrev pub shrinking : ℕ → List Window
shrinking n = shrinking_from n n

-- a window of n tables
pub record Within (n : ℕ) (w : Window) : Type 0 where
  pub some : 0 < w.len
  pub ends : w.start + w.len ≤ n

-- v is read before w where short ones are read first
abbrev pub Shorter : Window → Window → Type 0
Shorter v w = (v.len < w.len) ⊎ ((v.len ≡ w.len) × (v.start < w.start))

-- v is read before w where long ones are read first
abbrev pub Longer : Window → Window → Type 0
Longer v w = (w.len < v.len) ⊎ ((v.len ≡ w.len) × (v.start < w.start))

-- each is before all behind it; so, where nothing is before itself, none stands twice
abbrev pub Ascends : {X : Type 0} → (X → X → Type 0) → List X → Type 0
Ascends R [] = Unit {0}
Ascends R (x ∷ xs) = AllByRecursion (R x) xs × Ascends R xs

-- the list has each window of a kind once and no other, in the order of reading
pub record EachOnce (Kind : Window → Type 0) (Before : Window → Window → Type 0) (ws : List Window) : Type 0 where
  pub only : AllByRecursion Kind ws
  pub every : (w : Window) → Kind w → ContainsAt ws w
  pub ascends : Ascends Before ws

-- what is read next, if anything, is a window of n tables
abbrev pub stands : ℕ → Option Summed → Bool
stands n None = true
stands n (Some s) = nat_lt 0 s.window.len && nat_le (s.window.start + s.window.len) n

module _ {T : Type 0} (bytes : T → ℕ) (ts : List T) where
  -- the two sums of a window are right
  pub record Right (s : Summed) : Type 0 where
    pub window : s.bytes ≡ sum_by bytes (tables_of s.window ts)
    pub front : s.front ≡ sum_by bytes (take s.window.len ts)
