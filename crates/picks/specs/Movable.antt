-- The windows of a level that can move to the next one as they are. `cmp` is the order of the keys, `spans` and `named` a table's range and number,
-- `hs` the hidden numbers, `curr` the level and `next` the one below it.
use Rattle.std.specs.Prelude.{ℕ, Bool, false, cond, ◌&&◌, List, [], ◌∷◌, length, Some, None, count_by, Option, ◌==◌, nat_lt}
use Rattle.std.specs.declared.cmp.Ordering.{Ordering}
use Rattle.keys.specs.declared.key_range.KeyRange.{KeyRange}
use Rattle.keys.specs.KeyRange.{meets}
use Rattle.windows.specs.declared.slice_windows.Window.{Window}
use Rattle.runs.specs.Run.{span_of}
use Rattle.windows.specs.SliceWindows.{tables_of, shrinking}
use Rattle.picks.specs.Marks.{hidden_among}

-- the first of a list that passes
unfoldable pub first_of : {X : Type 0} → (X → Bool) → List X → Option X
first_of ok [] = None
first_of ok (x ∷ xs) = cond (ok x) (Some x) (first_of ok xs)

-- of two windows the longer, the first among equals
abbrev pub longer : Option Window → Window → Option Window
longer None w = Some w
longer (Some b) w = cond (nat_lt b.len w.len) (Some w) (Some b)

module _ {K T : Type 0} (cmp : K → K → Ordering) (spans : T → KeyRange K) where
  -- a table meets a span, if there is one
  abbrev pub meets_span : Option (KeyRange K) → T → Bool
  meets_span None t = false
  meets_span (Some span) t = meets cmp (spans t) span

  module _ (named : T → ℕ) (hs : List ℕ) (curr next : List T) where
    -- none of its tables is hidden, and no table of the next level meets its span
    unfoldable pub movable : Window → Bool
    movable w = hidden_among named hs (tables_of w curr) == 0 && count_by (meets_span (span_of cmp spans (tables_of w curr))) next == 0

    -- the longest movable window, the leftmost among equals
    abbrev pub longest_movable : Option Window
    longest_movable = first_of movable (shrinking (length curr))
