-- The windows of the next level that can be merged with what they contain. `cmp` is the order of the keys, `spans`, `bytes` and `named` a table's range,
-- size and number, `hs` the hidden numbers, `curr` the level and `next` the one below it, `target` the target size of a table.
use Rattle.std.specs.Prelude.{ℕ, ◌+◌, ◌*◌, Bool, false, cond, ◌&&◌, List, [], ◌∷◌, length, Some, None, sum_by, count_by, filter, Option, ◌==◌, nat_le, nat_lt}
use Rattle.std.specs.declared.cmp.Ordering.{Ordering}
use Rattle.std.specs.Ordering.{is_lt}
use Rattle.keys.specs.declared.key_range.KeyRange.{KeyRange}
use Rattle.keys.specs.KeyRange.{inside}
use Rattle.windows.specs.declared.slice_windows.Window.{Window}
use Rattle.runs.specs.Run.{span_of}
use Rattle.windows.specs.SliceWindows.{tables_of, growing}
use Rattle.picks.specs.declared.merge.Merging.{Merging}
use Rattle.picks.specs.Marks.{hidden_among}

-- the cheaper of two, the first where they cost the same
unfoldable pub cheaper : {X : Type 0} → (X → ℕ) → Option X → Option X → Option X
cheaper cost None o = o
cheaper cost (Some x) None = Some x
cheaper cost (Some x) (Some y) = cond (nat_lt (cost y) (cost x)) (Some y) (Some x)

-- the cheapest of a list that passes, the first among equals
unfoldable pub cheapest_of : {X : Type 0} → (X → Bool) → (X → ℕ) → List X → Option X
cheapest_of ok cost [] = None
cheapest_of ok cost (x ∷ xs) = cheaper cost (cond (ok x) (Some x) None) (cheapest_of ok cost xs)

module _ {K T : Type 0} (cmp : K → K → Ordering) (spans : T → KeyRange K) where
  -- a table lies inside a span, if there is one
  abbrev pub inside_span : Option (KeyRange K) → T → Bool
  inside_span None t = false
  inside_span (Some span) t = inside cmp span (spans t)

  -- a table begins before a span, if there is one
  abbrev pub before_span : Option (KeyRange K) → T → Bool
  before_span None t = false
  before_span (Some span) t = is_lt (cmp (spans t).min span.min)

  module _ (curr next : List T) where
    -- the tables of the level that lie inside the span of a window of the next one
    abbrev pub contained : Window → List T
    contained w = filter (inside_span (span_of cmp spans (tables_of w next))) curr

    -- how many tables of the level begin before that span
    abbrev pub begun_before : Window → ℕ
    begun_before w = count_by (before_span (span_of cmp spans (tables_of w next))) curr

    -- the bytes of a merge: those of the window and of what it contains
    unfoldable pub cost : (T → ℕ) → Window → ℕ
    cost bytes w = sum_by bytes (tables_of w next) + sum_by bytes (contained w)

    -- the merge of a window
    unfoldable pub merging : (T → ℕ) → Window → Merging
    merging bytes w = record { next = w; curr = record { start = begun_before w; len = length (contained w) }; bytes = cost bytes w }

  module _ (bytes named : T → ℕ) (hs : List ℕ) (curr next : List T) (target : ℕ) where
    -- its sum is at most 50 target sizes, none of its tables is hidden, and what it contains weighs something and has nothing hidden
    unfoldable pub admissible : Window → Bool
    admissible w =
        nat_le (sum_by bytes (tables_of w next)) (50 * target)
        && (hidden_among named hs (tables_of w next) == 0
        && (nat_lt 0 (sum_by bytes (contained curr next w))
        && hidden_among named hs (contained curr next w) == 0))

    -- the admissible window with the fewest bytes, the first in the order of reading among equals
    abbrev pub cheapest_merge : Option Window
    cheapest_merge = cheapest_of admissible (cost curr next bytes) (growing (length next))
