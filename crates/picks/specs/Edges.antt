-- The edges of windows of the next level. A window that starts at s and ends before e, with what it contains, is what lies between the left edge
-- of s and the right edge of e.
use Rattle.std.specs.Prelude.{◌≡◌, ℕ, zero, suc, ◌+◌, ◌-◌, ◌^◌, ◌<◌, ◌≤◌, Bool, cond, ◌&&◌, ◌||◌, ◌⊎◌, List, [], ◌∷◌, length, drop, Some, None, count_by, Option, ◌==◌, nat_le, nat_lt}
use Rattle.std.specs.declared.cmp.Ordering.{Ordering}
use Rattle.keys.specs.declared.key_range.KeyRange.{KeyRange}
use Rattle.runs.specs.Search.{End, Min, Max, Reach, Before, UpTo, end_of, passed}
use Rattle.picks.specs.declared.edges.Edge.{Edge}
use Rattle.picks.specs.declared.fronts.Front.{Front}
use Rattle.picks.specs.declared.merge.Merging.{Merging}
use Rattle.picks.specs.Fronts.{front}

-- what f says of the first of a list, if there is one
abbrev pub head_or : {T : Type 0} → (T → ℕ) → ℕ → List T → ℕ
head_or f d [] = d
head_or f d (t ∷ ts) = f t

module _ {K T : Type 0} (cmp : K → K → Ordering) (spans : T → KeyRange K) where
  -- how many tables of us have an end that lies before, or up to, an end of the table that stands at i in ts; all, if none stands there
  unfoldable pub place : End → End → Reach → List T → List T → ℕ → ℕ
  place f e r us ts i = head_or (λ t. count_by (passed cmp spans e r (end_of f (spans t))) us) (length us) (drop i ts)

  module _ (curr next : List T) where
    -- how many tables of the level begin before the table at s of the next one does
    abbrev pub begun : ℕ → ℕ
    begun s = place Min Min Before curr next s

    -- how many tables of the level end with the first e of the next one or before
    unfoldable pub ended : ℕ → ℕ
    ended zero = 0
    ended (suc l) = place Max Max UpTo curr next l

    module _ (bytes : T → ℕ) (curr_marks next_marks : List Bool) where
      -- the left edge of s: what stands before it, and what begins before its table does
      abbrev pub left_of : ℕ → Edge
      left_of s = record { next = front bytes next next_marks s; curr = front bytes curr curr_marks (begun s) }

      -- the right edge of e: what stands before it, and what ends with that or before
      abbrev pub right_of : ℕ → Edge
      right_of e = record { next = front bytes next next_marks e; curr = front bytes curr curr_marks (ended e) }

      -- fronts of the two levels that reach no farther than the left edge of s
      pub record LeftFrom (s : ℕ) (edge : Edge) : Type 0 where
        pub next_is : edge.next ≡ front bytes next next_marks edge.next.at
        pub next_up : edge.next.at ≤ s
        pub curr_is : edge.curr ≡ front bytes curr curr_marks edge.curr.at
        pub curr_up : edge.curr.at ≤ begun s

      -- no window from s that ends before e contains any weight, and e does not pass the end of the next level
      pub record Light (s e : ℕ) : Type 0 where
        pub within : e ≤ length next
        pub light : (k : ℕ) → s < k → k < e → (right_of k).curr.sum ≤ (left_of s).curr.sum

      -- e is the end of the shortest window from s whose contained tables weigh anything, or the last end of all
      pub record Shortest (s e : ℕ) : Type 0 where
        pub past : s < e
        pub lights : Light s e
        pub reaches : ((left_of s).curr.sum < (right_of e).curr.sum) ⊎ (length next ≤ e)

-- one front reaches as far as another or farther
pub record Opens (start end : Front) : Type 0 where
  pub at : start.at ≤ end.at
  pub sum : start.sum ≤ end.sum
  pub small : end.sum ≤ 2 ^ 53

-- the window between two edges is not too large and has nothing hidden, and what it contains weighs something and has nothing hidden
abbrev pub allowed : ℕ → Edge → Edge → Bool
allowed cap left right =
    nat_le (right.next.sum - left.next.sum) cap
    && (right.next.hidden - left.next.hidden == 0
    && (nat_lt 0 (right.curr.sum - left.curr.sum)
    && right.curr.hidden - left.curr.hidden == 0))

-- the merge of the window between two edges with what it contains
abbrev pub merged : Edge → Edge → Merging
merged left right =
    record {
      next = record { start = left.next.at; len = right.next.at - left.next.at };
      curr = record { start = left.curr.at; len = right.curr.at - left.curr.at };
      bytes = (right.next.sum - left.next.sum) + (right.curr.sum - left.curr.sum);
    }

-- the merge with fewer bytes, the shorter among equals, else the one that was found before
abbrev pub sooner : Option Merging → Merging → Option Merging
sooner None m = Some m
sooner (Some b) m = cond (nat_lt m.bytes b.bytes || (m.bytes == b.bytes && nat_lt m.next.len b.next.len)) (Some m) (Some b)
