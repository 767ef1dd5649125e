-- The pick: a move of the longest movable window of a level, else the merge with the fewest bytes, if there is either.
use Rattle.std.specs.Prelude.{ℕ, List, Some, None, Option}
use Rattle.std.specs.declared.cmp.Ordering.{Ordering}
use Rattle.std.specs.Option.{option_map}
use Rattle.keys.specs.declared.key_range.KeyRange.{KeyRange}
use Rattle.windows.specs.declared.slice_windows.Window.{Window}
use Rattle.picks.specs.declared.pick.Pick.{Pick}
use Rattle.picks.specs.declared.pick.Pick.TheVariants.{Move, Merge}
use Rattle.picks.specs.Merge.{merging, cheapest_merge}
use Rattle.picks.specs.Movable.{longest_movable}

module _ {K T : Type 0} (cmp : K → K → Ordering) (spans : T → KeyRange K) (bytes named : T → ℕ) (hs : List ℕ) (curr next : List T) (target : ℕ) where
  -- a merge of the window that was found
  abbrev pub merge_or_nothing : Option Window → Option Pick
  merge_or_nothing o = option_map (λ w. Merge (merging cmp spans curr next bytes w)) o

  -- a move of the window that was found, else the cheapest merge
  abbrev pub move_or_merge : Option Window → Option Pick
  move_or_merge None = merge_or_nothing (cheapest_merge cmp spans bytes named hs curr next target)
  move_or_merge (Some w) = Some (Move w)

  -- what is picked
  abbrev pub pick : Option Pick
  pick = move_or_merge (longest_movable cmp spans named hs curr next)
