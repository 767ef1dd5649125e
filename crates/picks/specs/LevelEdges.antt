-- The edges of windows of the next level and the cheapest merge, over the two levels that a pick looks at.
use Rattle.std.specs.Prelude.{◌≡◌, ℕ, List, Option}
use Rattle.std.specs.Option.{option_map}
use Rattle.keys.specs.declared.key_kind.KeyKind.{Ghosts as KeyGhosts}
use Rattle.runs.specs.declared.ranged.Ranged.{Ghosts as RangedGhosts}
use Rattle.runs.specs.declared.ranged.TableFile.{Ghosts as FileGhosts}
use Rattle.picks.specs.declared.edges.Edge.{Edge}
use Rattle.picks.specs.declared.edges.Levels.{Levels}
use Rattle.picks.specs.declared.merge.Merging.{Merging}
use Rattle.picks.specs.Edges.{left_of, right_of, LeftFrom, Light, Shortest}
use Rattle.picks.specs.Marks.{Marked}
use Rattle.picks.specs.Merge.{cheapest_merge, merging}

module _ {K T : Type 0} {file : FileGhosts T K} {ranged : RangedGhosts T K} {key : KeyGhosts K} (v : Levels T K file ranged key) where
  -- the left edge of s
  abbrev pub left_edge_of : ℕ → Edge
  left_edge_of s = left_of key.ranks ranged.spans v.curr.level.run.tables.now v.next.level.run.tables.now file.bytes v.curr.marks v.next.marks s

  -- the right edge of e
  abbrev pub right_edge_of : ℕ → Edge
  right_edge_of e = right_of key.ranks ranged.spans v.curr.level.run.tables.now v.next.level.run.tables.now file.bytes v.curr.marks v.next.marks e

  -- an edge reaches no farther than the left edge of s
  abbrev pub StartsBefore : ℕ → Edge → Type 0
  StartsBefore s edge = LeftFrom key.ranks ranged.spans v.curr.level.run.tables.now v.next.level.run.tables.now file.bytes v.curr.marks v.next.marks s edge

  -- no window from s that ends before e contains any weight
  abbrev pub WeighsNothing : ℕ → ℕ → Type 0
  WeighsNothing s e = Light key.ranks ranged.spans v.curr.level.run.tables.now v.next.level.run.tables.now file.bytes v.curr.marks v.next.marks s e

  -- the window from s that ends before e is the shortest whose contained tables weigh anything, or else the longest
  abbrev pub IsShortest : ℕ → ℕ → Type 0
  IsShortest s e = Shortest key.ranks ranged.spans v.curr.level.run.tables.now v.next.level.run.tables.now file.bytes v.curr.marks v.next.marks s e

  -- m is the merge of the admissible window with the fewest bytes, if there is one, for the hidden numbers that the marks of both levels were made from
  abbrev pub IsCheapest : ℕ → Option Merging → Type 0
  IsCheapest target m =
      (hs : List ℕ) → Marked file.named hs v.curr.level.run.tables.now v.curr.marks → Marked file.named hs v.next.level.run.tables.now v.next.marks
      → m ≡ option_map (merging key.ranks ranged.spans v.curr.level.run.tables.now v.next.level.run.tables.now file.bytes) (cheapest_merge key.ranks ranged.spans file.bytes file.named hs v.curr.level.run.tables.now v.next.level.run.tables.now target)
