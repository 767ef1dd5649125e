-- What lies between two bounds.
use Rattle.std.specs.Prelude.{Bool, true, not, ◌&&◌}
use Rattle.std.specs.declared.cmp.Ordering.{Ordering}
use Rattle.std.specs.Ordering.{is_lt}
use Rattle.keys.specs.declared.key_range.KeyRange.{KeyRange}
use Rattle.std.specs.declared.ops.Bound.{Bound}
use Rattle.std.specs.declared.ops.Bound.TheVariants.{Unbounded, Included, Excluded}
use Rattle.keys.specs.declared.bounds.OwnedBounds.{OwnedBounds}

module _ {K : Type 0} (cmp : K → K → Ordering) where
  -- a key is not before a start that is included, or is after one that is excluded
  abbrev pub starts_by : Bound K → K → Bool
  starts_by Unbounded key = true
  starts_by (Included first) key = not (is_lt (cmp key first))
  starts_by (Excluded before) key = is_lt (cmp before key)

  -- a key is not after an end that is included, or is before one that is excluded
  abbrev pub ends_by : Bound K → K → Bool
  ends_by Unbounded key = true
  ends_by (Included last) key = not (is_lt (cmp last key))
  ends_by (Excluded behind) key = is_lt (cmp key behind)

  -- a range lies between the bounds: its min by the start, its max by the end
  abbrev pub within : OwnedBounds K → KeyRange K → Bool
  within bounds range = starts_by bounds.start range.min && ends_by bounds.end range.max
