-- What a search in a run counts: the tables of which an end lies before a key, or up to it.
use Rattle.std.specs.Prelude.{Bool, not}
use Rattle.std.specs.declared.cmp.Ordering.{Ordering}
use Rattle.std.specs.Ordering.{is_lt}
use Rattle.keys.specs.declared.key_range.KeyRange.{KeyRange}

-- which end of a range is looked at
pub data End : Type 0 where
  Min : End
  Max : End

-- whether it is to lie before a key, or may be equal to it
pub data Reach : Type 0 where
  Before : Reach
  UpTo : Reach

-- that end of a range
abbrev pub end_of : {K : Type 0} → End → KeyRange K → K
end_of Min r = r.min
end_of Max r = r.max

-- a key x lies before the key, or up to it
abbrev pub reaches : {K : Type 0} → (K → K → Ordering) → Reach → K → K → Bool
reaches cmp Before key x = is_lt (cmp x key)
reaches cmp UpTo key x = not (is_lt (cmp key x))

-- an end of a table's range lies before the key, or up to it
abbrev pub passed : {K T : Type 0} → (K → K → Ordering) → (T → KeyRange K) → End → Reach → K → T → Bool
passed cmp spans end reach key t = reaches cmp reach key (end_of end (spans t))

module _ {K T : Type 0} (cmp : K → K → Ordering) (spans : T → KeyRange K) where
  -- a table ends before the key
  abbrev pub ends_before : K → T → Bool
  ends_before = passed cmp spans Max Before

  -- a table ends with the key or before
  abbrev pub ends_by : K → T → Bool
  ends_by = passed cmp spans Max UpTo

  -- a table begins before the key
  abbrev pub begins_before : K → T → Bool
  begins_before = passed cmp spans Min Before

  -- a table begins with the key or before
  abbrev pub begins_by : K → T → Bool
  begins_by = passed cmp spans Min UpTo
