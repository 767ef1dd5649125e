-- What is asked of two ranges, over any order of their keys.
use Rattle.std.specs.Prelude.{Bool, cond, not, ◌&&◌}
use Rattle.std.specs.declared.cmp.Ordering.{Ordering}
use Rattle.std.specs.Ordering.{is_lt}
use Rattle.keys.specs.declared.key_range.KeyRange.{KeyRange}

-- Two ranges meet unless one's max is before the other's min.
abbrev pub meets : {K : Type 0} → (K → K → Ordering) → KeyRange K → KeyRange K → Bool
meets cmp a b = not (is_lt (cmp a.max b.min)) && not (is_lt (cmp b.max a.min))

-- The second lies inside the first: it neither begins before it nor ends after it.
abbrev pub inside : {K : Type 0} → (K → K → Ordering) → KeyRange K → KeyRange K → Bool
inside cmp a b = not (is_lt (cmp b.min a.min)) && not (is_lt (cmp a.max b.max))

-- From the lesser min to the greater max; where two ends are equal, the first range's.
abbrev pub wider : {K : Type 0} → (K → K → Ordering) → KeyRange K → KeyRange K → KeyRange K
wider cmp a b = record { min = cond (is_lt (cmp b.min a.min)) b.min a.min; max = cond (is_lt (cmp a.max b.max)) b.max a.max }
