-- Words for the tables of a job among those that stand.
use Rattle.std.specs.Prelude.{ℕ, Bool, cond, not, ◌||◌, List, [], ◌∷◌, Option, ◌==◌}
use Rattle.std.specs.declared.cmp.Ordering.{Ordering}
use Rattle.keys.specs.declared.key_range.KeyRange.{KeyRange}
use Rattle.keys.specs.KeyRange.{meets}
use Rattle.runs.specs.declared.table.Table.{Table}
use Rattle.picks.specs.Movable.{meets_span}
use Rattle.sheets.specs.Tables.{named}
use Rattle.books.specs.Booked.{pairs_by}

-- the elements that are marked
abbrev pub marked : {X : Type 0} → List Bool → List X → List X
marked [] xs = []
marked (m ∷ ms) [] = []
marked (m ∷ ms) (x ∷ xs) = cond m (x ∷ marked ms xs) (marked ms xs)

module _ {K : Type 0} (cmp : K → K → Ordering) where
  -- outside the level, of these numbers, or clear of the span
  abbrev pub clear_by : ℕ → List ℕ → Option (KeyRange K) → Table K → Bool
  clear_by level numbers span u = not (u.level == level) || (named numbers u || not (meets_span cmp (λ t. t.range) span u))

  -- no two of the tables meet
  abbrev pub unmet : List (Table K) → Bool
  unmet ts = pairs_by (λ t u. not (meets cmp t.range u.range)) ts
