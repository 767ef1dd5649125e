-- Levels of a sheet: which tables stand in one, how many they are, and what they weigh.
use Rattle.std.specs.Prelude.{◌≡◌, ℕ, suc, ◌≤◌, max, Bool, cond, List, [], ◌∷◌, map, length, sum_by, filter, ◌==◌}
use Rattle.std.specs.List.{list_any}
use Rattle.runs.specs.declared.table.Table.{Table}
use Rattle.sheets.specs.Members.{Pairs}
use Rattle.sheets.specs.Tables.{named, without}

module _ {K : Type 0} where
  -- the numbers of some tables
  abbrev pub numbers_of : List (Table K) → List ℕ
  numbers_of ts = map (λ t. t.number) ts

  -- the bytes of some tables
  abbrev pub size_of : List (Table K) → ℕ
  size_of ts = sum_by (λ t. t.size) ts

  -- the table stands in level n
  abbrev pub in_level : ℕ → Table K → Bool
  in_level n t = t.level == n

  -- the tables of level n, in their order
  abbrev pub level_of : ℕ → List (Table K) → List (Table K)
  level_of n ts = filter (in_level n) ts

  -- how many tables level n has
  abbrev pub count_of : List (Table K) → ℕ → ℕ
  count_of ts n = length (level_of n ts)

  -- level n has a table
  abbrev pub filled : List (Table K) → ℕ → Bool
  filled ts n = list_any (in_level n) ts

  -- level n has a hidden table
  abbrev pub touched : List ℕ → List (Table K) → ℕ → Bool
  touched hs ts n = list_any (named hs) (level_of n ts)

  -- the free bytes of level n: those of its tables that are not hidden
  abbrev pub free_of : List ℕ → List (Table K) → ℕ → ℕ
  free_of hs ts n = size_of (without hs (level_of n ts))

  -- how many runs level 0 has, where they count from 0
  abbrev pub runs : List (Table K) → ℕ
  runs [] = 0
  runs (t ∷ ts) = cond (in_level 0 t) (max (suc t.run) (runs ts)) (runs ts)

  -- levels ascend, and within a level runs do
  abbrev pub Stacked : List (Table K) → Type 0
  Stacked ts = Pairs (λ t u. (t.level ≤ u.level) × (t.level ≡ u.level → t.run ≤ u.run)) ts
