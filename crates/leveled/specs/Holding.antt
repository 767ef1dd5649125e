-- What the levels of a sheet hold.
use Rattle.std.specs.Prelude.{ℕ, List, ◌∷◌, map, length}
use Rattle.std.specs.List.{list_any}
use Rattle.runs.specs.declared.table.Table.{Table}
use Rattle.sheets.specs.Level.{size_of, level_of}
use Rattle.sheets.specs.Tables.{named, without}
use Rattle.leveled.specs.declared.holding.Holding.{Holding}
use Rattle.leveled.specs.Leveled.{deeper}

module _ {K : Type 0} where
  -- what some tables of a level hold: their count, their free bytes, whether one is hidden
  abbrev pub holding_of : List ℕ → List (Table K) → Holding
  holding_of hs ts = record { table_count = length ts; free_bytes = size_of (without hs ts); is_busy = list_any (named hs) ts }

  -- what level n holds
  abbrev pub held : List ℕ → List (Table K) → ℕ → Holding
  held hs ts n = holding_of hs (level_of n ts)

  -- what each level holds
  abbrev pub levels_of : List ℕ → List (Table K) → List Holding
  levels_of hs ts = map (held hs ts) (0 ∷ deeper)
