-- Where a fresh table comes to stand.
use Rattle.std.specs.Prelude.{ℕ}
use Rattle.runs.specs.declared.fresh.Fresh.{Fresh}
use Rattle.runs.specs.declared.table.Table.{Table}

-- a fresh table at a level and run
abbrev pub settled : {K : Type 0} → ℕ → ℕ → Fresh K → Table K
settled level run f = record { number = f.number; level = level; run = run; range = f.range; size = f.size; created = f.created; linked = f.linked }
