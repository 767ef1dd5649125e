-- Level 0's runs counted anew in one pass: `next` runs are counted so far, the last of them for the old run `last`.
use Rattle.std.specs.Prelude.{ℕ, suc, ◌+◌, ◌-◌, cond, ◌&&◌, List, [], ◌∷◌, Option, None, Some, ◌==◌, nat_lt}
use Rattle.runs.specs.declared.table.Table.{Table}
use Rattle.sheets.specs.Tables.{placed}

-- the old run of the last that is counted, which is given by its old run and its new one; 0 where none is
abbrev pub old_run : Option (ℕ × ℕ) → ℕ
old_run None = 0
old_run (Some runs) = runs.0

-- how many are counted: one more than the new run of the last
abbrev pub next_run : Option (ℕ × ℕ) → ℕ
next_run None = 0
next_run (Some runs) = runs.1 + 1

-- the run that a table of level 0 gets: the last counted where its old run is that one's, else the next
abbrev pub counted_run : ℕ → ℕ → ℕ → ℕ
counted_run last next run = cond (nat_lt 0 next && run == last) (next - 1) next

-- the tables of level 0 with their runs counted, the others as they were
abbrev pub counting : {K : Type 0} → ℕ → ℕ → List (Table K) → List (Table K)
counting last next [] = []
counting last next (t ∷ ts) =
    cond (t.level == 0)
    (placed t.level (counted_run last next t.run) t ∷ counting t.run (suc (counted_run last next t.run)) ts)
    (t ∷ counting last next ts)
