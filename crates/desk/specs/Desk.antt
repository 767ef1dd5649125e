-- What the desk answers, as text.
use Rattle.std.specs.Prelude.{◌≡◌, ℕ, List}
use Rattle.std.specs.List.{flat_map}
use Rattle.refusals.specs.declared.refusal.Refusal.{Refusal}
use Rattle.runs.specs.declared.table.Table.{Table}
use Rattle.reports.specs.Report.{refused_line, table_line}

-- the line of a refusal
abbrev pub Refuses : Refusal → List ℕ → Type 0
Refuses refusal text = text ≡ refused_line refusal

-- a line for each table
abbrev pub table_lines : {K : Type 0} → (K → List ℕ) → List (Table K) → List ℕ
table_lines spelt ts = flat_map (table_line spelt) ts
