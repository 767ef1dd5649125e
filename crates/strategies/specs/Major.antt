-- Major: every table into level 6.
use Rattle.std.specs.Prelude.{ℕ, true, cond, List}
use Rattle.std.specs.List.{list_any}
use Rattle.runs.specs.declared.table.Table.{Table}
use Rattle.sheets.specs.Tables.{named}
use Rattle.strategies.specs.declared.choice.Kind.TheVariants.{Merge}
use Rattle.strategies.specs.Answer.{Answer, nothing, naming}

-- a merge of all that stand, canonical level 6; nothing if a table is hidden
abbrev pub major : {K : Type 0} → ℕ → List (Table K) → List ℕ → Answer
major target ts hs = cond (list_any (named hs) ts) nothing (naming Merge 6 6 target (λ t. true) ts)
