-- Which tables of a run are hidden. `named` is a table's number, `hs` the hidden numbers.
use Rattle.std.specs.Prelude.{◌≡◌, ℕ, Bool, List, map, length, take, count_by}
use Rattle.sheets.specs.Tables.{memb}

module _ {T : Type 0} (named : T → ℕ) (hs : List ℕ) where
  -- how many of some tables are hidden
  abbrev pub hidden_among : List T → ℕ
  hidden_among ts = count_by (λ t. memb (named t) hs) ts

  -- there is a mark for each table, and it says whether the table is hidden
  abbrev pub Marked : List T → List Bool → Type 0
  Marked ts marks = take (length ts) marks ≡ map (λ t. memb (named t) hs) ts
