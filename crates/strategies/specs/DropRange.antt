-- Range drop: every table that lies wholly between two bounds.
use Rattle.std.specs.Prelude.{ℕ, Bool, cond, ◌&&◌, List}
use Rattle.std.specs.List.{list_any}
use Rattle.std.specs.declared.cmp.Ordering.{Ordering}
use Rattle.keys.specs.declared.bounds.OwnedBounds.{OwnedBounds}
use Rattle.keys.specs.Bounds.{within}
use Rattle.runs.specs.declared.table.Table.{Table}
use Rattle.sheets.specs.Tables.{named}
use Rattle.strategies.specs.declared.choice.Kind.TheVariants.{Drop}
use Rattle.strategies.specs.Answer.{Answer, nothing, naming}

module _ {K : Type 0} (cmp : K → K → Ordering) (bounds : OwnedBounds K) where
  -- the table lies between the bounds
  abbrev pub in_bounds : Table K → Bool
  in_bounds t = within cmp bounds t.range

  -- a drop of all in the bounds; nothing if one of them is hidden
  abbrev pub drop_range : List (Table K) → List ℕ → Answer
  drop_range ts hs = cond (list_any (λ t. in_bounds t && named hs t) ts) nothing (naming Drop 0 0 0 in_bounds ts)
