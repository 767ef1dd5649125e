-- The question put to a strategy about the first `standing` tables of a sheet: `g` is what the strategy answers to standing tables and hidden numbers.
use Rattle.std.specs.Prelude.{ℕ, cond, List, length, take, Err, Result}
use Rattle.std.specs.declared.cmp.Ordering.{Ordering}
use Rattle.refusals.specs.declared.refusal.Refusal.{Refusal}
use Rattle.refusals.specs.declared.refusal.Refusal.TheVariants.{NotSound}
use Rattle.runs.specs.declared.table.Table.{Table}
use Rattle.sheets.specs.Sound.{sheet_ok}
use Rattle.strategies.specs.declared.choice.Choice.{Choice}
use Rattle.strategies.specs.declared.choice.Choice.TheVariants as C
use Rattle.strategies.specs.Answer.{Answer, asked, noted}

-- how many tables a choice names
abbrev pub count_in : Choice → ℕ
count_in C.DoNothing = 0
count_in (C.Move input) = input.tables.count
count_in (C.Merge input) = input.tables.count
count_in (C.Drop named) = named.count

module _ {K : Type 0} (cmp : K → K → Ordering) (g : List (Table K) → List ℕ → Answer) (sheet : List (Table K)) (standing : ℕ) (hs : List ℕ) (blobs : ℕ) where
  -- refused on a sheet that is not sound; else the strategy's answer, refused where the id sheet has too few places
  abbrev pub proposed : ℕ → Result Choice Refusal
  proposed places = cond (sheet_ok cmp (length sheet) standing blobs (take standing sheet)) (asked (g (take standing sheet) hs) places) (Err NotSound)

  -- the id sheet after: the numbers in its front; refused, it keeps its content
  abbrev pub ids_after : List ℕ → List ℕ
  ids_after ids = cond (sheet_ok cmp (length sheet) standing blobs (take standing sheet)) (noted (g (take standing sheet) hs) ids) ids
