-- Landing a table.
use Rattle.std.specs.Prelude.{ℕ, suc, ◌-◌, ◌^◌, Bool, cond, not, ◌&&◌, List, length, Ok, Err, Result, ◌==◌, nat_le}
use Rattle.std.specs.List.{list_any}
use Rattle.std.specs.declared.cmp.Ordering.{Ordering}
use Rattle.std.specs.Ordering.{is_lt}
use Rattle.refusals.specs.declared.refusal.Refusal.{Refusal}
use Rattle.refusals.specs.declared.refusal.Refusal.TheVariants.{BadTable, Full}
use Rattle.keys.specs.KeyRange.{meets}
use Rattle.runs.specs.declared.fresh.Fresh.{Fresh}
use Rattle.runs.specs.declared.table.Table.{Table}
use Rattle.sheets.specs.Level.{numbers_of, size_of, in_level, runs}
use Rattle.runs.specs.Fresh.{settled}
use Rattle.sheets.specs.Tables.{memb, insert}
use Rattle.books.specs.State.{State, with_tables}

-- the sheet has places for the tables, and their sizes together are at most 2^53
abbrev pub has_room : {K : Type 0} → ℕ → List (Table K) → Bool
has_room room ts = nat_le (length ts) room && nat_le (size_of ts) (2 ^ 53)

module _ {K : Type 0} (cmp : K → K → Ordering) where
  -- a fresh table may stand with these: no max before its min, no size or linked sum too large, no number that stands
  abbrev pub fresh_ok : List (Table K) → Fresh K → Bool
  fresh_ok ts f = not (is_lt (cmp f.range.max f.range.min)) && (nat_le f.size (2 ^ 53) && (nat_le f.linked (2 ^ 53) && not (memb f.number (numbers_of ts))))

  -- a table of the last of n runs of level 0 that meets the fresh one
  abbrev pub bars : Fresh K → ℕ → Table K → Bool
  bars f n t = in_level 0 t && (suc t.run == n && meets cmp t.range f.range)

  -- level 0's last run if the table meets nothing there, else a new one behind it; run 0 on an empty level 0
  abbrev pub landing_run : Fresh K → List (Table K) → ℕ
  landing_run f ts = cond (list_any (bars f (runs ts)) ts) (runs ts) (runs ts - 1)

  -- the tables with the fresh one landed
  abbrev pub landed : Fresh K → List (Table K) → List (Table K)
  landed f ts = insert cmp (settled 0 (landing_run f ts) f) ts

  -- landing on a sound book: a bad table is refused first, then a full sheet
  abbrev pub land : Fresh K → State K → State K × Result (Unit {0}) Refusal
  land f st =
      cond (fresh_ok st.tables f)
      (cond (has_room st.room (landed f st.tables)) (with_tables st (length (landed f st.tables)) (landed f st.tables), Ok tt) (st, Err Full))
      (st, Err (BadTable 0))
