-- What a strategy may take from the test of the sheet that it is asked about.
use Rattle.std.proofs.Common.{◌≡◌, ℕ, ◌^◌, ◌≤◌, Bool, true, not, List, length, filter, Ordering, refl, arith}
use Rattle.std.proofs.lemmas.List.Filters.{length-filter_both}
use Rattle.std.proofs.lemmas.List.{length-map}
use Rattle.keys.specs.KeyKind.{Laws}
use Rattle.runs.specs.declared.table.Table.{Table}
use Rattle.sheets.specs.Level.{numbers_of, size_of, Stacked}
use Rattle.sheets.specs.Sound.{Sound, tables_ok}
use Rattle.sheets.proofs.Soundness.{sound_from_test, test_stacked}

module _ {K : Type 0} {cmp : K → K → Ordering} (laws : Laws cmp) (ts : List (Table K)) (ok : tables_ok cmp ts ≡ true) where
  pub tested_sound : Sound cmp 0 0 0 ts
  tested_sound = sound_from_test laws 0 0 0 ts ok

  pub tested_stacked : Stacked ts
  tested_stacked = test_stacked laws 0 0 0 ts ok

  pub tested_light : size_of ts ≤ 2 ^ 53
  tested_light = tested_sound.ordered.total

-- a place for each table is a place for each that passes
pub room_for_some : {K : Type 0} (p : Table K → Bool) (ts : List (Table K)) (places : ℕ) → length ts ≤ places → length (numbers_of (filter p ts)) ≤ places
room_for_some p ts places h = omega (arith, length-filter_both p (λ t. not (p t)) (λ t. refl) ts, length-map (filter p ts) (λ t. t.number))
