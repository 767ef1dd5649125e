-- What leveled promises of its picks.
use Rattle.std.specs.Prelude.{◌≡◌, ℕ, suc, true, false, List, Some}
use Rattle.std.specs.declared.cmp.Ordering.{Ordering}
use Rattle.runs.specs.declared.table.Table.{Table}
use Rattle.levels.specs.declared.settings.Settings.{Settings}
use Rattle.levels.specs.Settings.{in_limits}
use Rattle.levels.specs.Scores as S
use Rattle.picks.specs.PickLaw.{PickLaw}
use Rattle.sheets.specs.Level.{level_of}
use Rattle.leveled.specs.Leveled.{first_level, scores, sinks, slides, picked, pick_for, leveled}

module _ {K : Type 0} (cmp : K → K → Ordering) (s : Settings) (ts : List (Table K)) (hs : List ℕ) where
  -- leveled comes to a pick for level n: the settings are within their limits, neither step 1 nor step 3 moves level 0, and level n wins
  pub record ComesTo (n : ℕ) : Type 0 where
    pub limits : in_limits s ≡ true
    pub stays : sinks cmp s ts hs ≡ false
    pub holds : slides cmp s ts hs (first_level s ts hs) ≡ false
    pub wins : S.chosen (scores s ts hs (first_level s ts hs)) ≡ Some n

  -- its answer is what is picked for level n and the next, and the pick keeps its law
  pub record Picks (n : ℕ) : Type 0 where
    pub answer : leveled cmp s ts hs ≡ picked cmp s ts hs (first_level s ts hs) n (pick_for cmp s ts hs n)
    pub law : PickLaw cmp (λ t. t.range) (λ t. t.size) (λ t. t.number) hs (level_of n ts) (level_of (suc n) ts) s.target_size (pick_for cmp s ts hs n)

  -- whenever it comes to a pick for a level below level 0
  abbrev pub AlwaysPicks : Type 0
  AlwaysPicks = (n : ℕ) → ComesTo (suc n) → Picks (suc n)
