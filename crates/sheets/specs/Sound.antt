-- A sound sheet: in words, pair by pair, and as a test, neighbour by neighbour.
use Rattle.std.specs.Prelude.{◌≡◌, ℕ, suc, ◌^◌, ◌<◌, ◌≤◌, Bool, true, false, cond, not, ◌&&◌, List, [], ◌∷◌, ◌==◌, nat_le}
use Rattle.std.specs.List.{list_all}
use Rattle.std.specs.declared.cmp.Ordering.{Ordering}
use Rattle.std.specs.Ordering.{is_lt}
use Rattle.keys.specs.KeyRange.{meets}
use Rattle.runs.specs.declared.table.Table.{Table}
use Rattle.sheets.specs.Level.{numbers_of, size_of}
use Rattle.sheets.specs.Members.{In, Every, Pairs}
use Rattle.sheets.specs.Tables.{memb, comes_before, sooner}

-- ---- in words
module _ {K : Type 0} where
  -- two tables have different numbers
  abbrev pub Differ : Table K → Table K → Type 0
  Differ t u = t.number ≡ u.number → ⊥

  -- level 0 has a table of this run
  abbrev pub Occupied : ℕ → List (Table K) → Type 0
  Occupied r ts = (t : Table K) × In t ts × (t.level ≡ 0) × (t.run ≡ r)

  -- a table of level 0 has a table in each run below its own
  abbrev pub Counted : List (Table K) → Table K → Type 0
  Counted ts t = t.level ≡ 0 → (r : ℕ) → r < t.run → Occupied r ts

module _ {K : Type 0} (cmp : K → K → Ordering) where
  -- no max before its min
  abbrev pub Proper : Table K → Type 0
  Proper t = is_lt (cmp t.range.max t.range.min) ≡ false

  -- two tables of one run do not meet
  abbrev pub Unmet : Table K → Table K → Type 0
  Unmet t u = t.level ≡ u.level → t.run ≡ u.run → meets cmp t.range u.range ≡ false

  -- what stands is within the limits and in order: by level, run, min
  pub record Ordered (ts : List (Table K)) : Type 0 where
    pub numbers : Pairs Differ ts
    pub levels : Every (λ t. t.level ≤ 6) ts
    pub ranges : Every Proper ts
    pub sizes : Every (λ t. t.size ≤ 2 ^ 53) ts
    pub links : Every (λ t. t.linked ≤ 2 ^ 53) ts
    pub total : size_of ts ≤ 2 ^ 53
    pub single : Every (λ t. 0 < t.level → t.run ≡ 0) ts
    pub apart : Pairs Unmet ts
    pub order : Pairs (λ t u. sooner cmp u t ≡ false) ts

  -- A sheet of so much room, of which so many tables stand, is sound with a blob total:
  -- all that stand fit, level 0's runs count from 0 without gaps, and any other level is empty or one run, number 0.
  pub record Sound (room standing blobs : ℕ) (ts : List (Table K)) : Type 0 where
    pub few : room ≤ 1024
    pub fits : standing ≤ room
    pub blob : blobs ≤ 2 ^ 53
    pub ordered : Ordered ts
    pub counted : Every (Counted ts) ts

-- ---- as a test
-- no number stands twice
abbrev pub distinct : List ℕ → Bool
distinct [] = true
distinct (n ∷ ns) = not (memb n ns) && distinct ns

-- level 0's runs, of which n are counted, go on without a gap; any other level has run 0 alone
abbrev pub counts_on : {K : Type 0} → ℕ → List (Table K) → Bool
counts_on n [] = true
counts_on n (t ∷ ts) = cond (t.level == 0) (cond (t.run == n) (counts_on (suc n) ts) (suc t.run == n && counts_on n ts)) (t.run == 0 && counts_on n ts)

module _ {K : Type 0} (cmp : K → K → Ordering) where
  -- a level that there is, no max before its min, and a size and a linked sum that are not too large
  abbrev pub within_limits : Table K → Bool
  within_limits t = nat_le t.level 6 && (nat_le t.size (2 ^ 53) && (nat_le t.linked (2 ^ 53) && not (is_lt (cmp t.range.max t.range.min))))

  -- an earlier level; or an earlier run of it; or, in one run, an end before the other's begin
  abbrev pub ahead : Table K → Table K → Bool
  ahead t u = comes_before cmp t t.range.max u

  -- ahead of the next, if any
  abbrev pub leads : Table K → List (Table K) → Bool
  leads t [] = true
  leads t (u ∷ us) = ahead t u

  -- each is ahead of the next
  abbrev pub in_order : List (Table K) → Bool
  in_order [] = true
  in_order (t ∷ ts) = leads t ts && in_order ts

  -- what stands in a sheet that is sound
  abbrev pub tables_ok : List (Table K) → Bool
  tables_ok ts = list_all within_limits ts && (nat_le (size_of ts) (2 ^ 53) && (in_order ts && (counts_on 0 ts && distinct (numbers_of ts))))

  -- the test of a sheet
  abbrev pub sheet_ok : ℕ → ℕ → ℕ → List (Table K) → Bool
  sheet_ok room standing blobs ts = nat_le room 1024 && (nat_le standing room && (nat_le blobs (2 ^ 53) && tables_ok ts))
