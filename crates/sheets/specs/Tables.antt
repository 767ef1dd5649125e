-- Words for the tables of a sheet.
use Rattle.std.specs.Prelude.{ℕ, Bool, cond, not, List, [], ◌∷◌, ◌++◌, filter, ◌==◌}
use Rattle.std.specs.declared.cmp.Ordering.{Ordering}
use Rattle.std.specs.Ordering.{is_lt, ordering_then, nat_cmp}
use Rattle.std.specs.List.{prefix_len, list_any}
use Rattle.runs.specs.declared.table.Table.{Table}

-- the number is in the list
abbrev pub memb : ℕ → List ℕ → Bool
memb n xs = list_any (λ x. x == n) xs

module _ {K : Type 0} where
  -- the table's number is in the list
  abbrev pub named : List ℕ → Table K → Bool
  named numbers t = memb t.number numbers

  -- the table's number is not in the list
  abbrev pub unnamed : List ℕ → Table K → Bool
  unnamed numbers t = not (memb t.number numbers)

  -- the tables that the list does not name, in their order
  abbrev pub without : List ℕ → List (Table K) → List (Table K)
  without numbers ts = filter (unnamed numbers) ts

  -- those that the list does not name, then those that it names
  abbrev pub parted : List ℕ → List (Table K) → List (Table K)
  parted numbers ts = without numbers ts ++ filter (named numbers) ts

  -- the table at another level and run
  abbrev pub placed : ℕ → ℕ → Table K → Table K
  placed level run t = record { number = t.number; level = level; run = run; range = t.range; size = t.size; created = t.created; linked = t.linked }

module _ {K : Type 0} (cmp : K → K → Ordering) where
  -- by level, run and key, where t stands at the key and u at its min
  abbrev pub comes_before : Table K → K → Table K → Bool
  comes_before t key u = is_lt (ordering_then (nat_cmp t.level u.level) (ordering_then (nat_cmp t.run u.run) (cmp key u.range.min)))

  -- the order of the sheet: by level, run, min
  abbrev pub sooner : Table K → Table K → Bool
  sooner t u = comes_before t t.range.min u

  -- how many stand before the first that t comes sooner than
  abbrev pub place : Table K → List (Table K) → ℕ
  place t us = prefix_len (λ u. not (sooner t u)) us

  -- t put before the first that it comes sooner than
  abbrev pub insert : Table K → List (Table K) → List (Table K)
  insert t [] = t ∷ []
  insert t (u ∷ us) = cond (sooner t u) (t ∷ u ∷ us) (u ∷ insert t us)

  -- each of the second in turn put in its place among the first
  abbrev pub inserts : List (Table K) → List (Table K) → List (Table K)
  inserts ts [] = ts
  inserts ts (t ∷ more) = inserts (insert t ts) more
