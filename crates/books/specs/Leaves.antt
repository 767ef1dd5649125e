-- What a landing and a close leave of the tables, in words.
use Rattle.std.specs.Prelude.{◌≡◌, ℕ, suc, ◌<◌, ◌≤◌, true, false, cond, is_ok, ◌⊎◌, List}
use Rattle.std.specs.Option.{IsSomeAnd}
use Rattle.std.specs.declared.cmp.Ordering.{Ordering}
use Rattle.keys.specs.KeyRange.{meets}
use Rattle.runs.specs.declared.fresh.Fresh.{Fresh}
use Rattle.runs.specs.declared.table.Table.{Table}
use Rattle.runs.specs.Fresh.{settled}
use Rattle.sheets.specs.Level.{in_level}
use Rattle.sheets.specs.Members.{In, Every}
use Rattle.sheets.specs.Sound.{Occupied}
use Rattle.sheets.specs.Tables.{named, placed}
use Rattle.strategies.specs.declared.choice.Kind.TheVariants.{Move, Merge}
use Rattle.books.specs.Calls.{land, close}
use Rattle.books.specs.Job.{Running, found}
use Rattle.books.specs.State.{State}

-- ---- landing
module _ {K : Type 0} (cmp : K → K → Ordering) where
  -- level 0 has a table of this run that meets the fresh one
  abbrev pub Met : Fresh K → ℕ → List (Table K) → Type 0
  Met f r ts = (t : Table K) × In t ts × (t.level ≡ 0) × (t.run ≡ r) × (meets cmp t.range f.range ≡ true)

  -- All that stood stands as it did, and the fresh table stands in level 0: above every table there that it meets, in the last run or behind it,
  -- and in a run of its own only where level 0 is empty or it meets a table of the run below.
  pub record Landed (f : Fresh K) (before after : List (Table K)) : Type 0 where
    pub run : ℕ
    pub new : In (settled 0 run f) after
    pub kept : Every (λ t. In t after) before
    pub only : Every (λ t. (t ≡ settled 0 run f) ⊎ In t before) after
    pub above : Every (λ t. t.level ≡ 0 → meets cmp t.range f.range ≡ true → t.run < run) before
    pub last : Every (λ t. t.level ≡ 0 → t.run ≤ run) before
    pub needed : (r : ℕ) → run ≡ suc r → Occupied run before ⊎ Met f r before

  -- of every landing that is granted
  abbrev pub LandsInWords : Type 0
  LandsInWords = (f : Fresh K) (st : State K) → is_ok (land cmp f st).1 ≡ true → Landed f st.tables (land cmp f st).0.tables

-- ---- closing
module _ {K : Type 0} where
  -- a table, in level 0 with another run
  abbrev pub rerun : (ℕ → ℕ) → Table K → Table K
  rerun run t = placed t.level (cond (in_level 0 t) (run t.run) t.run) t

  module _ (j : Running) (outs : List (Fresh K)) (before : List (Table K)) where
    -- a table of a move, at the destination
    abbrev pub Moved : Table K → Type 0
    Moved u = (j.kind ≡ Move) × (t : Table K) × In t before × (named j.numbers t ≡ true) × (u ≡ placed j.destination 0 t)

    -- an output of a merge, at the destination
    abbrev pub Merged : Table K → Type 0
    Merged u = (j.kind ≡ Merge) × (f : Fresh K) × In f outs × (u ≡ settled j.destination 0 f)

    -- What stands are the tables of no part in the job, as they were but for the number of their run in level 0, where runs stay apart and in order;
    -- and those of a move or the outputs of a merge at the destination. So the tables of a merge or a drop have left.
    pub record Closed (after : List (Table K)) : Type 0 where
      pub run : ℕ → ℕ
      pub rises : Every (λ t. t.level ≡ 0 → named j.numbers t ≡ false → (r : ℕ) → t.run < r → run t.run < run r) before
      pub others : Every (λ t. named j.numbers t ≡ false → In (rerun run t) after) before
      pub moved : (u : Table K) → Moved u → In u after
      pub merged : (u : Table K) → Merged u → In u after
      pub only : Every (λ u. ((t : Table K) × In t before × (named j.numbers t ≡ false) × (u ≡ rerun run t)) ⊎ (Moved u ⊎ Merged u)) after

module _ {K : Type 0} (cmp : K → K → Ordering) where
  -- of every close that is granted
  abbrev pub ClosesInWords : Type 0
  ClosesInWords = (n : ℕ) (outs : List (Fresh K)) (st : State K) → is_ok (close cmp n outs st).1 ≡ true
      → IsSomeAnd (found n st.slots) (λ j. Closed j outs st.tables (close cmp n outs st).0.tables)
