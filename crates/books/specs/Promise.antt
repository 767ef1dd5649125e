-- What is promised of every list of calls.
use Rattle.std.specs.Prelude.{◌≡◌, ◌≤◌, false, List, [], ◌∷◌, Some, ◌≢◌}
use Rattle.std.specs.declared.cmp.Ordering.{Ordering}
use Rattle.refusals.specs.declared.refusal.Refusal.TheVariants.{NotSound}
use Rattle.keys.specs.KeyRange.{meets}
use Rattle.keys.specs.Pairing.{Both, CompareAlike}
use Rattle.runs.specs.declared.table.Table.{Table}
use Rattle.sheets.specs.Members.{In, Pairs}
use Rattle.sheets.specs.Sound.{Differ}
use Rattle.books.specs.Booked.{Disjoint, SoundState}
use Rattle.books.specs.Deed.{Deed, refusal_in, perform, after, said, Keep}
use Rattle.books.specs.Job.{running}
use Rattle.books.specs.Pairing.{TwinState, TwinDeed}
use Rattle.books.specs.State.{State}

-- ---- sound
module _ {K : Type 0} (cmp : K → K → Ordering) where
  -- book and sheet are sound, no two tables of a level from 1 to 6 meet, and no table is in two running jobs
  pub record Well (st : State K) : Type 0 where
    pub sound : SoundState cmp st
    pub levels : (t u : Table K) → In t st.tables → In u st.tables → 1 ≤ t.level → t.level ≡ u.level → Differ t u → meets cmp t.range u.range ≡ false
    pub jobs : Pairs Disjoint (running st.slots)

  -- so it is before each call of a list and after the last, and no call says that they are not sound
  abbrev pub Always : List (Deed K) → State K → Type 0
  Always [] st = Well st
  Always (d ∷ ds) st = Well st × (refusal_in (perform cmp d st).1 ≢ Some NotSound) × Always ds (perform cmp d st).0

  -- for every list of calls whose questions keep the law, from every sound state
  abbrev pub StaysSound : Type 0
  StaysSound = (ds : List (Deed K)) (st : State K) → Keep cmp ds → SoundState cmp st → Always ds st

-- ---- alike
module _ {A B : Type 0} (cmp_a : A → A → Ordering) (cmp_b : B → B → Ordering) where
  -- where pairs of keys compare alike: calls and states that are equal but for keys that pair give equal replies, and states that are
  abbrev pub RunsAlike : (A → B → Type 0) → Type 0
  RunsAlike R =
      CompareAlike cmp_a cmp_b R → (ds : List (Deed A)) (es : List (Deed B)) (s : State A) (t : State B) → Both (TwinDeed R) ds es → TwinState R s t
      → TwinState R (after cmp_a ds s) (after cmp_b es t) × (said cmp_a ds s ≡ said cmp_b es t)

  -- for every list of pairs of keys
  abbrev pub ListsAlike : Type 0
  ListsAlike = (pairs : List (A × B)) → RunsAlike (λ a b. In (a, b) pairs)
