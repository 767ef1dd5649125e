-- What is promised of the picks of every list of calls.
use Rattle.std.specs.Prelude.{ℕ, List, [], ◌∷◌}
use Rattle.std.specs.declared.cmp.Ordering.{Ordering}
use Rattle.levels.specs.declared.settings.Settings.{Settings}
use Rattle.leveled.specs.Promise.{AlwaysPicks}
use Rattle.books.specs.Booked.{SoundState}
use Rattle.books.specs.Deed.{Deed, perform, Keep}
use Rattle.books.specs.State.{State}

module _ {K : Type 0} (cmp : K → K → Ordering) where
  -- in this state each pick that leveled comes to is as it should be, whatever it is set to and whichever numbers are hidden: a look ahead hides more than the book has
  abbrev pub PicksWell : State K → Type 0
  PicksWell st = (s : Settings) (hidden : List ℕ) → AlwaysPicks cmp s st.tables hidden

  -- so it is before each call of a list and after the last
  abbrev pub EachPicksWell : List (Deed K) → State K → Type 0
  EachPicksWell [] st = PicksWell st
  EachPicksWell (d ∷ ds) st = PicksWell st × EachPicksWell ds (perform cmp d st).0

  -- for every list of calls whose questions keep the law, from every sound state
  abbrev pub ListsPickWell : Type 0
  ListsPickWell = (ds : List (Deed K)) (st : State K) → Keep cmp ds → SoundState cmp st → EachPicksWell ds st
