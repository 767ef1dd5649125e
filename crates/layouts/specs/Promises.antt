-- What the promises over lists of calls say of small layouts. Each is taken as given here, and gives no less than this.
use Rattle.std.specs.Prelude.{◌≡◌, ℕ, ◌≤◌, true, List, [], ◌∷◌, replicate, None, ◌≢◌, Some}
use Rattle.std.specs.List.{AllByRecursion}
use Rattle.keys.specs.declared.byte_key.ByteKey.{ByteKey}
use Rattle.keys.specs.declared.stop_key.StopKey.{StopKey}
use Rattle.keys.specs.ByteKey.{byte_ranks}
use Rattle.keys.specs.StopKey.{stop_ranks}
use Rattle.runs.specs.declared.fresh.Fresh.{Fresh}
use Rattle.windows.specs.declared.slice_windows.Window.{Window}
use Rattle.windows.specs.SliceWindows.{Within}
use Rattle.picks.specs.Merge.{admissible}
use Rattle.picks.specs.PickLaw.{weight}
use Rattle.refusals.specs.declared.refusal.Refusal.TheVariants.{NotSound}
use Rattle.sheets.specs.Level.{level_of}
use Rattle.leveled.specs.Leveled.{leveled}
use Rattle.leveled.specs.Promise.{Picks}
use Rattle.books.specs.Deed.{Deed, landing, booking, closing, refusal_in, perform, after, said}
use Rattle.books.specs.Promise.{Well, StaysSound, ListsAlike}
use Rattle.books.specs.State.{State}
use Rattle.history.specs.Picks.{ListsPickWell}
use Rattle.layouts.specs.Layouts.{plain, asks, deep, abc, book_on, idle, four}

-- no job, and one table alone in a level
abbrev pub alone : (level : ℕ) → State StopKey
alone level = book_on (deep level) [] (replicate 8 None)

-- no job, and a, b and c
abbrev pub three_stand : State StopKey
three_stand = book_on abc [] (replicate 8 None)

-- a fresh table under stop keys, and one under byte keys
abbrev pub under_stops : Fresh StopKey
under_stops = record { number = 1; range = record { min = record { tour = 0; stop = 5 }; max = record { tour = 0; stop = 9 } }; size = 30; created = 3; linked = 2 }

abbrev pub under_bytes : Fresh ByteKey
under_bytes = record { number = 1; range = record { min = 0 ∷ []; max = 0 ∷ 0 ∷ [] }; size = 30; created = 3; linked = 2 }

-- it lands, is booked for a move, arrives, and cannot land again
abbrev pub day : List (Deed StopKey)
day = landing under_stops ∷ booking asks four ∷ closing 1 [] ∷ landing under_stops ∷ []

abbrev pub day_in_bytes : List (Deed ByteKey)
day_in_bytes = landing under_bytes ∷ booking (λ ts hs. leveled byte_ranks plain ts hs) four ∷ closing 1 [] ∷ landing under_bytes ∷ []

-- no tables under byte keys, and no job
abbrev pub idle_in_bytes : State ByteKey
idle_in_bytes = record { room = 1024; standing = 0; blobs = 0; tables = []; hidden = []; slots = replicate 8 None }

pub record Promised : Type 0 where
  -- picks: leveled comes to one for each level from 1 to 5, before a call and after it, whichever numbers are hidden besides
  pub picks : ListsPickWell stop_ranks → AllByRecursion (λ n. Picks stop_ranks plain (deep n) (7 ∷ []) n) (1 ∷ 2 ∷ 3 ∷ 4 ∷ 5 ∷ [])
  -- picks: no window that is admissible for a merge with a has fewer bytes than a, b and c together, and leveled merges these
  pub fewest : ListsPickWell stop_ranks → (v : Window) → Within 2 v → admissible stop_ranks (λ t. t.range) (λ t. t.size) (λ t. t.number) [] (level_of 1 abc) (level_of 2 abc) 100 v ≡ true
      → 610 ≤ weight stop_ranks (λ t. t.range) (λ t. t.size) (λ t. t.number) [] (level_of 1 abc) (level_of 2 abc) 100 v
  -- sound: after the day book and sheet are well, and its last call, which is refused, does not say that they are not sound
  pub sound : StaysSound stop_ranks → Well stop_ranks (after stop_ranks day idle) × (refusal_in (perform stop_ranks (landing under_stops) (after stop_ranks (landing under_stops ∷ booking asks four ∷ closing 1 [] ∷ []) idle)).1 ≢ Some NotSound)
  -- alike: the day under byte keys gives equal replies
  pub alike : ListsAlike stop_ranks byte_ranks → said stop_ranks day idle ≡ said byte_ranks day_in_bytes idle_in_bytes
