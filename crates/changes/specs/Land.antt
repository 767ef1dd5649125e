-- A landing in the lent sheet.
use Rattle.std.specs.Prelude.{◌≡◌, ℕ, cond, List, Ok, Err, Option, Result}
use Rattle.std.specs.declared.cmp.Ordering.{Ordering}
use Rattle.refusals.specs.declared.refusal.Refusal.{Refusal}
use Rattle.refusals.specs.declared.refusal.Refusal.TheVariants.{BadTable, Full}
use Rattle.runs.specs.declared.fresh.Fresh.{Fresh}
use Rattle.runs.specs.declared.table.Table.{Table}
use Rattle.books.specs.Job.{Running}
use Rattle.books.specs.Land.{has_room, fresh_ok, landing_run, landed, land}
use Rattle.changes.specs.Changes.{on_sheet, count_after, said}

-- the run that takes a fresh table, unless it may not stand with the others or there is no room
abbrev pub admitted : {K : Type 0} → (K → K → Ordering) → Fresh K → ℕ → List (Table K) → Result ℕ Refusal
admitted cmp f room ts = cond (fresh_ok cmp ts f) (cond (has_room room (landed cmp f ts)) (Ok (landing_run cmp f ts)) (Err Full)) (Err (BadTable 0))

-- The sheet, of which n tables stood, was left as the other, and r was returned: on every book with this sheet that is what landing the table does.
abbrev pub Lands : {K : Type 0} → (K → K → Ordering) → Fresh K → List (Table K) → ℕ → List (Table K) → Result ℕ Refusal → Type 0
Lands cmp f sheet n left r =
    (blobs : ℕ) (hidden : List ℕ) (slots : List (Option Running)) → land cmp f (on_sheet sheet n blobs hidden slots) ≡ (on_sheet left (count_after n r) blobs hidden slots, said r)
