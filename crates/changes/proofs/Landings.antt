-- A landing in the lent sheet is the landing on every book with that sheet.
use Rattle.std.proofs.Common.{◌≡◌, ℕ, ◌+◌, ◌<◌, ◌≤◌, Bool, true, false, cond, List, length, take, Ok, Err, Option, Result, Ordering, sym, refl, ap, ◌∙◌, arith}
use Rattle.std.proofs.lemmas.List.{length-take-le}
use Rattle.refusals.specs.declared.refusal.Refusal.{Refusal}
use Rattle.refusals.specs.declared.refusal.Refusal.TheVariants.{BadTable, Full}
use Rattle.runs.specs.declared.fresh.Fresh.{Fresh}
use Rattle.runs.specs.declared.table.Table.{Table}
use Rattle.sheets.specs.Edits.{laid}
use Rattle.runs.specs.Fresh.{settled}
use Rattle.sheets.specs.Tables.{insert}
use Rattle.sheets.proofs.Laid.{take_laid}
use Rattle.books.specs.Job.{Running}
use Rattle.books.specs.Land.{has_room, fresh_ok, landing_run, landed}
use Rattle.books.specs.State.{State}
use Rattle.books.proofs.ClosedJobs.{room_parts}
use Rattle.books.proofs.Rooms.{landed_length}
use Rattle.changes.specs.Changes.{on_sheet}
use Rattle.changes.specs.Land.{admitted, Lands}

-- ---- the state of a book on a changed sheet
pub stands_on : {K : Type 0} (s ts : List (Table K)) (n room blobs : ℕ) (hidden : List ℕ) (slots : List (Option Running)) → room ≡ length s → length ts ≡ n → ts ≡ take n s
    → ◌≡◌ {A = State K} (record { room = room; standing = length ts; blobs = blobs; tables = ts; hidden = hidden; slots = slots }) (on_sheet s n blobs hidden slots)
stands_on s ts n room blobs hidden slots e f g = cc

-- ---- two tests, one after the other
module _ {A : Type 0} (kept done : A) (run : ℕ) (x y : Refusal) where
  abbrev tested : Bool → Bool → Result ℕ Refusal
  tested a b = cond a (cond b (Ok run) (Err x)) (Err y)

  abbrev result : Bool → Bool → A × Result (Unit {0}) Refusal
  result a b = cond a (cond b (done, Ok tt) (kept, Err x)) (kept, Err y)

  granted_is : (a b : Bool) (r : ℕ) → Ok r ≡ tested a b → (result a b ≡ (done, Ok tt)) × (r ≡ run) × (b ≡ true)
  granted_is true true r h = (refl, cc, refl)
  granted_is true false r h = absurd (let z : ◌≡◌ {A = ℕ} 0 1 = cc in omega arith)
  granted_is false b r h = absurd (let z : ◌≡◌ {A = ℕ} 0 1 = cc in omega arith)

module _ {K : Type 0} (cmp : K → K → Ordering) (f : Fresh K) (s : List (Table K)) (n : ℕ) where
  abbrev ts : List (Table K)
  ts = take n s

  -- ---- what a landing leaves
  module _ (run : ℕ) (h : Ok run ≡ admitted cmp f (length s) ts) where
    pub land_room : has_room (length s) (landed cmp f ts) ≡ true
    land_room = (granted_is s s (landing_run cmp f ts) Full (BadTable 0) (fresh_ok cmp ts f) (has_room (length s) (landed cmp f ts)) run h).2

    pub land_within : n ≤ length s → n < length s
    land_within le = omega (arith, length-take-le n s le, landed_length cmp f ts, (room_parts (length s) (landed cmp f ts) land_room).0)

    pub land_sheet : (s' : List (Table K)) (t : Table K) → t ≡ settled 0 run f → s' ≡ laid (insert cmp t ts) s → s' ≡ laid (landed cmp f ts) s
    land_sheet s' t e is = is ∙ ap (λ u. laid (insert cmp u ts) s) e ∙ ap (λ r. laid (insert cmp (settled 0 r f) ts) s) (granted_is s s (landing_run cmp f ts) Full (BadTable 0) (fresh_ok cmp ts f) (has_room (length s) (landed cmp f ts)) run h).1

    pub land_done : n ≤ length s → (s' : List (Table K)) → length s' ≡ length s → s' ≡ laid (landed cmp f ts) s → Lands cmp f s n s' (Ok (n + 1))
    land_done le s' same is blobs hidden slots =
        let L = landed cmp f ts in
        let long : length L ≡ n + 1 = omega (arith, length-take-le n s le, landed_length cmp f ts) in
        (granted_is _ _ (landing_run cmp f ts) Full (BadTable 0) (fresh_ok cmp ts f) (has_room (length s) (landed cmp f ts)) run h).0
        ∙ ap (λ st. (st, Ok tt)) (stands_on s' L (n + 1) (length s) blobs hidden slots (sym same) long (sym (ap (take (n + 1)) is ∙ take_laid L s (n + 1) (sym long))))
