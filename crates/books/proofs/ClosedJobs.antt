-- The sheet and the book that a closed job leaves are sound.
use Rattle.std.proofs.Common.{◌≡◌, ℕ, ◌^◌, ◌≤◌, true, leb, List, [], length, None, Ordering, arith}
use Rattle.std.proofs.lemmas.Bool.{and_parts, leb-true}
use Rattle.keys.specs.KeyKind.{Laws}
use Rattle.runs.specs.declared.fresh.Fresh.{Fresh}
use Rattle.runs.specs.declared.table.Table.{Table}
use Rattle.sheets.specs.HiddenSet.{showing}
use Rattle.sheets.specs.Level.{size_of}
use Rattle.sheets.specs.Members.{Pairs}
use Rattle.sheets.specs.Recount.{counting}
use Rattle.sheets.specs.Sound.{Sound}
use Rattle.sheets.specs.Tables.{without, inserts}
use Rattle.sheets.proofs.Ascends.{Ahead}
use Rattle.books.specs.Booked.{span_held, Booked}
use Rattle.books.specs.Close.{first_fault, bad_table, bad_outputs, arrivals, closed}
use Rattle.books.specs.Job.{Running}
use Rattle.books.specs.Land.{has_room}
use Rattle.books.proofs.Closing.{Arrive, swapped, swapped_ascends, swapped_booked, recount_booked}
use Rattle.books.proofs.Countings.{counting_is}
use Rattle.books.proofs.Outputs.{arrives}
use Rattle.books.proofs.Outs.{Out, out_in}
use Rattle.books.proofs.Recounts.{recount_size, recount_sound}

pub room_parts : {K : Type 0} (room : ℕ) (ts : List (Table K)) → has_room room ts ≡ true → (length ts ≤ room) × (size_of ts ≤ 2 ^ 53)
room_parts room ts h = let p = and_parts (leb (length ts) room) (leb (size_of ts) (2 ^ 53)) h in (leb-true _ _ p.0, leb-true _ _ p.1)

module _ {K : Type 0} {cmp : K → K → Ordering} (laws : Laws cmp) {room standing blobs : ℕ} {ts : List (Table K)} {hidden : List ℕ} {jobs rest : List Running} {j : Running}
    (s : Sound cmp room standing blobs ts) (b : Booked cmp ts hidden jobs) (o : Out j jobs rest) (outs : List (Fresh K))
    (fresh : first_fault (bad_table cmp ts) [] outs ≡ None) (good : bad_outputs cmp j.kind (span_held cmp ts j) outs ≡ None) where
  -- the job's tables swapped for what comes in, before the recount
  abbrev pub swap : List (Table K)
  swap = inserts cmp (without j.numbers ts) (arrivals j.kind j.destination j.numbers outs ts)

  comes : Arrive cmp ts j (arrivals j.kind j.destination j.numbers outs ts)
  comes = arrives laws s.ordered b (out_in o) outs fresh good

  -- the order after the swap
  pub swap_ascends : Pairs (Ahead cmp) swap
  swap_ascends = swapped_ascends laws s.ordered b o comes

  -- so one pass counts the runs anew
  pub swap_counting : counting 0 0 swap ≡ closed cmp j outs ts
  swap_counting = counting_is cmp swap_ascends

  pub closed_booked : Booked cmp (closed cmp j outs ts) (showing j.numbers hidden) rest
  closed_booked = recount_booked laws swap (swapped_booked laws s.ordered b o comes)

  pub closed_sound : has_room room (closed cmp j outs ts) ≡ true → Sound cmp room (length (closed cmp j outs ts)) blobs (closed cmp j outs ts)
  closed_sound h =
      let p = room_parts room (closed cmp j outs ts) h in
      recount_sound swap laws s.few p.0 s.blob (swapped laws s.ordered b o comes (omega (arith, p.1, recount_size swap)))
