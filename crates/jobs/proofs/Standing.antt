-- What stands after a change that was not refused.
use Rattle.std.proofs.Common.{◌≡◌, ℕ, Bool, true, false, cond, List, [], Some, None, Ok, Err, Option, Result, Ordering, ap, arith}
use Rattle.refusals.specs.declared.refusal.Refusal.{Refusal}
use Rattle.refusals.specs.declared.refusal.Refusal.TheVariants.{BadTable, Full}
use Rattle.runs.specs.declared.fresh.Fresh.{Fresh}
use Rattle.books.specs.Booked.{span_held}
use Rattle.books.specs.Close.{first_fault, bad_table, bad_outputs, closed, settled_or_full, unless_outputs, unless_tables, close_found}
use Rattle.books.specs.Job.{Running}
use Rattle.books.specs.Land.{has_room, fresh_ok, landed, land}
use Rattle.books.specs.State.{State}

-- what was refused was not done
refused : {A : Type 0} {x y : A} {e : Refusal} → ◌≡◌ {A = A × Result (Unit {0}) Refusal} (x, Err e) (y, Ok tt) → ⊥
refused {e = e} h = let no : ◌≡◌ {A = Result (Unit {0}) Refusal} (Err e) (Ok tt) = ap (λ w. w.1) h in let z : ◌≡◌ {A = ℕ} 0 1 = cc in omega arith

module _ {A : Type 0} (kept done left : A) (e f : Refusal) where
  done_by : (a b : Bool) → ◌≡◌ {A = A × Result (Unit {0}) Refusal} (cond a (cond b (done, Ok tt) (kept, Err e)) (kept, Err f)) (left, Ok tt) → done ≡ left
  done_by true true h = ap (λ w. w.0) h
  done_by true false h = absurd (refused h)
  done_by false b h = absurd (refused h)

module _ {K : Type 0} (cmp : K → K → Ordering) (st left : State K) where
  -- what stands after a landing that was not refused
  pub landed_left : (f : Fresh K) → land cmp f st ≡ (left, Ok tt) → landed cmp f st.tables ≡ left.tables
  landed_left f h = ap (λ s. s.tables) (done_by st _ left Full (BadTable 0) (fresh_ok cmp st.tables f) (has_room st.room (landed cmp f st.tables)) h)

  module _ (j : Running) (outs : List (Fresh K)) where
    full_left : settled_or_full cmp j outs st ≡ (left, Ok tt) → closed cmp j outs st.tables ≡ left.tables
    full_left h = ap (λ s. s.tables) (done_by st _ left Full Full true (has_room st.room (closed cmp j outs st.tables)) h)

    outputs_left : (p : Option ℕ) → unless_outputs cmp p j outs st ≡ (left, Ok tt) → closed cmp j outs st.tables ≡ left.tables
    outputs_left None h = full_left h
    outputs_left (Some place) h = absurd (refused h)

    tables_left : (p : Option ℕ) → unless_tables cmp p j outs st ≡ (left, Ok tt) → closed cmp j outs st.tables ≡ left.tables
    tables_left None h = outputs_left (bad_outputs cmp j.kind (span_held cmp st.tables j) outs) h
    tables_left (Some place) h = absurd (refused h)

    -- what stands after a close that was not refused
    pub closed_left : close_found cmp (Some j) outs st ≡ (left, Ok tt) → closed cmp j outs st.tables ≡ left.tables
    closed_left h = tables_left (first_fault (bad_table cmp st.tables) [] outs) h
