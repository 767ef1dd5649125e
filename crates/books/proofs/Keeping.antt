-- Every list of calls keeps book and sheet sound.
use Rattle.std.proofs.Common.{◌≡◌, ℕ, ◌≤◌, false, cond, List, [], ◌∷◌, length, Some, Ordering, sym, ap, ◌∙◌, subst, inl, inr, arith}
use Rattle.std.specs.Result.{result_err}
use Rattle.std.proofs.lemmas.Bool.{cond-true}
use Rattle.refusals.specs.declared.refusal.Refusal.TheVariants.{NotSound}
use Rattle.keys.specs.KeyKind.{Laws}
use Rattle.keys.specs.KeyRange.{meets}
use Rattle.runs.specs.declared.table.Table.{Table}
use Rattle.sheets.specs.Members.{In, none}
use Rattle.sheets.specs.Sound.{Differ, Unmet, Sound}
use Rattle.sheets.proofs.Each.{none_in, pair_in}
use Rattle.books.specs.Book as B
use Rattle.books.specs.Booked.{Booked, SoundState, state_ok}
use Rattle.books.specs.Close as C
use Rattle.books.specs.Deed.{Deed, landing, asking, looking, booking, closing, giving, refusal_in, perform, Keeps}
use Rattle.books.specs.Job.{running}
use Rattle.books.specs.Land as L
use Rattle.books.specs.Promise.{Well, StaysSound}
use Rattle.books.specs.State.{State}
use Rattle.books.proofs.BookTests.{test_from_state}
use Rattle.books.proofs.SpanBounds.{unmet_turn}
use Rattle.books.proofs.Steps.{land_keeps, close_keeps, give_up_keeps, propose_keeps, look_ahead_keeps, book_keeps}

-- ---- no two tables of a level from 1 on meet
module _ {K : Type 0} (cmp : K → K → Ordering) where
  levels_apart : {room standing blobs : ℕ} {ts : List (Table K)} → Sound cmp room standing blobs ts → (t u : Table K) → In t ts → In u ts → 1 ≤ t.level → t.level ≡ u.level → Differ t u → meets cmp t.range u.range ≡ false
  levels_apart s t u m n h e d =
      elim (pair_in (Unmet cmp) (λ x y f p q. unmet_turn cmp x.range y.range (f (sym p) (sym q))) s.ordered.apart m n) [
        | inl q ↦ absurd (d (ap (λ x. x.number) q))
        | inr f ↦ f e (s.ordered.single t m (omega arith) ∙ sym (s.ordered.single u n (omega arith)))
      ]

  pub well : (st : State K) → SoundState cmp st → Well cmp st
  well st s = record { sound = s; levels = levels_apart s.sheet; jobs = s.book.disjoint }

-- ---- a call
module _ {K : Type 0} {cmp : K → K → Ordering} (laws : Laws cmp) (st : State K) (s : SoundState cmp st) where
  -- a call in a sound state is what it is once the test is passed
  passed : {X : Type 0} (x y : X) → cond (state_ok cmp st) x y ≡ x
  passed x y = cond-true (state_ok cmp st) x y (test_from_state laws st s)

  -- the state stays sound, and the call does not say that it is not
  pub perform_keeps : (d : Deed K) → Keeps cmp d → SoundState cmp (perform cmp d st).0 × (refusal_in (perform cmp d st).1 ≡ Some NotSound → ⊥)
  perform_keeps (landing f) k = subst (λ w. SoundState cmp w.0 × (result_err w.1 ≡ Some NotSound → ⊥)) (sym (passed (L.land cmp f st) _)) (land_keeps laws st s f)
  perform_keeps (asking g ids) k = subst (λ l. SoundState cmp l.state × (result_err l.result ≡ Some NotSound → ⊥)) (sym (passed (B.propose g st ids) _)) (propose_keeps laws st s g ids)
  perform_keeps (looking g ids) k = subst (λ l. SoundState cmp l.state × (result_err l.result ≡ Some NotSound → ⊥)) (sym (passed (B.look_ahead g st ids) _)) (look_ahead_keeps laws st s g ids)
  perform_keeps (booking g ids) k = subst (λ l. SoundState cmp l.state × (result_err l.result ≡ Some NotSound → ⊥)) (sym (passed (B.book cmp g st ids) _)) (book_keeps laws st s g k ids)
  perform_keeps (closing n outs) k = subst (λ w. SoundState cmp w.0 × (result_err w.1 ≡ Some NotSound → ⊥)) (sym (passed (C.close cmp n outs st) _)) (close_keeps laws st s n outs)
  perform_keeps (giving n) k = subst (λ w. SoundState cmp w.0 × (result_err w.1 ≡ Some NotSound → ⊥)) (sym (passed (C.give_up cmp n st) _)) (give_up_keeps laws st s n)

-- ---- a list of calls
pub stays_sound : {K : Type 0} {cmp : K → K → Ordering} → Laws cmp → StaysSound cmp
stays_sound {cmp = cmp} laws [] st k s = well cmp st s
stays_sound {cmp = cmp} laws (d ∷ ds) st k s = let w = perform_keeps laws st s d k.0 in (well cmp st s, w.1, stays_sound laws ds (perform cmp d st).0 k.1 w.0)

-- a sheet that is sound, with nothing hidden and no job, begins a list
pub begins_sound : {K : Type 0} {cmp : K → K → Ordering} (st : State K) → st.standing ≡ length st.tables → length st.slots ≡ 8 → st.hidden ≡ [] → running st.slots ≡ []
    → Sound cmp st.room st.standing st.blobs st.tables → SoundState cmp st
begins_sound {cmp = cmp} st whole eight hidden jobs s =
    record {
      whole = whole;
      eight = eight;
      sheet = s;
      book = subst (λ hs. Booked cmp st.tables hs (running st.slots)) (sym hidden) (subst (Booked cmp st.tables []) (sym jobs) (record {
        few = (omega arith, omega arith);
        once = none;
        stands = λ n m. absurd (none_in m);
        owned = λ n m. absurd (none_in m);
        hides = λ j m. absurd (none_in m);
        disjoint = none;
        filled = λ j m. absurd (none_in m);
        destined = λ j m. absurd (none_in m);
        clear = λ j m. absurd (none_in m);
        lanes = none;
        moves = λ j m. absurd (none_in m);
      }));
    }
