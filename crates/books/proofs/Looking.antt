-- Numbers that stand, each once, are no more than the tables: so looking ahead hides at most 1,024.
use Rattle.std.proofs.Common.{◌≡◌, ℕ, ◌≤◌, List, length, Ordering, sym, refl, subst, inl, inr, arith}
use Rattle.std.proofs.lemmas.List.{length-map}
use Rattle.runs.specs.declared.table.Table.{Table}
use Rattle.sheets.specs.HiddenSet.{hiding}
use Rattle.sheets.specs.Level.{numbers_of}
use Rattle.sheets.specs.Members.{In, here, later, Every, Pairs, none, more}
use Rattle.sheets.specs.Sound.{Sound}
use Rattle.sheets.proofs.Each.{memb_in}
use Rattle.strategies.specs.Answer.{Chosen, Answer, nothing, chooses, declines}
use Rattle.strategies.specs.Strategy.{Stands, Lawful, LawfulAnswer, Law}
use Rattle.books.specs.Book.{Question, ahead_of}
use Rattle.books.specs.Booked.{SoundState}
use Rattle.books.specs.State.{State}
use Rattle.books.proofs.Booking.{in_hiding, hiding_once}
use Rattle.books.proofs.BookTests.{stands_to}
use Rattle.books.proofs.Outs.{in_out, out_cases, out_length}

-- ---- different members of a list are no more than the list is long
module _ {X : Type 0} where
  different_few : {xs ys : List X} → Pairs (λ x y. x ≡ y → ⊥) xs → Every (λ x. In x ys) xs → length xs ≤ length ys
  different_few none f = omega arith
  different_few {ys = ys} (more {x} {xs} h ps) f =
      let w = in_out (f x (here refl)) in
      let rest = different_few {ys = w.0} ps (λ y m. elim (out_cases w.1 (f y (later m))) [ inl e ↦ absurd (h y m (sym e)) | inr n ↦ n ]) in
      omega (arith, out_length w.1)

-- numbers that stand, each once
pub stand_few : {K : Type 0} (ts : List (Table K)) {ns : List ℕ} → Pairs (λ m n. m ≡ n → ⊥) ns → Every (Stands ts) ns → length ns ≤ length ts
stand_few ts {ns} once stands =
    omega (arith, different_few once (λ n m. memb_in n (numbers_of ts) (stands_to ts n (stands n m))), length-map ts (λ t. t.number))

module _ {K : Type 0} {cmp : K → K → Ordering} (st : State K) (s : SoundState cmp st) where
  -- the sheet is sound by the number of tables that it has
  pub sheet_whole : Sound cmp st.room (length st.tables) st.blobs st.tables
  sheet_whole = subst (λ n. Sound cmp st.room n st.blobs st.tables) s.whole s.sheet

  -- what is hidden together with the tables of a lawful choice
  pub hiding_few : (c : Chosen) → Lawful cmp st.tables c → length (hiding st.hidden c.numbers) ≤ 1024
  hiding_few c law =
      let few = stand_few st.tables (hiding_once st.hidden c.numbers s.book.once) (λ n m. elim (in_hiding st.hidden c.numbers m) [ inl k ↦ s.book.stands n k | inr k ↦ law.stands n k ]) in
      omega (arith, s.whole, s.sheet.fits, s.sheet.few)

  ahead_few : (a : Answer) → LawfulAnswer cmp st.tables a → length (ahead_of st.hidden a) ≤ 1024
  ahead_few nothing law = omega (arith, s.book.few.0)
  ahead_few (chooses c) law = hiding_few c law
  ahead_few (declines d) law = omega (arith, s.book.few.0)

-- in every sound state, for every question that keeps the law, looking ahead hides at most 1,024 numbers in all
pub looks_within : {K : Type 0} (cmp : K → K → Ordering) (g : Question K) (st : State K) → Law cmp g → SoundState cmp st → length (ahead_of st.hidden (g st.tables st.hidden)) ≤ 1024
looks_within cmp g st law s = ahead_few st s (g st.tables st.hidden) (law st.room st.blobs st.tables st.hidden (sheet_whole st s))
