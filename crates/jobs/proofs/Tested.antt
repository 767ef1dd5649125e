-- What the test of book and sheet gives the calls, and what a call leaves of the sheet.
use Rattle.std.proofs.Common.{◌≡◌, ℕ, zero, suc, Bool, true, false, cond, List, [], ◌∷◌, map, length, take, Decides, Ordering, Some, sym, refl, ap, ◌∙◌, arith}
use Rattle.std.proofs.lemmas.Bool.{and_parts}
use Rattle.std.proofs.lemmas.List.{length-map, length-take-le}
use Rattle.keys.specs.KeyKind.{Laws}
use Rattle.runs.specs.declared.table.Table.{Table}
use Rattle.sheets.specs.Edits.{laid}
use Rattle.sheets.specs.Sound.{Sound, sheet_ok}
use Rattle.sheets.proofs.Soundness.{sound_from_test}
use Rattle.books.specs.Booked.{SoundState, book_ok, state_ok}
use Rattle.books.specs.Job.{Running, running, found}
use Rattle.books.proofs.BookTests.{state_from_test, test_from_state}
use Rattle.books.proofs.Slots.{found_runs}
use Rattle.changes.specs.Changes.{SoundOn}
use Rattle.changes.specs.Close.{Runs}
use Rattle.slots.specs.View.{slot}
use Rattle.jobs.specs.declared.job_book.JobBook.{JobBook}
use Rattle.jobs.specs.View.{state}

-- ---- the sheet
module _ {X : Type 0} where
  -- a front laid over itself
  pub laid_take : (s : List X) (n : ℕ) → laid (take n s) s ≡ s
  laid_take s zero = refl
  laid_take [] (suc n) = refl
  laid_take (x ∷ s) (suc n) = ap (λ l. x ∷ l) (laid_take s n)

  -- a sheet that was kept
  pub kept : (s s' : List X) (n : ℕ) → s' ≡ s → s' ≡ laid (take n s') s
  kept s s' n e = sym (laid_take s' n) ∙ ap (laid (take n s')) e

  -- a sheet that was laid over
  pub laid_over : (s s' ts : List X) (n : ℕ) → s' ≡ laid ts s → ts ≡ take n s' → s' ≡ laid (take n s') s
  laid_over s s' ts n e f = e ∙ ap (λ l. laid l s) f

-- ---- a book that passed the test
-- what the call says then is what it says
pub passed : {X : Type 0} (b : Bool) (x y z : X) → true ≡ b → z ≡ x → z ≡ cond b x y
passed true x y z e h = h
passed false x y z e h = absurd (let no : ◌≡◌ {A = ℕ} 0 1 = cc in omega arith)

module _ {K : Type 0} {cmp : K → K → Ordering} (laws : Laws cmp) (book : JobBook) (sheet : List (Table K)) (ok : state_ok cmp (state book sheet) ≡ true) where
  sheet_sound : Sound cmp (length sheet) book.standing book.blob_total (take book.standing sheet)
  sheet_sound = sound_from_test laws (length sheet) book.standing book.blob_total (take book.standing sheet)
      (and_parts (sheet_ok cmp (length sheet) book.standing book.blob_total (take book.standing sheet)) (book_ok cmp (take book.standing sheet) book.hidden (running (map slot book.jobs))) ok).0

  pub sound_on : SoundOn cmp sheet book.standing
  sound_on = (book.blob_total, sheet_sound)

  pub sound_state : length book.jobs ≡ 8 → SoundState cmp (state book sheet)
  sound_state eight = state_from_test laws (state book sheet) (sym (length-take-le book.standing sheet sheet_sound.fits)) (length-map book.jobs slot ∙ eight) ok

  -- the job that was found runs
  pub found_job : (n : ℕ) (j : Running) → length book.jobs ≡ 8 → found n (map slot book.jobs) ≡ Some j → Runs cmp (take book.standing sheet) j
  found_job n j eight e =
      record { hidden = book.hidden; jobs = running (map slot book.jobs); book = (sound_state eight).book; runs = found_runs n (map slot book.jobs) j e }

-- the test of a book with eight slots decides whether book and sheet are sound
pub state_tested : {K : Type 0} {cmp : K → K → Ordering} → Laws cmp → (book : JobBook) (sheet : List (Table K)) → length book.jobs ≡ 8 → Decides (state_ok cmp (state book sheet)) (SoundState cmp (state book sheet))
state_tested laws book sheet eight = (λ ok. sound_state laws book sheet ok eight, test_from_state laws (state book sheet))
