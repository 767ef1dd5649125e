-- A sheet has at most 1025 places in memory, and is opened as one of all the places that the script says.
use Rattle.std.proofs.Common.{◌≡◌, ℕ, ◌^◌, ◌≤◌, Bool, true, false, cond, ◌&&◌, leb, List, [], length, take, Ok, Err, Ordering, sym, refl, ap, ◌∙◌, subst, inl, inr, arith}
use Rattle.std.proofs.lemmas.Bool.{cases_Bool, and_parts, leb-true}
use Rattle.std.proofs.lemmas.Bool.Decides.{nat_tests}
use Rattle.std.specs.Prelude.{replicate, None, Result}
use Rattle.refusals.specs.declared.refusal.Refusal.{Refusal}
use Rattle.refusals.specs.declared.refusal.Refusal.TheVariants.{NotSound}
use Rattle.runs.specs.declared.table.Table.{Table}
use Rattle.sheets.specs.Sound.{tables_ok}
use Rattle.books.specs.State.{State}
use Rattle.jobs.specs.declared.job_book.JobBook.{JobBook}
use Rattle.jobs.specs.Open.{opened, open_on, open_book}
use Rattle.reports.specs.Report.{refused_line, opened_line}
use Rattle.desk.specs.declared.histories.History.{History}
use Rattle.desk.specs.History.{IsWhole, IsOpened, OpensAs, Opens}

-- two tests that fail together, with more behind them
neither : (a b c : Bool) → a && b ≡ false → a && (b && c) ≡ false
neither true true c e = absurd (let z : ◌≡◌ {A = Bool} true false = e in cc)
neither true false c e = refl
neither false b c e = refl

module _ {K : Type 0} (cmp : K → K → Ordering) (blobs : ℕ) where
  -- a sheet that has too many places, or too few for its tables
  unfit : (room count : ℕ) (ts : List (Table K)) → leb room 1024 && leb count room ≡ false → open_on cmp room count blobs ts ≡ Err NotSound
  unfit room count ts e =
      ap (λ b. cond b (Ok (record { room = room; standing = count; blobs = blobs; tables = ts; hidden = []; slots = replicate 8 None })) (Err NotSound))
      (neither (leb room 1024) (leb count room) (leb blobs (2 ^ 53) && tables_ok cmp ts) e)

  opened_whole : (places : ℕ) (ts sheet : List (Table K)) → IsWhole places ts sheet → open_book cmp sheet (length ts) blobs ≡ open_on cmp places (length ts) blobs ts
  opened_whole places ts sheet is =
      elim (cases_Bool (leb places 1024 && leb (length ts) places)) [
        | inl e ↦
            let tests = and_parts (leb places 1024) (leb (length ts) places) e in
            let few : places ≤ 1024 = leb-true places 1024 tests.0 in
            let fit : length ts ≤ places = leb-true (length ts) places tests.1 in
            let room : length sheet ≡ places = omega (arith, is.places_of) in
            ap (λ n. open_on cmp n (length ts) blobs (take (length ts) sheet)) room ∙ ap (open_on cmp places (length ts) blobs) (is.front (omega (arith, room)))
        | inr e ↦
            let room = is.places_of in
            let short : leb (length sheet) 1024 && leb (length ts) (length sheet) ≡ false = grind (arith, nat_tests) in
            unfit (length sheet) (length ts) (take (length ts) sheet) short ∙ sym (unfit places (length ts) ts e)
      ]

  -- what came of opening the book
  pub opened_as : (places count : ℕ) (ts sheet slice : List (Table K)) (r : Result JobBook Refusal) → IsWhole places ts sheet → slice ≡ sheet → count ≡ length ts
      → opened slice r ≡ open_book cmp slice count blobs → opened sheet r ≡ open_on cmp places (length ts) blobs ts
  opened_as places count ts sheet slice r is same n e =
      ap (λ s. opened s r) (sym same) ∙ (e ∙ (ap (λ s. open_book cmp s count blobs) same ∙ (ap (λ k. open_book cmp sheet k blobs) n ∙ opened_whole places ts sheet is)))

  -- ---- what it does to a history
  module _ (h : History K) where
    abbrev opening : Result (State K) Refusal
    opening = open_on cmp h.places (length h.sheet.items) blobs h.sheet.items

    pub opens_none : (refusal : Refusal) → Err refusal ≡ opening → Opens cmp blobs h h (refused_line refusal)
    opens_none refusal e = let same : OpensAs (Err refusal) h h (refused_line refusal) = (refl, refl) in subst (λ r. OpensAs r h h (refused_line refusal)) e same

    pub opens_one : (h' : History K) (st : State K) (count : ℕ) → Ok st ≡ opening → IsOpened h h' st → count ≡ length h.sheet.items → Opens cmp blobs h h' (opened_line count)
    opens_one h' st count e is n = let done : OpensAs (Ok st) h h' (opened_line count) = (is, ap opened_line n) in subst (λ r. OpensAs r h h' (opened_line count)) e done
