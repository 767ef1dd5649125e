-- What holds of a job that may not start, by whichever test, and of one that may.
use Rattle.std.proofs.Common.{◌≡◌, ℕ, ◌+◌, ◌<◌, true, false, ◌&&◌, eqb, ltb, leb, List, length, Option, Ordering, arith}
use Rattle.std.specs.List.{list_any}
use Rattle.std.proofs.lemmas.Bool.{cond_both}
use Rattle.refusals.specs.declared.refusal.Refusal.{Refusal}
use Rattle.refusals.specs.declared.refusal.Refusal.TheVariants.{NamesNoTable, AlreadyHidden, SpanTaken, BookFull}
use Rattle.refusals.specs.Refusal.{number_of}
use Rattle.runs.specs.declared.table.Table.{Table}
use Rattle.strategies.specs.Fifo.{place_of}
use Rattle.books.specs.Book.{is_taken, unless_barred}
use Rattle.books.specs.Booked.{crosses}
use Rattle.books.specs.Job.{Running, running}

module _ {K : Type 0} (cmp : K → K → Ordering) (ts : List (Table K)) (hs : List ℕ) (slots : List (Option Running)) (j : Running) where
  -- the job passes each test
  pub record MayStart : Type 0 where
    pub some : eqb (length j.numbers) 0 ≡ false
    pub free : list_any (is_taken hs j) ts ≡ false
    pub clear : list_any (crosses cmp ts j) (running slots) ≡ false
    pub fits : (ltb (length (running slots)) 8 && leb (length hs + length j.numbers) 256) ≡ true

  -- what holds of each refusal, and of what is granted where the tests are passed
  pub barred_or : {R : Type 0} (P : R → Type 0) (refuse : Refusal → R) (granted : R) → ((e : Refusal) → 1 < number_of e → P (refuse e)) → (MayStart → P granted)
      → P (unless_barred cmp ts hs slots j refuse granted)
  barred_or P refuse granted r g =
      cond_both (eqb (length j.numbers) 0) _ _ P (λ _. r NamesNoTable (omega arith)) (λ some.
      cond_both (list_any (is_taken hs j) ts) _ _ P (λ _. r (AlreadyHidden (place_of (is_taken hs j) ts)) (omega arith)) (λ free.
      cond_both (list_any (crosses cmp ts j) (running slots)) _ _ P (λ _. r SpanTaken (omega arith)) (λ clear.
      cond_both (ltb (length (running slots)) 8 && leb (length hs + length j.numbers) 256) _ _ P
      (λ fits. g (record { some = some; free = free; clear = clear; fits = fits })) (λ _. r BookFull (omega arith)))))
