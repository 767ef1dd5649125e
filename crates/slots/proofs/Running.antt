-- The running jobs by their slots.
use Rattle.std.proofs.Common.{◌||◌, ◌≡◌, ℕ, ◌≤◌, Bool, true, false, ◌&&◌, leb, List, [], ◌∷◌, map, length, Some, None, Option, Ordering, sym, refl, ap, ◌∙◌, arith}
use Rattle.std.specs.List.{list_any, list_all}
use Rattle.std.proofs.lemmas.Bool.{le-leb}
use Rattle.std.proofs.lemmas.List.{length-map}
use Rattle.std.proofs.lemmas.List.Folds.{list_all-map}
use Rattle.runs.specs.declared.table.Table.{Table}
use Rattle.sheets.specs.Level.{numbers_of}
use Rattle.sheets.specs.Sound.{distinct}
use Rattle.sheets.specs.Tables.{memb}
use Rattle.sheets.proofs.Each.{some_same, all_same}
use Rattle.books.specs.Booked.{pairs_by, job_ok, jobs_apart, book_ok}
use Rattle.books.specs.Job.{Running, running}
use Rattle.slots.specs.declared.job.Job.{Job}
use Rattle.slots.specs.Sound.{taken, owned, free_or, free_or_so}
use Rattle.slots.specs.View.{slot, numbers_in}
use Rattle.slots.proofs.Tests.{some_map}

-- a slot has a job, and it passes
abbrev pub runs_one : (Running → Bool) → Option Running → Bool
runs_one p None = false
runs_one p (Some j) = p j

pub some_running : (p : Running → Bool) (ss : List (Option Running)) → list_any p (running ss) ≡ list_any (runs_one p) ss
some_running p [] = refl
some_running p (None ∷ ss) = some_running p ss
some_running p (Some j ∷ ss) = ap (λ b. p j || b) (some_running p ss)

all_running : (p : Running → Bool) (ss : List (Option Running)) → list_all p (running ss) ≡ list_all (free_or p) ss
all_running p [] = refl
all_running p (None ∷ ss) = all_running p ss
all_running p (Some j ∷ ss) = ap (λ b. p j && b) (all_running p ss)

none_asked : (r : Running → Running → Bool) (ss : List (Option Running)) → list_all (free_or_so r None) ss ≡ true
none_asked r [] = refl
none_asked r (s ∷ ss) = none_asked r ss

pairs_running : (r : Running → Running → Bool) (ss : List (Option Running)) → pairs_by r (running ss) ≡ pairs_by (free_or_so r) ss
pairs_running r [] = refl
pairs_running r (None ∷ ss) = pairs_running r ss ∙ sym (ap (λ b. b && pairs_by (free_or_so r) ss) (none_asked r ss))
pairs_running r (Some j ∷ ss) = ap (λ b. b && pairs_by r (running ss)) (all_running (r j) ss) ∙ ap (λ b. list_all (free_or (r j)) ss && b) (pairs_running r ss)

pub running_few : (ss : List (Option Running)) → length (running ss) ≤ length ss
running_few [] = omega arith
running_few (None ∷ ss) = omega (arith, running_few ss)
running_few (Some j ∷ ss) = omega (arith, running_few ss)

-- ---- slots of a book
has_number : (n : ℕ) (o : Option Running) → runs_one (λ j. memb n j.numbers) o ≡ memb n (numbers_in o)
has_number n None = refl
has_number n (Some j) = refl

-- a running job has the number
some_taken : (n : ℕ) (jobs : List Job) → list_any (λ j. memb n j.numbers) (running (map slot jobs)) ≡ list_any (λ job. memb n (numbers_in (slot job))) jobs
some_taken n jobs =
    some_running (λ j. memb n j.numbers) (map slot jobs) ∙ some_same _ _ (has_number n) (map slot jobs) ∙ some_map (λ o. memb n (numbers_in o)) slot jobs

all_slots : (p : Running → Bool) (jobs : List Job) → list_all p (running (map slot jobs)) ≡ list_all (λ job. free_or p (slot job)) jobs
all_slots p jobs = all_running p (map slot jobs) ∙ list_all-map (free_or p) slot jobs

pairs_map : {X Y : Type 0} (s : Y → Y → Bool) (f : X → Y) (xs : List X) → pairs_by s (map f xs) ≡ pairs_by (λ x y. s (f x) (f y)) xs
pairs_map s f [] = refl
pairs_map s f (x ∷ xs) = ap (λ b. b && pairs_by s (map f xs)) (list_all-map (s (f x)) f xs) ∙ ap (λ b. list_all (λ y. s (f x) (f y)) xs && b) (pairs_map s f xs)

pairs_slots : (r : Running → Running → Bool) (jobs : List Job) → pairs_by r (running (map slot jobs)) ≡ pairs_by (λ a b. free_or_so r (slot a) (slot b)) jobs
pairs_slots r jobs = pairs_running r (map slot jobs) ∙ pairs_map (free_or_so r) slot jobs

-- ---- the test of a book, slot by slot
module _ {K : Type 0} (cmp : K → K → Ordering) (ts : List (Table K)) (hs : List ℕ) (jobs : List Job) where
  -- each job is kept, and each two are apart
  abbrev pub lawful : Bool
  lawful = list_all (λ job. free_or (job_ok cmp ts hs) (slot job)) jobs && pairs_by (λ a b. free_or_so (jobs_apart cmp ts) (slot a) (slot b)) jobs

  lawful_is : lawful ≡ (list_all (job_ok cmp ts hs) (running (map slot jobs)) && pairs_by (jobs_apart cmp ts) (running (map slot jobs)))
  lawful_is =
      ap (λ b. b && pairs_by (λ a b. free_or_so (jobs_apart cmp ts) (slot a) (slot b)) jobs) (sym (all_slots (job_ok cmp ts hs) jobs))
      ∙ ap (λ b. list_all (job_ok cmp ts hs) (running (map slot jobs)) && b) (sym (pairs_slots (jobs_apart cmp ts) jobs))

  taken_is : list_all (taken ts jobs) hs ≡ list_all (λ n. memb n (numbers_of ts) && list_any (λ j. memb n j.numbers) (running (map slot jobs))) hs
  taken_is = all_same _ _ (λ n. ap (λ b. memb n (numbers_of ts) && b) (sym (some_taken n jobs))) hs

  regroup : (a b d e f : Bool) → b ≡ true → ((a && (d && e)) && f) ≡ ((a && b) && (d && (e && f)))
  regroup true b true e f h = sym (ap (λ x. x && (e && f)) h)
  regroup true b false e f h = sym (ap (λ x. x && false) h)
  regroup false b d e f h = refl

  -- with 8 slots
  pub by_slots : length jobs ≡ 8 → (owned ts jobs hs && lawful) ≡ book_ok cmp ts hs (running (map slot jobs))
  by_slots eight =
      let few : length (running (map slot jobs)) ≤ 8 = omega (arith, running_few (map slot jobs), length-map jobs slot) in
      ap (λ b. (leb (length hs) 256 && (distinct hs && b)) && lawful) taken_is
      ∙ ap (λ b. (leb (length hs) 256 && (distinct hs && list_all (λ n. memb n (numbers_of ts) && list_any (λ j. memb n j.numbers) (running (map slot jobs))) hs)) && b) lawful_is
      ∙ regroup (leb (length hs) 256) (leb (length (running (map slot jobs))) 8) (distinct hs) _ _ (le-leb (length (running (map slot jobs))) 8 few)
