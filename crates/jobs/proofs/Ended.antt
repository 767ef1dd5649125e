-- What an ended job leaves.
use Rattle.std.proofs.Common.{◌≡◌, ℕ, true, false, List, map, get_or, set, Some, None, Ok, Err, Option, Result, Ordering, sym, refl, ap, ◌∙◌, arith}
use Rattle.std.specs.List.{position}
use Rattle.std.specs.Option.{ok_or}
use Rattle.std.proofs.lemmas.Bool.{eqb-true, both_ways}
use Rattle.std.proofs.lemmas.List.{set-get_or}
use Rattle.refusals.specs.declared.refusal.Refusal.{Refusal}
use Rattle.refusals.specs.declared.refusal.Refusal.TheVariants.{NoSuchJob}
use Rattle.runs.specs.declared.fresh.Fresh.{Fresh}
use Rattle.runs.specs.declared.table.Table.{Table}
use Rattle.sheets.specs.HiddenSet.{showing}
use Rattle.books.specs.Close.{freed, close_found, give_up_found}
use Rattle.books.specs.Job.{Running, job_number, is_known, found, ended}
use Rattle.books.specs.State.{State}
use Rattle.changes.specs.Changes.{on_sheet}
use Rattle.slots.specs.Job.{effect_of}
use Rattle.slots.specs.declared.job.Event.TheVariants.{Close}
use Rattle.slots.specs.declared.job.Job.{Job}
use Rattle.slots.specs.declared.job.Task.{Task}
use Rattle.slots.specs.View.{job_over, slot_as, slot, numbers_in}
use Rattle.slots.proofs.Admitting.{own_numbers}
use Rattle.jobs.specs.declared.job_book.JobBook.{JobBook}
use Rattle.jobs.specs.View.{state}
use Rattle.jobs.proofs.Options.{or_none}
use Rattle.jobs.proofs.Places.{none_found, place_knows, place_found, place_ended}

-- ---- the slot
-- a slot that says what is to be done runs that over its numbers
pub task_runs : (o : Option Task) (ns : List ℕ) (t : Task) → Some t ≡ effect_of o Close → slot_as o ns ≡ Some (job_over t (numbers_in (slot_as o ns)))
task_runs None ns t e = absurd (let z : ◌≡◌ {A = ℕ} 0 1 = cc in omega arith)
task_runs (Some task) ns t e = let same : t ≡ task = cc in ap Some (ap (λ u. job_over u ns) (sym same) ∙ ap (job_over t) (sym (own_numbers task ns)))

-- one that says nothing runs no job
pub none_runs : (n : ℕ) (o : Option Task) (ns : List ℕ) → None ≡ effect_of o Close → is_known n (slot_as o ns) ≡ false
none_runs n None ns e = refl
none_runs n (Some task) ns e = absurd (let z : ◌≡◌ {A = ℕ} 0 1 = cc in omega arith)

-- a slot that is known by a number runs a job
known_job : (n : ℕ) (o : Option Running) → is_known n o ≡ true → (j : Running) × (o ≡ Some j)
known_job n None e = absurd (let z : ◌≡◌ {A = ℕ} 0 1 = cc in omega arith)
known_job n (Some j) e = (j, refl)

-- ---- the book
module _ {K : Type 0} (cmp : K → K → Ordering) (book : JobBook) (sheet : List (Table K)) (n : ℕ) where
  abbrev slots : List (Option Running)
  slots = map slot book.jobs

  abbrev st : State K
  st = state book sheet

  -- what the search for its slot answered
  module _ (o : Option ℕ) (said : o ≡ position (λ job. is_known n (slot job)) book.jobs) where
    -- no slot runs the job
    module _ (e : Refusal) (h : Err e ≡ ok_or o NoSuchJob) where
      none_there : found n slots ≡ None
      none_there = none_found n book.jobs (sym said ∙ (or_none o e NoSuchJob h).0)

      pub none_closed : (outs : List (Fresh K)) → ◌≡◌ {A = State K × Result (Unit {0}) Refusal} (st, Err e) (close_found cmp (found n slots) outs st)
      none_closed outs = ap (λ x. (st, Err x)) (or_none o e NoSuchJob h).1 ∙ ap (λ x. close_found cmp x outs st) (sym none_there)

      pub none_given_up : ◌≡◌ {A = State K × Result (Unit {0}) Refusal} (st, Err e) (give_up_found cmp (found n slots) st)
      none_given_up = ap (λ x. (st, Err x)) (or_none o e NoSuchJob h).1 ∙ ap (λ x. give_up_found cmp x st) (sym none_there)

    -- a slot runs it
    module _ (i : ℕ) (at : o ≡ Some i) (job : Job) where
      abbrev pub there : Option Running
      there = slot (get_or book.jobs i job)

      known : is_known n there ≡ true
      known = place_knows n book.jobs o said i at job

      -- the slot says what is to be done
      pub says_one : None ≡ effect_of (get_or book.jobs i job).state Close → ⊥
      says_one e = both_ways (is_known n there) (none_runs n (get_or book.jobs i job).state _ e) known

      pub says_task : (t : Task) (ns : List ℕ) (j : Running) → Some t ≡ effect_of (get_or book.jobs i job).state Close → ns ≡ numbers_in there → j ≡ job_over t ns → found n slots ≡ Some j
      says_task t ns j e q r = place_found n book.jobs o said i at job ∙ task_runs (get_or book.jobs i job).state _ t e ∙ ap (λ l. Some (job_over t l)) (sym q) ∙ ap Some (sym r)

      -- the job, closed or given up: its slot is free, and its tables are shown
      module _ (free : Job) (f : slot free ≡ None) (ns hidden : List ℕ) (own : ns ≡ numbers_in there) (shown : hidden ≡ showing ns book.hidden) where
        freed_is : (left : List (Table K)) (m : ℕ) (j : Running) → there ≡ Some j
            → on_sheet left m book.blob_total hidden (map slot (set book.jobs i free)) ≡ freed cmp j (on_sheet left m book.blob_total book.hidden slots)
        freed_is left m j e =
            let number : job_number j.numbers ≡ n = eqb-true (job_number j.numbers) n (sym (ap (is_known n) e) ∙ known) in
            ap (λ hs. on_sheet left m book.blob_total hs (map slot (set book.jobs i free))) (shown ∙ ap (λ l. showing l book.hidden) own ∙ ap (λ o. showing (numbers_in o) book.hidden) e)
            ∙ ap (on_sheet left m book.blob_total (showing j.numbers book.hidden)) (place_ended n book.jobs o said i at job free f ∙ ap (λ k. ended k slots) (sym number))

        pub closed_is : (outs : List (Fresh K)) (left : List (Table K)) (m : ℕ) (j : Running) → found n slots ≡ Some j → close_found cmp (Some j) outs st ≡ (freed cmp j (on_sheet left m book.blob_total book.hidden slots), Ok tt)
            → ◌≡◌ {A = State K × Result (Unit {0}) Refusal} (on_sheet left m book.blob_total hidden (map slot (set book.jobs i free)), Ok tt) (close_found cmp (found n slots) outs st)
        closed_is outs left m j e w =
            ap (λ x. (x, Ok tt)) (freed_is left m j (sym (place_found n book.jobs o said i at job) ∙ e)) ∙ sym w ∙ ap (λ o. close_found cmp o outs st) (sym e)

        pub given_up_is : ◌≡◌ {A = State K × Result (Unit {0}) Refusal} (on_sheet sheet book.standing book.blob_total hidden (map slot (set book.jobs i free)), Ok tt) (give_up_found cmp (found n slots) st)
        given_up_is =
            let j = known_job n there known in
            ap (λ x. (x, Ok tt)) (freed_is sheet book.standing j.0 j.1) ∙ ap (λ o. give_up_found cmp o st) (sym (place_found n book.jobs o said i at job ∙ j.1))

      -- the job runs again where its close was refused
      pub refused_is : (outs : List (Fresh K)) (left : List (Table K)) (j : Running) (e : Refusal) → found n slots ≡ Some j → close_found cmp (Some j) outs st ≡ (on_sheet left book.standing book.blob_total book.hidden slots, Err e)
          → ◌≡◌ {A = State K × Result (Unit {0}) Refusal} (on_sheet left book.standing book.blob_total book.hidden (map slot (set book.jobs i (get_or book.jobs i job))), Err e) (close_found cmp (found n slots) outs st)
      refused_is outs left j e h w =
          ap (λ js. (on_sheet left book.standing book.blob_total book.hidden (map slot js), Err e)) (set-get_or book.jobs i job) ∙ sym w ∙ ap (λ o. close_found cmp o outs st) (sym h)
