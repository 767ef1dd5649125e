-- Whether a job can start, by the tests that come before.
use Rattle.std.proofs.Common.{◌≡◌, ℕ, suc, ◌+◌, ◌<◌, ◌≤◌, Bool, true, false, cond, ◌&&◌, eqb, ltb, leb, List, [], ◌∷◌, map, length, Some, None, Ok, Err, Option, Result, Ordering, sym, refl, ap, ◌∙◌, arith}
use Rattle.std.specs.List.{list_any, position}
use Rattle.std.specs.Option.{ok_or}
use Rattle.std.proofs.lemmas.Bool.{lt-ltb, ltb-true, leb-true, and_parts}
use Rattle.std.proofs.lemmas.Bool.Decides.{nat_tests}
use Rattle.std.proofs.lemmas.List.{length-map}
use Rattle.refusals.specs.declared.refusal.Refusal.{Refusal}
use Rattle.refusals.specs.declared.refusal.Refusal.TheVariants.{NamesNoTable, AlreadyHidden, SpanTaken, BookFull}
use Rattle.runs.specs.declared.table.Table.{Table}
use Rattle.sheets.specs.Tables.{named}
use Rattle.sheets.proofs.Each.{some_same}
use Rattle.strategies.specs.Fifo.{place_of}
use Rattle.strategies.specs.Strategy.{spans_meet}
use Rattle.strategies.proofs.FifoSteps.{position_is, inside_is, found, unfound}
use Rattle.books.specs.Booked.{is_going, span_held, crosses}
use Rattle.books.specs.Job.{Running, running}
use Rattle.slots.specs.declared.job.Job.{Job}
use Rattle.slots.specs.declared.job.Task.{Task}
use Rattle.slots.specs.declared.job.Task.TheVariants.{Move, Merge, Drop}
use Rattle.slots.specs.Admitted.{is_free, admitted}
use Rattle.slots.specs.Sound.{level_in, same_level, span_in}
use Rattle.slots.specs.View.{job_over, slot}
use Rattle.slots.proofs.Apart.{no_level, crosses_slot}
use Rattle.slots.proofs.Running.{running_few, runs_one, some_running}
use Rattle.slots.proofs.Tests.{some_map}

-- ---- the first free slot
place_map : {X Y : Type 0} (p : Y → Bool) (f : X → Y) (xs : List X) → place_of (λ x. p (f x)) xs ≡ place_of p (map f xs)
place_map p f [] = refl
place_map p f (x ∷ xs) = ap (λ n. cond (p (f x)) 0 (suc n)) (place_map p f xs)

more : (m n : ℕ) → ltb m n ≡ ltb (suc m) (suc n)
more m n = grind (arith, nat_tests)

some_free : (ss : List (Option Running)) → list_any is_free ss ≡ ltb (length (running ss)) (length ss)
some_free [] = refl
some_free (None ∷ ss) = sym (lt-ltb (length (running ss)) (suc (length ss)) (omega (arith, running_few ss)))
some_free (Some j ∷ ss) = some_free ss ∙ more (length (running ss)) (length ss)

pub free_is : (jobs : List Job) → length jobs ≡ 8 → position (λ job. is_free (slot job)) jobs ≡ cond (ltb (length (running (map slot jobs))) 8) (Some (place_of is_free (map slot jobs))) None
free_is jobs eight =
    let ss = map slot jobs in
    position_is (λ job. is_free (slot job)) jobs
    ∙ ap (λ n. cond (list_any (λ job. is_free (slot job)) jobs) (Some n) None) (place_map is_free slot jobs)
    ∙ ap (λ b. cond b (Some (place_of is_free ss)) None) (sym (some_map is_free slot jobs) ∙ some_free ss ∙ ap (ltb (length (running ss))) (length-map jobs slot ∙ eight))

-- where there is room besides
pub fits_all : {X : Type 0} (a b : Bool) (x y : X) → b ≡ true → cond a x y ≡ cond (a && b) x y
fits_all true b x y e = sym (ap (λ c. cond c x y) e)
fits_all false b x y e = refl

-- ---- the span
pub own_numbers : (task : Task) (ns : List ℕ) → (job_over task ns).numbers ≡ ns
own_numbers (Move level) ns = refl
own_numbers (Merge level) ns = refl
own_numbers Drop ns = refl

module _ {K : Type 0} (cmp : K → K → Ordering) (ts : List (Table K)) (j : Running) where
  meets_slot : (o : Option Running) → (same_level (level_in (Some j)) (level_in o) && spans_meet cmp (span_held cmp ts j) (span_in cmp ts o)) ≡ runs_one (crosses cmp ts j) o
  meets_slot None = ap (λ b. b && spans_meet cmp (span_held cmp ts j) None) (no_level (is_going j.kind) j.destination)
  meets_slot (Some k) = crosses_slot cmp ts j k

  -- a running job crosses it
  pub span_taken : (jobs : List Job) → list_any (λ job. same_level (level_in (Some j)) (level_in (slot job)) && spans_meet cmp (span_held cmp ts j) (span_in cmp ts (slot job))) jobs ≡ list_any (crosses cmp ts j) (running (map slot jobs))
  span_taken jobs = some_same _ _ (λ job. meets_slot (slot job)) jobs ∙ sym (some_map (runs_one (crosses cmp ts j)) slot jobs) ∙ sym (some_running (crosses cmp ts j) (map slot jobs))

-- ---- the tests in turn, where these are the job's numbers
module _ {K : Type 0} (cmp : K → K → Ordering) (ts : List (Table K)) (hs : List ℕ) (slots : List (Option Running)) (j : Running) (ns : List ℕ) (own : j.numbers ≡ ns) where
  abbrev taken : Table K → Bool
  taken t = named ns t && named hs t

  abbrev room : Bool
  room = ltb (length (running slots)) 8 && leb (length hs + length ns) 256

  abbrev free : Result ℕ Refusal
  free = cond room (Ok (place_of is_free slots)) (Err BookFull)

  abbrev apart : Result ℕ Refusal
  apart = cond (list_any (crosses cmp ts j) (running slots)) (Err SpanTaken) free

  abbrev shown : Result ℕ Refusal
  shown = cond (list_any taken ts) (Err (AlreadyHidden (place_of taken ts))) apart

  admitted_is : cond (eqb (length ns) 0) (Err NamesNoTable) shown ≡ admitted cmp ts hs slots j
  admitted_is =
      ap (λ ms. cond (eqb (length ms) 0) (Err NamesNoTable)
      (cond (list_any (λ t. named ms t && named hs t) ts) (Err (AlreadyHidden (place_of (λ t. named ms t && named hs t) ts)))
      (cond (list_any (crosses cmp ts j) (running slots)) (Err SpanTaken) (cond (ltb (length (running slots)) 8 && leb (length hs + length ms) 256) (Ok (place_of is_free slots)) (Err BookFull)))))
      (sym own)

  module _ (some : eqb (length ns) 0 ≡ false) where
    shown_is : shown ≡ admitted cmp ts hs slots j
    shown_is = sym (ap (λ b. cond b (Err NamesNoTable) shown) some) ∙ admitted_is

    pub one_hidden : (place : ℕ) → Some place ≡ position taken ts → Err (AlreadyHidden place) ≡ admitted cmp ts hs slots j
    one_hidden place e =
        let f = found (list_any taken ts) place (place_of taken ts) (e ∙ position_is taken ts) in
        ap (λ n. Err (AlreadyHidden n)) f.1 ∙ sym (ap (λ b. cond b (Err (AlreadyHidden (place_of taken ts))) apart) f.0) ∙ shown_is

    module _ (none : None ≡ position taken ts) where
      apart_is : apart ≡ admitted cmp ts hs slots j
      apart_is = sym (ap (λ b. cond b (Err (AlreadyHidden (place_of taken ts))) apart) (unfound (list_any taken ts) (place_of taken ts) (none ∙ position_is taken ts))) ∙ shown_is

      pub one_crosses : true ≡ list_any (crosses cmp ts j) (running slots) → Err SpanTaken ≡ admitted cmp ts hs slots j
      one_crosses e = ap (λ b. cond b (Err SpanTaken) free) e ∙ apart_is

      pub is_admitted : false ≡ list_any (crosses cmp ts j) (running slots) → (o : Option ℕ) → o ≡ cond room (Some (place_of is_free slots)) None → ok_or o BookFull ≡ admitted cmp ts hs slots j
      is_admitted e o q = ap (λ p. ok_or p BookFull) q ∙ either room ∙ ap (λ b. cond b (Err SpanTaken) free) e ∙ apart_is
        where
          either : (b : Bool) → ok_or (cond b (Some (place_of is_free slots)) None) BookFull ≡ cond b (Ok (place_of is_free slots)) (Err BookFull)
          either true = refl
          either false = refl

-- ---- what a job that was admitted found
unlike : {X E : Type 0} {x : X} {e : E} → ◌≡◌ {A = Result X E} (Ok x) (Err e) → ⊥
unlike q = let z : ◌≡◌ {A = ℕ} 0 1 = cc in omega arith

found_room : (a b c room : Bool) (p q : ℕ) (e f g h : Refusal) → ◌≡◌ {A = Result ℕ Refusal} (Ok p) (cond a (Err e) (cond b (Err f) (cond c (Err g) (cond room (Ok q) (Err h))))) → (room ≡ true) × (p ≡ q)
found_room true b c room p q e f g h r = absurd (unlike r)
found_room false true c room p q e f g h r = absurd (unlike r)
found_room false false true room p q e f g h r = absurd (unlike r)
found_room false false false true p q e f g h r = (refl, cc)
found_room false false false false p q e f g h r = absurd (unlike r)

module _ {K : Type 0} (cmp : K → K → Ordering) (ts : List (Table K)) (hs : List ℕ) (slots : List (Option Running)) (j : Running) (place : ℕ) (is : Ok place ≡ admitted cmp ts hs slots j) where
  abbrev both : (ltb (length (running slots)) 8 && leb (length hs + length j.numbers) 256 ≡ true) × (place ≡ place_of is_free slots)
  both =
      found_room (eqb (length j.numbers) 0) (list_any (λ t. named j.numbers t && named hs t) ts) (list_any (crosses cmp ts j) (running slots)) (ltb (length (running slots)) 8 && leb (length hs + length j.numbers) 256)
      place (place_of is_free slots) NamesNoTable (AlreadyHidden (place_of (λ t. named j.numbers t && named hs t) ts)) SpanTaken BookFull is

  pub admitted_place : place ≡ place_of is_free slots
  admitted_place = both.1

  pub admitted_few : length hs + length j.numbers ≤ 256
  admitted_few = leb-true _ _ (and_parts (ltb (length (running slots)) 8) _ both.0).1

  pub admitted_within : length slots ≡ 8 → place < 8
  admitted_within eight =
      let some = ltb-true _ _ (and_parts (ltb (length (running slots)) 8) _ both.0).0 in
      let inside = ltb-true (place_of is_free slots) (length slots) (inside_is is_free slots ∙ some_free slots ∙ lt-ltb (length (running slots)) (length slots) (omega (arith, some))) in
      omega (arith, inside, both.1)
