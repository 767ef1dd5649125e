-- The test of a book says that it is sound with its sheet, and the other way round.
use Rattle.std.proofs.Common.{◌≡◌, ℕ, ◌≤◌, true, false, not, ◌&&◌, ◌||◌, eqb, leb, List, [], ◌∷◌, length, Ordering, sym, refl, ap, ◌∙◌, inl, inr, arith}
use Rattle.std.specs.List.{list_any, list_all}
use Rattle.std.proofs.lemmas.Bool.{true≢false, cases_Bool, both_ways, eq-eqb, eqb-true, eqb-false, le-leb, leb-true, and_parts, and_from, or_cases, or_left, or_right, not-true, not_from_false}
use Rattle.keys.specs.KeyKind.{Laws}
use Rattle.keys.specs.KeyRange.{meets}
use Rattle.runs.specs.declared.table.Table.{Table}
use Rattle.picks.specs.Movable.{meets_span}
use Rattle.sheets.specs.Level.{numbers_of}
use Rattle.sheets.specs.Members.{In, Every, Pairs, none, more}
use Rattle.sheets.specs.Sound.{Differ, distinct, sheet_ok}
use Rattle.sheets.specs.Tables.{memb, named}
use Rattle.sheets.proofs.Each.{some_in, in_some, none_some, kept_pairs, memb_in, in_memb, pairs_weaker, pairs_zip, pair_in, all_from, all_to, in_map, map_in}
use Rattle.sheets.proofs.Soundness.{sound_from_test, test_from_sound}
use Rattle.strategies.specs.declared.choice.Kind.{Kind}
use Rattle.strategies.specs.declared.choice.Kind.TheVariants.{Move, Merge, Drop}
use Rattle.strategies.specs.Strategy.{Goes, Stands, spans_meet}
use Rattle.books.specs.Booked.{Disjoint, pairs_by, span_held, Lanes, UnmetHeld, Booked, SoundState, is_clear, kind_ok, job_ok, is_going, crosses, jobs_apart, book_ok, state_ok}
use Rattle.books.specs.Job.{Running, running, held}
use Rattle.books.specs.State.{State}
use Rattle.books.proofs.Outs.{pairs_from, pairs_to}
use Rattle.books.proofs.SpanBounds.{unmet_turn}

-- ---- numbers
pub distinct_from : (ns : List ℕ) → distinct ns ≡ true → Pairs (λ m n. m ≡ n → ⊥) ns
distinct_from [] h = none
distinct_from (n ∷ ns) h =
    let a = and_parts (not (memb n ns)) (distinct ns) h in
    more (λ m i e. both_ways _ (not-true _ a.0) (ap (λ k. memb k ns) e ∙ in_memb m ns i)) (distinct_from ns a.1)

pub distinct_to : {ns : List ℕ} → Pairs (λ m n. m ≡ n → ⊥) ns → distinct ns ≡ true
distinct_to none = refl
distinct_to (more {x = n} {xs = ns} h ps) =
    and_from (not (memb n ns)) (distinct ns)
    (not_from_false _ (elim (cases_Bool (memb n ns)) [ inl e ↦ absurd (h n (memb_in n ns e) refl) | inr e ↦ e ])) (distinct_to ps)

module _ {K : Type 0} (ts : List (Table K)) where
  pub stands_from : (n : ℕ) → memb n (numbers_of ts) ≡ true → Stands ts n
  stands_from n h = let w = in_map (λ t. t.number) ts n (memb_in n (numbers_of ts) h) in (w.0, w.1, sym w.2)

  pub stands_to : (n : ℕ) → Stands ts n → memb n (numbers_of ts) ≡ true
  stands_to n w = ap (λ k. memb k (numbers_of ts)) (sym w.2) ∙ in_memb w.0.number (numbers_of ts) (map_in (λ t. t.number) ts w.0 w.1)

-- ---- kinds
going_to : (k : Kind) → Goes k → is_going k ≡ true
going_to Move f = refl
going_to Merge f = refl
going_to Drop f = absurd (f refl)

pub going_from : (k : Kind) → is_going k ≡ true → Goes k
going_from Move h e = let z : ◌≡◌ {A = ℕ} 0 1 = cc in omega arith
going_from Merge h e = let z : ◌≡◌ {A = ℕ} 0 1 = cc in omega arith
going_from Drop h e = true≢false (sym h)

test_disjoint : (j k : Running) → Disjoint j k → list_any (λ n. memb n k.numbers) j.numbers ≡ false
test_disjoint j k d =
    elim (cases_Bool (list_any (λ n. memb n k.numbers) j.numbers))
    [ inr e ↦ e | inl e ↦ let w = some_in (λ n. memb n k.numbers) j.numbers e in absurd (d w.0 (in_memb w.0 j.numbers w.1) w.2) ]

disjoint_test : (j k : Running) → list_any (λ n. memb n k.numbers) j.numbers ≡ false → Disjoint j k
disjoint_test j k h n x y = both_ways _ (none_some (λ z. memb z k.numbers) j.numbers h n (memb_in n j.numbers x)) y

module _ {K : Type 0} (cmp : K → K → Ordering) (ts : List (Table K)) where
  -- ---- two jobs
  pub lanes_test : (j k : Running) → crosses cmp ts j k ≡ false → Lanes cmp ts j k
  lanes_test j k h gj gk e =
      elim (cases_Bool (spans_meet cmp (span_held cmp ts j) (span_held cmp ts k))) [
        | inl a ↦ absurd (both_ways _ h (and_from _ _ (going_to j.kind gj) (and_from _ _ (going_to k.kind gk) (and_from _ _ (eq-eqb _ _ e) a))))
        | inr a ↦ a
      ]

  test_lanes : (j k : Running) → Lanes cmp ts j k → crosses cmp ts j k ≡ false
  test_lanes j k l =
      elim (cases_Bool (crosses cmp ts j k)) [
        | inr e ↦ e
        | inl e ↦
            let x = and_parts (is_going j.kind) _ e in
            let y = and_parts (is_going k.kind) _ x.1 in
            let z = and_parts (eqb j.destination k.destination) (spans_meet cmp (span_held cmp ts j) (span_held cmp ts k)) y.1 in
            absurd (both_ways _ (l (going_from j.kind x.0) (going_from k.kind y.0) (eqb-true _ _ z.0)) z.1)
      ]

  -- ---- a table and a job
  clear_test : (j : Running) (u : Table K) → is_clear cmp ts j u ≡ true → u.level ≡ j.destination → named j.numbers u ≡ false → meets_span cmp (λ t. t.range) (span_held cmp ts j) u ≡ false
  clear_test j u h e x =
      elim (or_cases (not (eqb u.level j.destination)) _ h) [
        | inl k ↦ absurd (eqb-false u.level j.destination (not-true _ k) e)
        | inr k ↦ elim (or_cases (named j.numbers u) _ k) [ inl l ↦ absurd (both_ways _ x l) | inr l ↦ not-true _ l ]
      ]

  test_clear : (j : Running) (u : Table K) → (u.level ≡ j.destination → named j.numbers u ≡ false → meets_span cmp (λ t. t.range) (span_held cmp ts j) u ≡ false) → is_clear cmp ts j u ≡ true
  test_clear j u f =
      let a = not (eqb u.level j.destination) in
      let b = named j.numbers u in
      let c = not (meets_span cmp (λ t. t.range) (span_held cmp ts j) u) in
      elim (cases_Bool (eqb u.level j.destination)) [
        | inr e ↦ or_left a (b || c) (not_from_false _ e)
        | inl e ↦ or_right a (b || c) (elim (cases_Bool b) [ inl x ↦ or_left b c x | inr x ↦ or_right b c (not_from_false _ (f (eqb-true _ _ e) x)) ])
      ]

  -- ---- from the test
  record Going (j : Running) : Type 0 where
    destined : (1 ≤ j.destination) × (j.destination ≤ 6)
    clear : Every (λ u. is_clear cmp ts j u ≡ true) ts

  going_test : (j : Running) (k : Kind) → kind_ok cmp ts j k ≡ true → Goes k → Going j
  going_test j Move h f =
      let a = and_parts (leb 1 j.destination) _ h in
      let b = and_parts (leb j.destination 6) _ a.1 in
      let c = and_parts (list_all (is_clear cmp ts j) ts) _ b.1 in
      record { destined = (leb-true _ _ a.0, leb-true _ _ b.0); clear = all_from (is_clear cmp ts j) ts c.0 }
  going_test j Merge h f =
      let a = and_parts (leb 1 j.destination) _ h in
      let b = and_parts (leb j.destination 6) _ a.1 in
      record { destined = (leb-true _ _ a.0, leb-true _ _ b.0); clear = all_from (is_clear cmp ts j) ts b.1 }
  going_test j Drop h f = absurd (f refl)

  moves_test : (j : Running) (k : Kind) → kind_ok cmp ts j k ≡ true → k ≡ Move → Pairs (λ t u. not (meets cmp t.range u.range) ≡ true) (held j ts)
  moves_test j Move h e =
      let a = and_parts (leb 1 j.destination) _ h in
      let b = and_parts (leb j.destination 6) _ a.1 in
      let c = and_parts (list_all (is_clear cmp ts j) ts) _ b.1 in
      pairs_from (λ t u. not (meets cmp t.range u.range)) (held j ts) c.1
  moves_test j Merge h e = absurd (let z : ◌≡◌ {A = ℕ} 0 1 = cc in omega arith)
  moves_test j Drop h e = absurd (let z : ◌≡◌ {A = ℕ} 0 1 = cc in omega arith)

  -- of two tables of a move, one is the other or they do not meet
  unmet_test : (j : Running) → Pairs (λ t u. not (meets cmp t.range u.range) ≡ true) (held j ts) → UnmetHeld cmp ts j
  unmet_test j ps t u m n d =
      elim (pair_in (λ x y. not (meets cmp x.range y.range) ≡ true) (λ x y r. not_from_false _ (unmet_turn cmp x.range y.range (not-true _ r))) ps m n)
      [ inl x ↦ absurd (d (ap (λ z. z.number) x)) | inr x ↦ not-true _ x ]

  pub booked_from_test : (hidden : List ℕ) (jobs : List Running) → book_ok cmp ts hidden jobs ≡ true → Booked cmp ts hidden jobs
  booked_from_test hidden jobs h =
      let a = and_parts (leb (length hidden) 256 && leb (length jobs) 8) _ h in
      let b = and_parts (distinct hidden) _ a.1 in
      let c = and_parts (list_all (λ n. memb n (numbers_of ts) && list_any (λ j. memb n j.numbers) jobs) hidden) _ b.1 in
      let d = and_parts (list_all (job_ok cmp ts hidden) jobs) (pairs_by (jobs_apart cmp ts) jobs) c.1 in
      let few = and_parts (leb (length hidden) 256) (leb (length jobs) 8) a.0 in
      let each : (n : ℕ) → In n hidden → (memb n (numbers_of ts) ≡ true) × (list_any (λ j. memb n j.numbers) jobs ≡ true) = λ n m. and_parts _ _ (all_from _ hidden c.0 n m) in
      let job : (j : Running) → In j jobs → (leb 1 (length j.numbers) ≡ true) × (list_all (λ n. memb n hidden) j.numbers ≡ true) × (kind_ok cmp ts j j.kind ≡ true) =
      λ j m. let x = and_parts (leb 1 (length j.numbers)) _ (all_from (job_ok cmp ts hidden) jobs d.0 j m) in
      let y = and_parts (list_all (λ n. memb n hidden) j.numbers) (kind_ok cmp ts j j.kind) x.1 in
      (x.0, y.0, y.1) in
      let two : Pairs (λ j k. jobs_apart cmp ts j k ≡ true) jobs = pairs_from (jobs_apart cmp ts) jobs d.1 in
      record {
        few = (leb-true _ _ few.0, leb-true _ _ few.1);
        once = distinct_from hidden b.0;
        stands = λ n m. stands_from ts n (each n m).0;
        owned = λ n m. some_in (λ j. memb n j.numbers) jobs (each n m).1;
        hides = λ j m. all_from (λ n. memb n hidden) j.numbers (job j m).1;
        disjoint = pairs_weaker _ Disjoint (λ j k _ _ e. disjoint_test j k (not-true _ (and_parts (not (list_any (λ n. memb n k.numbers) j.numbers)) _ e).0)) two;
        filled = λ j m. leb-true _ _ (job j m).0;
        destined = λ j m g. (going_test j j.kind (job j m).2 g).destined;
        clear = λ j m g u n. clear_test j u ((going_test j j.kind (job j m).2 g).clear u n);
        lanes = pairs_weaker _ (Lanes cmp ts) (λ j k _ _ e. lanes_test j k (not-true _ (and_parts (not (list_any (λ n. memb n k.numbers) j.numbers)) (not (crosses cmp ts j k)) e).1)) two;
        moves = λ j m e. unmet_test j (moves_test j j.kind (job j m).2 e);
      }

  -- ---- to the test
  module _ (hidden : List ℕ) (jobs : List Running) (numbers : Pairs Differ ts) (b : Booked cmp ts hidden jobs) where
    all_clear : (j : Running) → In j jobs → Goes j.kind → list_all (is_clear cmp ts j) ts ≡ true
    all_clear j m g = all_to (is_clear cmp ts j) ts (λ u n. test_clear j u (λ e x. b.clear j m g u n e x))

    kind_to : (j : Running) → In j jobs → (k : Kind) → j.kind ≡ k → kind_ok cmp ts j k ≡ true
    kind_to j m Move e =
        let g : Goes j.kind = λ q. going_from Move refl (sym e ∙ q) in
        let d = b.destined j m g in
        and_from _ _ (le-leb 1 j.destination d.0) (and_from _ _ (le-leb j.destination 6 d.1) (and_from _ _ (all_clear j m g)
        (pairs_to (λ t u. not (meets cmp t.range u.range)) (pairs_weaker Differ _ (λ t u n i x. not_from_false _ (b.moves j m e t u n i x)) (kept_pairs Differ (named j.numbers) numbers)))))
    kind_to j m Merge e =
        let g : Goes j.kind = λ q. going_from Merge refl (sym e ∙ q) in
        let d = b.destined j m g in
        and_from _ _ (le-leb 1 j.destination d.0) (and_from _ _ (le-leb j.destination 6 d.1) (all_clear j m g))
    kind_to j m Drop e = refl

    pub test_from_booked : book_ok cmp ts hidden jobs ≡ true
    test_from_booked =
        and_from _ _ (and_from _ _ (le-leb (length hidden) 256 b.few.0) (le-leb (length jobs) 8 b.few.1))
        (and_from _ _ (distinct_to b.once)
        (and_from _ _ (all_to _ hidden (λ n m. let o = b.owned n m in and_from _ _ (stands_to ts n (b.stands n m)) (in_some (λ j. memb n j.numbers) jobs o.0 o.1 o.2)))
        (and_from _ _ (all_to (job_ok cmp ts hidden) jobs (λ j m.
        and_from _ _ (le-leb 1 (length j.numbers) (b.filled j m)) (and_from _ _ (all_to (λ n. memb n hidden) j.numbers (b.hides j m)) (kind_to j m j.kind refl))))
        (pairs_to (jobs_apart cmp ts) (pairs_weaker _ _ (λ j k _ _ w. and_from _ _ (not_from_false _ (test_disjoint j k w.0)) (not_from_false _ (test_lanes j k w.1))) (pairs_zip Disjoint (Lanes cmp ts) b.disjoint b.lanes))))))

-- ---- book and sheet
module _ {K : Type 0} {cmp : K → K → Ordering} (laws : Laws cmp) (st : State K) where
  pub state_from_test : st.standing ≡ length st.tables → length st.slots ≡ 8 → state_ok cmp st ≡ true → SoundState cmp st
  state_from_test whole eight h =
      let a = and_parts (sheet_ok cmp st.room st.standing st.blobs st.tables) (book_ok cmp st.tables st.hidden (running st.slots)) h in
      record {
        whole = whole;
        eight = eight;
        sheet = sound_from_test laws st.room st.standing st.blobs st.tables a.0;
        book = booked_from_test cmp st.tables st.hidden (running st.slots) a.1;
      }

  pub test_from_state : SoundState cmp st → state_ok cmp st ≡ true
  test_from_state s =
      and_from _ _ (test_from_sound laws st.room st.standing st.blobs st.tables s.sheet)
      (test_from_booked cmp st.tables st.hidden (running st.slots) s.sheet.ordered.numbers s.book)
