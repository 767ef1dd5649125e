-- A landing and a close leave of the tables what the words say.
use Rattle.std.proofs.Common.{◌≡◌, ℕ, suc, ◌-◌, ◌<◌, ◌≤◌, Bool, true, false, cond, eqb, ◌⊎◌, is_ok, List, [], filter, Some, None, Option, Result, Ordering, sym, refl, ap, ◌∙◌, subst, inl, inr, arith}
use Rattle.std.specs.List.{list_any}
use Rattle.std.specs.Option.{IsSomeAnd}
use Rattle.std.proofs.lemmas.Bool.{true≢false, cond_both, cond-false, cases_order, eq-eqb, eqb-true, ne_eqb, and_cases, and_parts, not-true, not_from_false}
use Rattle.refusals.specs.declared.refusal.Refusal.{Refusal}
use Rattle.keys.specs.KeyRange.{meets}
use Rattle.runs.specs.declared.fresh.Fresh.{Fresh}
use Rattle.runs.specs.declared.table.Table.{Table}
use Rattle.runs.specs.Fresh.{settled}
use Rattle.sheets.specs.Level.{in_level, runs}
use Rattle.sheets.specs.Members.{In, Every}
use Rattle.sheets.specs.Tables.{named, unnamed, placed, without, insert, inserts}
use Rattle.sheets.proofs.Each.{none_in, none_some, some_in, in_kept, kept_in, in_map, map_in}
use Rattle.strategies.specs.declared.choice.Kind.{Kind}
use Rattle.strategies.specs.declared.choice.Kind.TheVariants.{Move, Merge, Drop}
use Rattle.strategies.specs.Strategy.{Goes}
use Rattle.books.specs.Booked.{span_held, state_ok}
use Rattle.books.specs.Close.{first_fault, bad_table, bad_outputs, arrivals, closed, recounted, rank, unless_outputs, unless_tables, close_found}
use Rattle.books.specs.Job.{Running, running, found}
use Rattle.books.specs.Land.{has_room, fresh_ok, bars, landed}
use Rattle.books.specs.Leaves.{Met, Landed, LandsInWords, Moved, Merged, Closed, ClosesInWords}
use Rattle.books.specs.State.{State}
use Rattle.books.proofs.BookTests.{booked_from_test, going_from}
use Rattle.books.proofs.Insertions.{insert_out, in_inserts, inserts_old, inserts_new}
use Rattle.sheets.proofs.Levels.{runs_above}
use Rattle.books.proofs.Landing.{runs_top}
use Rattle.books.proofs.Outs.{out_in, out_rest, out_cases}
use Rattle.books.proofs.Recounts.{again, rank_less}
use Rattle.books.proofs.Slots.{Found, found_out, freed_out}

-- ---- landing
module _ {K : Type 0} (cmp : K → K → Ordering) (f : Fresh K) (ts : List (Table K)) where
  -- where it lands, by whether a table of the last run meets it
  module _ (run : ℕ) (above : Every (λ t. t.level ≡ 0 → meets cmp t.range f.range ≡ true → t.run < run) ts) (last : Every (λ t. t.level ≡ 0 → t.run ≤ run) ts)
      (needed : (r : ℕ) → run ≡ suc r → ((t : Table K) × In t ts × (t.level ≡ 0) × (t.run ≡ run)) ⊎ Met cmp f r ts) where
    lands_at : Landed cmp f ts (insert cmp (settled 0 run f) ts)
    lands_at =
        record {
          run = run;
          new = out_in (insert_out cmp (settled 0 run f) ts);
          kept = λ t m. out_rest (insert_out cmp (settled 0 run f) ts) m;
          only = λ t m. out_cases (insert_out cmp (settled 0 run f) ts) m;
          above = above;
          last = last;
          needed = needed;
        }

  lands_by : (b : Bool) → list_any (bars cmp f (runs ts)) ts ≡ b → Landed cmp f ts (insert cmp (settled 0 (cond b (runs ts) (runs ts - 1)) f) ts)
  lands_by true h =
      lands_at (runs ts) (λ t m e x. runs_above ts t m e) (λ t m e. omega (arith, runs_above ts t m e))
      (λ r e.
      let w = some_in (bars cmp f (runs ts)) ts h in
      let p = and_parts (in_level 0 w.0) _ w.2 in
      let q = and_parts (eqb (suc w.0.run) (runs ts)) (meets cmp w.0.range f.range) p.1 in
      inr (w.0, w.1, eqb-true _ _ p.0, omega (arith, eqb-true _ _ q.0), q.1))
  lands_by false h =
      lands_at (runs ts - 1)
      (λ t m e x.
      let l = runs_above ts t m e in
      elim (cases_order (suc t.run) (runs ts)) [
        | inl q ↦ elim (and_cases (in_level 0 t) _ (none_some (bars cmp f (runs ts)) ts h t m)) [
          | inl k ↦ absurd (true≢false (sym (eq-eqb t.level 0 e) ∙ k))
          | inr k ↦ elim (and_cases (eqb (suc t.run) (runs ts)) (meets cmp t.range f.range) k) [
            | inl k ↦ absurd (true≢false (sym (eq-eqb (suc t.run) (runs ts) q) ∙ k))
            | inr k ↦ absurd (true≢false (sym x ∙ k))
          ]
        ]
        | inr o ↦ elim o [ inl q ↦ omega arith | inr q ↦ absurd (omega arith) ]
      ])
      (λ t m e. omega (arith, runs_above ts t m e))
      (λ r e. elim (runs_top ts) [ inl z ↦ absurd (omega arith) | inr w ↦ inl (w.0, w.1, w.2, omega (arith, w.3)) ])

  pub lands : Landed cmp f ts (landed cmp f ts)
  lands = lands_by (list_any (bars cmp f (runs ts)) ts) refl

refuses : {P : Type 0} → false ≡ true → P
refuses e = absurd (true≢false (sym e))

pub lands_in_words : {K : Type 0} (cmp : K → K → Ordering) → LandsInWords cmp
lands_in_words {K} cmp f st =
    cond_both (state_ok cmp st) _ _ Ends
    (λ _. cond_both (fresh_ok cmp st.tables f) _ _ Ends
    (λ _. cond_both (has_room st.room (landed cmp f st.tables)) _ _ Ends (λ _ _. lands cmp f st.tables) (λ _ e. refuses e))
    (λ _ e. refuses e))
    (λ _ e. refuses e)
  where
    Ends : State K × Result (Unit {0}) Refusal → Type 0
    Ends w = is_ok w.1 ≡ true → Landed cmp f st.tables w.0.tables

-- ---- closing
module _ {K : Type 0} (cmp : K → K → Ordering) (j : Running) (outs : List (Fresh K)) (ts : List (Table K)) (destined : Goes j.kind → 1 ≤ j.destination) where
  abbrev new : List (Table K)
  new = arrivals j.kind j.destination j.numbers outs ts

  abbrev swap : List (Table K)
  swap = inserts cmp (without j.numbers ts) new

  goes : (k : Kind) → j.kind ≡ k → Goes k → Goes j.kind
  goes k e f q = f (sym e ∙ q)

  -- a table below level 0 keeps its run
  again_same : (u : Table K) → 1 ≤ u.level → again swap u ≡ u
  again_same u h = ap (λ r. placed u.level r u) (cond-false (eqb u.level 0) _ _ (ne_eqb u.level 0 (λ e. omega arith)))

  below : (u : Table K) → 1 ≤ u.level → In u swap → In u (recounted swap)
  below u h m = subst (λ x. In x (recounted swap)) (again_same u h) (map_in (again swap) swap u m)

  -- what comes in
  move_comes : (u : Table K) → Moved j outs ts u → In u new × (1 ≤ u.level)
  move_comes u w = (
    subst (λ x. In x new) (sym w.4) (subst (λ k. In (placed j.destination 0 w.1) (arrivals k j.destination j.numbers outs ts)) (sym w.0) (map_in (placed j.destination 0) (filter (named j.numbers) ts) w.1 (kept_in (named j.numbers) ts w.1 w.2 w.3))),
    omega (arith, ap (λ x. x.level) w.4, destined (goes Move w.0 (going_from Move refl))),
  )

  merge_comes : (u : Table K) → Merged j outs ts u → In u new × (1 ≤ u.level)
  merge_comes u w = (
    subst (λ x. In x new) (sym w.3) (subst (λ k. In (settled j.destination 0 w.1) (arrivals k j.destination j.numbers outs ts)) (sym w.0) (map_in (settled j.destination 0) outs w.1 w.2)),
    omega (arith, ap (λ x. x.level) w.3, destined (goes Merge w.0 (going_from Merge refl))),
  )

  comes_from : (k : Kind) → j.kind ≡ k → (u : Table K) → In u (arrivals k j.destination j.numbers outs ts) → Moved j outs ts u ⊎ Merged j outs ts u
  comes_from Move e u m =
      let w = in_map (placed j.destination 0) (filter (named j.numbers) ts) u m in
      let k = in_kept (named j.numbers) ts w.0 w.1 in
      inl (e, w.0, k.0, k.1, w.2)
  comes_from Merge e u m = let w = in_map (settled j.destination 0) outs u m in inr (e, w.0, w.1, w.2)
  comes_from Drop e u m = absurd (none_in m)

  comes_low : (u : Table K) → Moved j outs ts u ⊎ Merged j outs ts u → 1 ≤ u.level
  comes_low u (inl w) = (move_comes u w).1
  comes_low u (inr w) = (merge_comes u w).1

  stays : (t : Table K) → In t ts → named j.numbers t ≡ false → In t swap
  stays t m e = inserts_old cmp t (without j.numbers ts) new (kept_in (unnamed j.numbers) ts t m (not_from_false _ e))

  only : (u : Table K) → In u (recounted swap) → ((t : Table K) × In t ts × (named j.numbers t ≡ false) × (u ≡ again swap t)) ⊎ (Moved j outs ts u ⊎ Merged j outs ts u)
  only u m =
      let w = in_map (again swap) swap u m in
      elim (in_inserts cmp w.0 (without j.numbers ts) new w.1) [
        | inl n ↦ let c = comes_from j.kind refl w.0 n in inr (subst (λ x. Moved j outs ts x ⊎ Merged j outs ts x) (sym (again_same w.0 (comes_low w.0 c)) ∙ sym w.2) c)
        | inr n ↦ let k = in_kept (unnamed j.numbers) ts w.0 n in inl (w.0, k.0, not-true _ k.1, w.2)
      ]

  pub closes : Closed j outs ts (closed cmp j outs ts)
  closes =
      record {
        run = rank swap;
        rises = λ t m e n r l. rank_less swap t.run r (t, stays t m n, e, refl) l;
        others = λ t m e. map_in (again swap) swap t (stays t m e);
        moved = λ u w. below u (move_comes u w).1 (inserts_new cmp u (without j.numbers ts) new (move_comes u w).0);
        merged = λ u w. below u (merge_comes u w).1 (inserts_new cmp u (without j.numbers ts) new (merge_comes u w).0);
        only = only;
      }

module _ {K : Type 0} (cmp : K → K → Ordering) (outs : List (Fresh K)) (st : State K) where
  abbrev Ended : Running → State K × Result (Unit {0}) Refusal → Type 0
  Ended j w = is_ok w.1 ≡ true → Closed j outs st.tables w.0.tables

  module _ (j : Running) (destined : Goes j.kind → 1 ≤ j.destination) where
    by_outputs : (p : Option ℕ) → Ended j (unless_outputs cmp p j outs st)
    by_outputs None = cond_both (has_room st.room (closed cmp j outs st.tables)) _ _ (Ended j) (λ _ _. closes cmp j outs st.tables destined) (λ _ e. refuses e)
    by_outputs (Some place) = λ e. refuses e

    by_tables : (p : Option ℕ) → Ended j (unless_tables cmp p j outs st)
    by_tables None = by_outputs (bad_outputs cmp j.kind (span_held cmp st.tables j) outs)
    by_tables (Some place) = λ e. refuses e

  by_job : (n : ℕ) (o : Option Running) → Found n st.slots o → state_ok cmp st ≡ true → is_ok (close_found cmp o outs st).1 ≡ true → IsSomeAnd o (λ j. Closed j outs st.tables (close_found cmp o outs st).0.tables)
  by_job n None w h e = refuses e
  by_job n (Some j) w h e =
      let b = booked_from_test cmp st.tables st.hidden (running st.slots) (and_parts _ _ h).1 in
      by_tables j (λ g. (b.destined j (out_in (freed_out n st.slots j w)) g).0) (first_fault (bad_table cmp st.tables) [] outs) e

pub closes_in_words : {K : Type 0} (cmp : K → K → Ordering) → ClosesInWords cmp
closes_in_words {K} cmp n outs st =
    cond_both (state_ok cmp st) _ _ Ends (λ h. by_job cmp outs st n (found n st.slots) (found_out n st.slots) h) (λ _ e. refuses e)
  where
    Ends : State K × Result (Unit {0}) Refusal → Type 0
    Ends w = is_ok w.1 ≡ true → IsSomeAnd (found n st.slots) (λ j. Closed j outs st.tables w.0.tables)
