-- The recount in one pass, on a sheet that ascends.
use Rattle.std.proofs.Common.{◌≡◌, ℕ, zero, suc, ◌-◌, ◌<◌, ◌≤◌, Bool, cond, eqb, ltb, ◌⊎◌, List, ◌∷◌, map, Ordering, sym, refl, ap, ◌∙◌, inl, inr, arith}
use Rattle.std.specs.List.{list_any}
use Rattle.std.proofs.lemmas.Bool.{cases_Bool, cases_order, cases_lt, eq-eqb, ne_eqb, eqb-true, eqb-false, lt-ltb, le-ltb, cond-true, cond-false, and_from, and_left, and_right}
use Rattle.runs.specs.declared.table.Table.{Table}
use Rattle.sheets.specs.Members.{In, here, later, Every, Pairs, none, more}
use Rattle.sheets.specs.Recount.{counted_run, counting}
use Rattle.sheets.specs.Sound.{Occupied}
use Rattle.sheets.specs.Tables.{placed}
use Rattle.sheets.proofs.Ascends.{Ahead}
use Rattle.sheets.proofs.Each.{in_cases}
use Rattle.sheets.proofs.Soundness.{ahead_run}
use Rattle.books.specs.Close.{in_run, rank, recounted}
use Rattle.books.proofs.Recounts.{again, rank_next, some_occupied}

module _ {K : Type 0} (cmp : K → K → Ordering) (all : List (Table K)) where
  -- where no run between two has a table, their ranks are one
  rank_flat : (f r : ℕ) → f ≤ r → ((k : ℕ) → f ≤ k → k < r → Occupied k all → ⊥) → rank all r ≡ rank all f
  rank_flat f zero h g = let e : f ≡ 0 = omega arith in rw e
  rank_flat f (suc r) h g =
      elim (cases_order f (suc r)) [
        | inl e ↦ rw e
        | inr o ↦ elim o [
          | inl l ↦ cond-false (list_any (in_run r) all) (suc (rank all r)) (rank all r)
              (elim (cases_Bool (list_any (in_run r) all)) [ inl s ↦ absurd (g r (omega arith) (omega arith) (some_occupied all r s)) | inr s ↦ s ])
              ∙ rank_flat f r (omega arith) (λ k i j. g k i (omega arith))
          | inr l ↦ absurd (omega arith)
        ]
      ]

  -- the runs below `floor` are counted: there are `next`, and the last of them was `last`
  record Counted (last next floor : ℕ) (ts : List (Table K)) : Type 0 where
    so_far : ((next ≡ 0) × (floor ≡ 0)) ⊎ ((0 < next) × (floor ≡ suc last) × Occupied last all)
    ranked : rank all floor ≡ next
    sub : Every (λ t. In t all) ts
    above : (r : ℕ) → floor ≤ r → Occupied r all → Occupied r ts
    low : Every (λ t. t.level ≡ 0 → floor ≤ suc t.run) ts

  -- what is found behind a table that is not it
  behind_it : (t : Table K) (ts : List (Table K)) (r : ℕ) → (t.level ≡ 0 → t.run ≡ r → ⊥) → Occupied r (t ∷ ts) → Occupied r ts
  behind_it t ts r f o =
      elim (in_cases o.1) [ inl e ↦ absurd (f (sym (ap (λ (x : Table K). x.level) e) ∙ o.2) (sym (ap (λ (x : Table K). x.run) e) ∙ o.3)) | inr m ↦ (o.0, m, o.2, o.3) ]

  counted_is : (last next floor : ℕ) (t : Table K) (ts : List (Table K)) → Every (Ahead cmp t) ts → Counted last next floor (t ∷ ts) → t.level ≡ 0 → counted_run last next t.run ≡ rank all t.run
  counted_is last next floor t ts h c z =
      let test : Bool → ℕ = λ b. cond b (next - 1) next in
      let flat : floor ≤ t.run → rank all t.run ≡ next =
      λ l. rank_flat floor t.run l (λ k i j o. elim (in_cases (c.above k i o).1) [
        | inl e ↦ omega (arith, ap (λ (x : Table K). x.run) e, (c.above k i o).3)
        | inr m ↦ omega (arith, ahead_run cmp t (c.above k i o).0 (h (c.above k i o).0 m) (c.above k i o).2, (c.above k i o).3)
      ]) ∙ c.ranked in
      elim c.so_far [
        | inl w ↦ ap test (and_left (ltb 0 next) (eqb t.run last) (le-ltb 0 next (omega (arith, w.0)))) ∙ sym (flat (omega (arith, w.1)))
        | inr w ↦ elim (cases_order t.run last) [
          | inl e ↦
              let down : next - 1 ≡ rank all last = omega (arith, rank_next all last w.2, ap (rank all) w.1, c.ranked) in
              ap test (and_from (ltb 0 next) (eqb t.run last) (lt-ltb 0 next w.0) (eq-eqb t.run last e)) ∙ down ∙ ap (rank all) (sym e)
          | inr o ↦ elim o [
            | inl l ↦ absurd (omega (arith, c.low t (here refl) z, w.1))
            | inr l ↦ ap test (and_right (ltb 0 next) (eqb t.run last) (ne_eqb t.run last (λ e. omega arith))) ∙ sym (flat (omega (arith, w.1)))
          ]
        ]
      ]

  counted_all : (last next floor : ℕ) {ts : List (Table K)} → Pairs (Ahead cmp) ts → Counted last next floor ts → counting last next ts ≡ map (again all) ts
  counted_all last next floor none c = refl
  counted_all last next floor (more {x = t} {xs = ts} h ps) c =
      elim (cases_Bool (eqb t.level 0)) [
        | inl e ↦
            let z = eqb-true t.level 0 e in
            let k = counted_run last next t.run in
            let is = counted_is last next floor t ts h c z in
            let mine : Occupied t.run all = (t, c.sub t (here refl), z, refl) in
            let rest = counted_all t.run (suc k) (suc t.run) ps (record {
              so_far = inr (omega arith, refl, mine);
              ranked = rank_next all t.run mine ∙ ap suc (sym is);
              sub = λ u m. c.sub u (later m);
              above = λ r l o. behind_it t ts r (λ _ q. omega arith) (elim (cases_lt r floor) [ inl i ↦ absurd (omega (arith, c.low t (here refl) z)) | inr i ↦ c.above r i o ]);
              low = λ u m y. omega (arith, ahead_run cmp t u (h u m) y);
            }) in
            cond-true (eqb t.level 0) _ _ e ∙ ap (λ r. placed t.level r t ∷ counting t.run (suc k) ts) (is ∙ sym (cond-true (eqb t.level 0) _ _ e)) ∙ ap (λ l. again all t ∷ l) rest
        | inr e ↦
            let rest = counted_all last next floor ps (record {
              so_far = c.so_far;
              ranked = c.ranked;
              sub = λ u m. c.sub u (later m);
              above = λ r l o. behind_it t ts r (λ z _. eqb-false t.level 0 e z) (c.above r l o);
              low = λ u m y. c.low u (later m) y;
            }) in
            cond-false (eqb t.level 0) _ _ e ∙ ap (λ r. placed t.level r t ∷ counting last next ts) (sym (cond-false (eqb t.level 0) (rank all t.run) t.run e)) ∙ ap (λ l. again all t ∷ l) rest
      ]

-- one pass counts each run by how many runs below it have a table
pub counting_is : {K : Type 0} (cmp : K → K → Ordering) {ts : List (Table K)} → Pairs (Ahead cmp) ts → counting 0 0 ts ≡ recounted ts
counting_is cmp {ts} ps = counted_all cmp ts 0 0 0 ps (record { so_far = inl (refl, refl); ranked = refl; sub = λ t m. m; above = λ r l o. o; low = λ t m e. omega arith })
