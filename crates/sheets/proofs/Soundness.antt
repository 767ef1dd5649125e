-- The test of a sheet says that the sheet is sound, and the other way round.
use Rattle.std.proofs.Common.{◌≡◌, ℕ, suc, ◌^◌, ◌<◌, ◌≤◌, true, false, cond, not, ◌&&◌, eqb, leb, ◌⊎◌, List, [], ◌∷◌, Decides, Ordering, sym, refl, ap, ◌∙◌, subst, inl, inr, arith}
use Rattle.std.specs.List.{list_all}
use Rattle.std.specs.Ordering.{is_lt}
use Rattle.std.proofs.lemmas.Bool.{eq-eqb, ne_eqb, eqb-true, eqb-false, le-leb, leb-true, and_parts, and_from, not-true, not_from_false, cases_order, cases_eq}
use Rattle.keys.specs.KeyKind.{Laws}
use Rattle.runs.specs.declared.table.Table.{Table}
use Rattle.sheets.specs.Level.{numbers_of, size_of, Stacked}
use Rattle.sheets.specs.Members.{In, here, later, Every, Pairs, none, more}
use Rattle.sheets.specs.Sound.{Occupied, Proper, Sound, distinct, counts_on, within_limits, leads, in_order, tables_ok, sheet_ok}
use Rattle.sheets.proofs.Ascends.{Ahead, by_level, by_run, by_key, ahead_from, ahead_to, ahead_chain, apart_from, order_from, ordered_ascends, sound_stacked}
use Rattle.sheets.proofs.Distinct.{differ_from, differ_to}
use Rattle.sheets.proofs.Each.{none_in, in_cases, all_from, all_to}

-- ---- the order: neighbours, and all pairs
module _ {K : Type 0} {cmp : K → K → Ordering} where
  first_led : (t : Table K) (us : List (Table K)) → Every (Ahead cmp t) us → leads cmp t us ≡ true
  first_led t [] g = refl
  first_led t (u ∷ us) g = ahead_to t u (g u (here refl))

  neighbours : {ts : List (Table K)} → Pairs (Ahead cmp) ts → in_order cmp ts ≡ true
  neighbours none = refl
  neighbours (more {x = t} {xs = ts} h ps) = and_from (leads cmp t ts) (in_order cmp ts) (first_led t ts h) (neighbours ps)

module _ {K : Type 0} {cmp : K → K → Ordering} (laws : Laws cmp) where
  lead_all : (t : Table K) (ts : List (Table K)) → Every (Proper cmp) ts → leads cmp t ts ≡ true → in_order cmp ts ≡ true → Every (Ahead cmp t) ts
  lead_all t [] p h l x m = absurd (none_in m)
  lead_all t (u ∷ us) p h l x m =
      let a = and_parts (leads cmp u us) (in_order cmp us) l in
      let b = ahead_from t u h in
      let rest = lead_all u us (λ y n. p y (later n)) a.0 a.1 in
      elim (in_cases m) [ inl e ↦ subst (Ahead cmp t) (sym e) b | inr n ↦ ahead_chain laws t u x (p u (here refl)) b (rest x n) ]

  all_pairs : (ts : List (Table K)) → Every (Proper cmp) ts → in_order cmp ts ≡ true → Pairs (Ahead cmp) ts
  all_pairs [] p h = none
  all_pairs (t ∷ ts) p h =
      let a = and_parts (leads cmp t ts) (in_order cmp ts) h in
      more (lead_all t ts (λ y n. p y (later n)) a.0 a.1) (all_pairs ts (λ y n. p y (later n)) a.1)

-- ---- the runs, of which n are counted
module _ {K : Type 0} where
  -- counted already, or the run of a table
  abbrev Seen : ℕ → List (Table K) → ℕ → Type 0
  Seen n ts r = (r < n) ⊎ Occupied r ts

  record Counts (n : ℕ) (ts : List (Table K)) : Type 0 where
    counted : Every (λ t. t.level ≡ 0 → (r : ℕ) → r < t.run → Seen n ts r) ts
    single : Every (λ t. 0 < t.level → t.run ≡ 0) ts

  seen_later : (n : ℕ) (t : Table K) (ts : List (Table K)) (r : ℕ) → Seen n ts r → Seen n (t ∷ ts) r
  seen_later n t ts r s = elim s [ inl h ↦ inl h | inr o ↦ inr (o.0, later o.1, o.2, o.3) ]

  -- one more table of level 0
  zero_level : (n : ℕ) (t : Table K) (ts : List (Table K)) → t.level ≡ 0 → ((r : ℕ) → r < t.run → Seen n (t ∷ ts) r) → Every (λ u. 0 < u.level → u.run ≡ 0) ts
      → Every (λ u. u.level ≡ 0 → (r : ℕ) → r < u.run → Seen n (t ∷ ts) r) ts → Counts n (t ∷ ts)
  zero_level n t ts z f s g =
      record {
        counted = λ u m y r l. elim (in_cases m) [ inl q ↦ f r (omega (arith, ap (λ (x : Table K). x.run) q)) | inr i ↦ g u i y r l ];
        single = λ u m l. elim (in_cases m) [ inl q ↦ absurd (omega (arith, ap (λ (x : Table K). x.level) q)) | inr i ↦ s u i l ];
      }

  counts_from : (n : ℕ) (ts : List (Table K)) → counts_on n ts ≡ true → Counts n ts
  counts_from n [] h = record { counted = λ t m. absurd (none_in m); single = λ t m. absurd (none_in m) }
  counts_from n (t ∷ ts) h =
      elim (eqb t.level 0) as (λ b. eqb t.level 0 ≡ b → cond b (cond (eqb t.run n) (counts_on (suc n) ts) (eqb (suc t.run) n && counts_on n ts)) (eqb t.run 0 && counts_on n ts) ≡ true → Counts n (t ∷ ts)) [
        | true ↦ λ e. elim (eqb t.run n) as (λ b. eqb t.run n ≡ b → cond b (counts_on (suc n) ts) (eqb (suc t.run) n && counts_on n ts) ≡ true → Counts n (t ∷ ts)) [
          | true ↦ λ f k.
              let c = counts_from (suc n) ts k in
              zero_level n t ts (eqb-true t.level 0 e) (λ r l. inl (omega (arith, eqb-true t.run n f))) c.single
              (λ u m z r l. elim (c.counted u m z r l) [
                | inl i ↦ elim (cases_eq r n) [ inl q ↦ inr (t, here refl, eqb-true t.level 0 e, eqb-true t.run n f ∙ sym q) | inr q ↦ inl (omega arith) ]
                | inr o ↦ inr (o.0, later o.1, o.2, o.3)
              ])
          | false ↦ λ f k.
              let a = and_parts (eqb (suc t.run) n) (counts_on n ts) k in
              let c = counts_from n ts a.1 in
              zero_level n t ts (eqb-true t.level 0 e) (λ r l. inl (omega (arith, eqb-true (suc t.run) n a.0))) c.single (λ u m z r l. seen_later n t ts r (c.counted u m z r l))
        ] refl
        | false ↦ λ e k.
            let a = and_parts (eqb t.run 0) (counts_on n ts) k in
            let c = counts_from n ts a.1 in
            record {
              counted = λ u m z r l. elim (in_cases m) [ inl q ↦ absurd (eqb-false t.level 0 e (sym (ap (λ (x : Table K). x.level) q) ∙ z)) | inr i ↦ seen_later n t ts r (c.counted u i z r l) ];
              single = λ u m l. elim (in_cases m) [ inl q ↦ ap (λ (x : Table K). x.run) q ∙ eqb-true t.run 0 a.0 | inr i ↦ c.single u i l ];
            }
      ] refl h

  -- in level 0 the run of a table is at least that of one ahead of it
  pub ahead_run : (cmp : K → K → Ordering) (t u : Table K) → Ahead cmp t u → u.level ≡ 0 → t.run ≤ u.run
  ahead_run cmp t u (by_level h) e = absurd (omega arith)
  ahead_run cmp t u (by_run f h) e = omega arith
  ahead_run cmp t u (by_key f g h) e = omega arith

  counts_to : (cmp : K → K → Ordering) (n : ℕ) {ts : List (Table K)} → Pairs (Ahead cmp) ts → Counts n ts → Every (λ t. t.level ≡ 0 → n ≤ suc t.run) ts → counts_on n ts ≡ true
  counts_to cmp n none c low = refl
  counts_to cmp n (more {x = t} {xs = ts} h ps) c low =
      let rest : (k : ℕ) → ((r : ℕ) → (r < n) ⊎ ((t.level ≡ 0) × (t.run ≡ r)) → r < k) → Every (λ u. u.level ≡ 0 → k ≤ suc u.run) ts → counts_on k ts ≡ true =
      λ k below least. counts_to cmp k ps (record {
        counted = λ u m z r l. elim (c.counted u (later m) z r l) [
          | inl q ↦ inl (below r (inl q))
          | inr o ↦ elim (in_cases o.1) [ inl e ↦ inl (below r (inr (sym (ap (λ (x : Table K). x.level) e) ∙ o.2, sym (ap (λ (x : Table K). x.run) e) ∙ o.3))) | inr i ↦ inr (o.0, i, o.2, o.3) ]
        ];
        single = λ u m. c.single u (later m);
      }) least in
      elim (cases_order t.level 0) [
        | inl z ↦
            let q : eqb t.level 0 ≡ true = eq-eqb t.level 0 z in
            let lo = low t (here refl) z in
            elim (cases_order t.run n) [
              | inl e ↦
                  let f : eqb t.run n ≡ true = eq-eqb t.run n e in
                  rw (q, f) (rest (suc n) (λ r w. elim w [ inl l ↦ omega arith | inr p ↦ omega (arith, p.1) ]) (λ u m y. omega (arith, ahead_run cmp t u (h u m) y)))
              | inr o ↦ elim o [
                | inl l ↦
                    let f : eqb t.run n ≡ false = ne_eqb t.run n (λ e. omega arith) in
                    let g : eqb (suc t.run) n ≡ true = eq-eqb (suc t.run) n (omega arith) in
                    rw (q, f, g) (rest n (λ r w. elim w [ inl i ↦ i | inr p ↦ omega (arith, p.1) ]) (λ u m y. low u (later m) y))
                | inr l ↦ absurd (elim (c.counted t (here refl) z n l) [
                  | inl i ↦ omega arith
                  | inr w ↦ elim (in_cases w.1) [ inl e ↦ omega (arith, ap (λ (x : Table K). x.run) e, w.3) | inr i ↦ omega (arith, ahead_run cmp t w.0 (h w.0 i) w.2, w.3) ]
                ])
              ]
            ]
        | inr o ↦ elim o [
          | inl l ↦ absurd (omega arith)
          | inr l ↦
              let q : eqb t.level 0 ≡ false = ne_eqb t.level 0 (λ e. omega arith) in
              rw q (and_from (eqb t.run 0) (counts_on n ts) (eq-eqb t.run 0 (c.single t (here refl) l)) (rest n (λ r w. elim w [ inl i ↦ i | inr p ↦ absurd (omega (arith, p.0)) ]) (λ u m y. low u (later m) y)))
        ]
      ]

-- ---- the limits of one table
module _ {K : Type 0} (cmp : K → K → Ordering) where
  record Limits (t : Table K) : Type 0 where
    level : t.level ≤ 6
    size : t.size ≤ 2 ^ 53
    linked : t.linked ≤ 2 ^ 53
    range : Proper cmp t

  limits_from : (t : Table K) → within_limits cmp t ≡ true → Limits t
  limits_from t h =
      let x = and_parts (leb t.level 6) _ h in
      let y = and_parts (leb t.size (2 ^ 53)) _ x.1 in
      let z = and_parts (leb t.linked (2 ^ 53)) (not (is_lt (cmp t.range.max t.range.min))) y.1 in
      record { level = leb-true _ _ x.0; size = leb-true _ _ y.0; linked = leb-true _ _ z.0; range = not-true _ z.1 }

  limits_to : (t : Table K) → Limits t → within_limits cmp t ≡ true
  limits_to t l = and_from _ _ (le-leb t.level 6 l.level) (and_from _ _ (le-leb t.size (2 ^ 53) l.size) (and_from _ _ (le-leb t.linked (2 ^ 53) l.linked) (not_from_false _ l.range)))

-- ---- the sheet
module _ {K : Type 0} {cmp : K → K → Ordering} (laws : Laws cmp) where
  pub sound_from_test : (room standing blobs : ℕ) (ts : List (Table K)) → sheet_ok cmp room standing blobs ts ≡ true → Sound cmp room standing blobs ts
  sound_from_test room standing blobs ts h =
      let a = and_parts (leb room 1024) _ h in
      let b = and_parts (leb standing room) _ a.1 in
      let c = and_parts (leb blobs (2 ^ 53)) (tables_ok cmp ts) b.1 in
      let d = and_parts (list_all (within_limits cmp) ts) _ c.1 in
      let e = and_parts (leb (size_of ts) (2 ^ 53)) _ d.1 in
      let f = and_parts (in_order cmp ts) _ e.1 in
      let g = and_parts (counts_on 0 ts) (distinct (numbers_of ts)) f.1 in
      let ok : (t : Table K) → In t ts → Limits cmp t = λ t m. limits_from cmp t (all_from (within_limits cmp) ts d.0 t m) in
      let n = counts_from 0 ts g.0 in
      let order = all_pairs laws ts (λ t m. (ok t m).range) f.0 in
      record {
        few = leb-true _ _ a.0;
        fits = leb-true _ _ b.0;
        blob = leb-true _ _ c.0;
        ordered = record {
          numbers = differ_from ts g.1;
          levels = λ t m. (ok t m).level;
          ranges = λ t m. (ok t m).range;
          sizes = λ t m. (ok t m).size;
          links = λ t m. (ok t m).linked;
          total = leb-true _ _ e.0;
          single = n.single;
          apart = apart_from laws order;
          order = order_from laws (λ t m. (ok t m).range) order;
        };
        counted = λ t m z r l. elim (n.counted t m z r l) [ inl i ↦ absurd (omega arith) | inr o ↦ o ];
      }

  pub test_from_sound : (room standing blobs : ℕ) (ts : List (Table K)) → Sound cmp room standing blobs ts → sheet_ok cmp room standing blobs ts ≡ true
  test_from_sound room standing blobs ts s =
      let o = s.ordered in
      let order = ordered_ascends laws o in
      and_from _ _ (le-leb room 1024 s.few)
      (and_from _ _ (le-leb standing room s.fits)
      (and_from _ _ (le-leb blobs (2 ^ 53) s.blob)
      (and_from _ _ (all_to (within_limits cmp) ts (λ t m. limits_to cmp t (record { level = o.levels t m; size = o.sizes t m; linked = o.links t m; range = o.ranges t m })))
      (and_from _ _ (le-leb (size_of ts) (2 ^ 53) o.total)
      (and_from _ _ (neighbours order)
      (and_from _ _ (counts_to cmp 0 order (record { counted = λ t m e r l. inr (s.counted t m e r l); single = o.single }) (λ t m e. omega arith)) (differ_to o.numbers)))))))

  pub test_decides : (room standing blobs : ℕ) (ts : List (Table K)) → Decides (sheet_ok cmp room standing blobs ts) (Sound cmp room standing blobs ts)
  test_decides room standing blobs ts = (sound_from_test room standing blobs ts, test_from_sound room standing blobs ts)

  -- what the questions on levels ask for
  pub test_stacked : (room standing blobs : ℕ) (ts : List (Table K)) → sheet_ok cmp room standing blobs ts ≡ true → Stacked ts
  test_stacked room standing blobs ts h = sound_stacked laws (sound_from_test room standing blobs ts h)
