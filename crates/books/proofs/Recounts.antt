-- Level 0's runs counted anew: the order stays, no gaps are left, and nothing else changes.
use Rattle.std.proofs.Common.{◌≡◌, ℕ, zero, suc, ◌^◌, ◌<◌, ◌≤◌, Bool, true, false, cond, eqb, List, [], ◌∷◌, map, length, Ordering, sym, refl, ap, ◌∙◌, inl, inr, arith}
use Rattle.std.specs.List.{list_any}
use Rattle.std.proofs.lemmas.List.{length-map}
use Rattle.std.proofs.lemmas.Bool.{true≢false, cases_Bool, eq-eqb, ne_eqb, eqb-true, cases_order, cond-true, cond-false, and_parts, and_from}
use Rattle.keys.specs.KeyKind.{Laws}
use Rattle.runs.specs.declared.table.Table.{Table}
use Rattle.sheets.specs.Level.{size_of, in_level}
use Rattle.sheets.specs.Members.{In, here, later, Every, Pairs}
use Rattle.sheets.specs.Sound.{Differ, Occupied, Counted, Proper, Ordered, Sound}
use Rattle.sheets.specs.Tables.{placed}
use Rattle.sheets.proofs.Ascends.{Ahead, by_level, by_run, by_key, ordered_ascends, apart_from, order_from}
use Rattle.sheets.proofs.Each.{some_in, in_some, in_map, map_in}
use Rattle.books.specs.Close.{in_run, rank, recounted}
use Rattle.books.proofs.Outs.{each_map, map_pairs, map_sum}

-- a table of a sheet with its run counted anew
abbrev pub again : {K : Type 0} → List (Table K) → Table K → Table K
again ts t = placed t.level (cond (in_level 0 t) (rank ts t.run) t.run) t

module _ {K : Type 0} (ts : List (Table K)) where
  -- ---- which runs have a table
  pub some_occupied : (r : ℕ) → list_any (in_run r) ts ≡ true → Occupied r ts
  some_occupied r h =
      let w = some_in (in_run r) ts h in
      let p = and_parts (in_level 0 w.0) (eqb w.0.run r) w.2 in
      (w.0, w.1, eqb-true _ _ p.0, eqb-true _ _ p.1)

  pub occupied_some : (r : ℕ) → Occupied r ts → list_any (in_run r) ts ≡ true
  occupied_some r o = in_some (in_run r) ts o.0 o.1 (and_from _ _ (eq-eqb o.0.level 0 o.2) (eq-eqb o.0.run r o.3))

  -- ---- ranks rise
  rank_step : (r : ℕ) → rank ts r ≤ rank ts (suc r)
  rank_step r = elim (list_any (in_run r) ts) as (λ b. rank ts r ≤ cond b (suc (rank ts r)) (rank ts r)) [ true ↦ omega arith | false ↦ omega arith ]

  rank_up : (r s : ℕ) → r ≤ s → rank ts r ≤ rank ts s
  rank_up r zero h = let e : r ≡ 0 = omega arith in rw e (omega arith)
  rank_up r (suc s) h =
      elim (cases_order r (suc s)) [
        | inl e ↦ rw e (omega arith)
        | inr o ↦ elim o [ inl l ↦ omega (arith, rank_up r s (omega arith), rank_step s) | inr l ↦ absurd (omega arith) ]
      ]

  pub rank_next : (r : ℕ) → Occupied r ts → rank ts (suc r) ≡ suc (rank ts r)
  rank_next r o = cond-true (list_any (in_run r) ts) (suc (rank ts r)) (rank ts r) (occupied_some r o)

  pub rank_less : (r s : ℕ) → Occupied r ts → r < s → rank ts r < rank ts s
  rank_less r s o h = omega (arith, rank_next r o, rank_up (suc r) s (omega arith))

  -- each number below a rank is the rank of a run that has a table
  rank_gap : (r k : ℕ) → k < rank ts r → (s : ℕ) × Occupied s ts × (rank ts s ≡ k)
  rank_gap zero k h = absurd (omega arith)
  rank_gap (suc r) k h =
      elim (list_any (in_run r) ts) as (λ b. list_any (in_run r) ts ≡ b → k < cond b (suc (rank ts r)) (rank ts r) → (s : ℕ) × Occupied s ts × (rank ts s ≡ k)) [
        | true ↦ λ e l. elim (cases_order k (rank ts r)) [
          | inl q ↦ (r, some_occupied r e, sym q)
          | inr o ↦ elim o [ inl q ↦ rank_gap r k q | inr q ↦ absurd (omega arith) ]
        ]
        | false ↦ λ e l. rank_gap r k l
      ] refl h

  -- ---- the order
  pick_less : (b c : Bool) (x y z w : ℕ) → b ≡ c → (b ≡ true → x < z) → y < w → cond b x y < cond c z w
  pick_less true true x y z w e f h = f refl
  pick_less true false x y z w e f h = absurd (true≢false e)
  pick_less false true x y z w e f h = absurd (true≢false (sym e))
  pick_less false false x y z w e f h = h

  again_ahead : (cmp : K → K → Ordering) (t u : Table K) → In t ts → Ahead cmp t u → Ahead cmp (again ts t) (again ts u)
  again_ahead cmp t u m (by_level h) = by_level h
  again_ahead cmp t u m (by_run e h) =
      by_run e (pick_less (eqb t.level 0) (eqb u.level 0) _ _ _ _ (ap (λ n. eqb n 0) e) (λ z. rank_less t.run u.run (t, m, eqb-true t.level 0 z, refl) h) h)
  again_ahead cmp t u m (by_key e f h) =
      by_key e (ap (λ n. cond (eqb n 0) (rank ts t.run) t.run) e ∙ ap (λ r. cond (eqb u.level 0) (rank ts r) r) f) h

  pub recount_ascends : (cmp : K → K → Ordering) → Pairs (Ahead cmp) ts → Pairs (Ahead cmp) (recounted ts)
  recount_ascends cmp ps = map_pairs (again ts) (Ahead cmp) (Ahead cmp) (λ t u m n a. again_ahead cmp t u m a) ps

  -- ---- no gaps
  again_upper : (t : Table K) → 0 < t.level → (again ts t).run ≡ t.run
  again_upper t h = cond-false (eqb t.level 0) _ _ (ne_eqb t.level 0 (λ e. omega arith))

  again_zero : (t : Table K) → t.level ≡ 0 → (again ts t).run ≡ rank ts t.run
  again_zero t e = cond-true (eqb t.level 0) _ _ (eq-eqb t.level 0 e)

  recount_counted : Every (Counted (recounted ts)) (recounted ts)
  recount_counted t m e r h =
      let w = in_map (again ts) ts t m in
      let u = w.0 in
      let z : u.level ≡ 0 = sym (ap (λ (x : Table K). x.level) w.2) ∙ e in
      let l : r < rank ts u.run = omega (arith, ap (λ (x : Table K). x.run) w.2, again_zero u z) in
      let g = rank_gap u.run r l in
      let o = g.1 in
      (again ts o.0, map_in (again ts) ts o.0 o.1, o.2, again_zero o.0 o.2 ∙ ap (rank ts) o.3 ∙ g.2)

  -- ---- nothing else
  pub recount_size : size_of (recounted ts) ≡ size_of ts
  recount_size = map_sum (again ts) (λ t. t.size) ts

  pub recount_length : length (recounted ts) ≡ length ts
  recount_length = length-map ts (again ts)

  -- a sheet that is in order is sound once its runs are counted anew
  pub recount_sound : {cmp : K → K → Ordering} (laws : Laws cmp) {room standing blobs : ℕ} → room ≤ 1024 → standing ≤ room → blobs ≤ 2 ^ 53 → Ordered cmp ts → Sound cmp room standing blobs (recounted ts)
  recount_sound {cmp} laws few fits blob s =
      let f = again ts in
      let order = recount_ascends cmp (ordered_ascends laws s) in
      let ranges : Every (Proper cmp) (recounted ts) = each_map f (Proper cmp) ts s.ranges in
      record {
        few = few;
        fits = fits;
        blob = blob;
        ordered = record {
          numbers = map_pairs f Differ Differ (λ x y m n d. d) s.numbers;
          levels = each_map f (λ t. t.level ≤ 6) ts s.levels;
          ranges = ranges;
          sizes = each_map f (λ t. t.size ≤ 2 ^ 53) ts s.sizes;
          links = each_map f (λ t. t.linked ≤ 2 ^ 53) ts s.links;
          total = omega (arith, s.total, recount_size);
          single = each_map f (λ t. 0 < t.level → t.run ≡ 0) ts (λ t m h. again_upper t h ∙ s.single t m h);
          apart = apart_from laws order;
          order = order_from laws ranges order;
        };
        counted = recount_counted;
      }

  -- ---- a sheet that is sound already
  rank_all : (r : ℕ) → ((k : ℕ) → k < r → Occupied k ts) → rank ts r ≡ r
  rank_all zero f = refl
  rank_all (suc r) f = rank_next r (f r (omega arith)) ∙ ap suc (rank_all r (λ k l. f k (omega arith)))

  map_same : (f : Table K → Table K) (xs : List (Table K)) → Every (λ x. f x ≡ x) xs → map f xs ≡ xs
  map_same f [] g = refl
  map_same f (x ∷ xs) g = ap (λ y. y ∷ map f xs) (g x (here refl)) ∙ ap (λ l. x ∷ l) (map_same f xs (λ y m. g y (later m)))

  -- is counted already
  pub recount_same : Every (Counted ts) ts → recounted ts ≡ ts
  recount_same counted = map_same (again ts) ts (λ t m.
      ap (λ r. placed t.level r t) (elim (cases_Bool (eqb t.level 0)) [
        | inl e ↦ again_zero t (eqb-true t.level 0 e) ∙ rank_all t.run (λ k l. counted t m (eqb-true t.level 0 e) k l)
        | inr e ↦ cond-false (eqb t.level 0) (rank ts t.run) t.run e
      ]))
