-- Room for what a landing or a close leaves, told before anything is moved; and runs, of which there are no more than tables.
use Rattle.std.proofs.Common.{◌≡◌, ℕ, suc, ◌+◌, ◌^◌, ◌≤◌, max, true, ◌&&◌, eqb, leb, List, [], ◌∷◌, map, length, sum_by, filter, Ordering, sym, refl, ap, ◌∙◌, inl, inr, arith}
use Rattle.std.specs.List.{list_all}
use Rattle.std.proofs.lemmas.List.Filters.{sum_by-filter_both, length-filter_both}
use Rattle.std.proofs.lemmas.List.{length-map}
use Rattle.std.proofs.lemmas.Bool.{cases_Bool, eqb-true, le-leb, and_parts, and_from, cond-true, cond-false}
use Rattle.keys.specs.KeyKind.{Laws}
use Rattle.runs.specs.declared.fresh.Fresh.{Fresh}
use Rattle.runs.specs.declared.table.Table.{Table}
use Rattle.sheets.specs.Level.{numbers_of, size_of, runs}
use Rattle.sheets.specs.Sound.{Sound, distinct, counts_on, within_limits, in_order, tables_ok}
use Rattle.runs.specs.Fresh.{settled}
use Rattle.sheets.specs.Tables.{named, unnamed, without, placed, inserts}
use Rattle.sheets.proofs.Inserts.{length_insert, length_inserts}
use Rattle.sheets.proofs.Soundness.{test_from_sound}
use Rattle.strategies.specs.declared.choice.Kind.{Kind}
use Rattle.strategies.specs.declared.choice.Kind.TheVariants.{Move, Merge, Drop}
use Rattle.books.specs.Close.{recounted, arrivals, closed}
use Rattle.books.specs.Job.{Running}
use Rattle.books.specs.Land.{has_room, landing_run, landed}
use Rattle.books.proofs.Insertions.{insert_sum, inserts_sum}
use Rattle.books.proofs.Outs.{map_sum}
use Rattle.books.proofs.Recounts.{recount_size, recount_length}

-- ---- runs
-- runs that go on from n without a gap are no more than n and the tables
gapless : {K : Type 0} (ts : List (Table K)) (n : ℕ) → counts_on n ts ≡ true → runs ts ≤ n + length ts
gapless [] n h = omega arith
gapless (t ∷ ts) n h =
    elim (cases_Bool (eqb t.level 0)) [
      | inl z ↦
          let h' = sym (cond-true (eqb t.level 0) _ _ z) ∙ h in
          let top : runs (t ∷ ts) ≡ max (suc t.run) (runs ts) = cond-true (eqb t.level 0) _ _ z in
          elim (cases_Bool (eqb t.run n)) [
            | inl e ↦ omega (arith, top, eqb-true t.run n e, gapless ts (suc n) (sym (cond-true (eqb t.run n) _ _ e) ∙ h'))
            | inr e ↦
                let p = and_parts (eqb (suc t.run) n) (counts_on n ts) (sym (cond-false (eqb t.run n) _ _ e) ∙ h') in
                omega (arith, top, eqb-true (suc t.run) n p.0, gapless ts n p.1)
          ]
      | inr z ↦
          let p = and_parts (eqb t.run 0) (counts_on n ts) (sym (cond-false (eqb t.level 0) _ _ z) ∙ h) in
          omega (arith, cond-false (eqb t.level 0) (max (suc t.run) (runs ts)) (runs ts) z, gapless ts n p.1)
    ]

module _ {K : Type 0} {cmp : K → K → Ordering} (laws : Laws cmp) {room standing blobs : ℕ} {ts : List (Table K)} (s : Sound cmp room standing blobs ts) where
  -- level 0 has no more runs than the sheet has tables
  pub runs_few : runs ts ≤ length ts
  runs_few =
      let a = and_parts (leb room 1024) _ (test_from_sound laws room standing blobs ts s) in
      let b = and_parts (leb standing room) _ a.1 in
      let c = and_parts (leb blobs (2 ^ 53)) (tables_ok cmp ts) b.1 in
      let d = and_parts (list_all (within_limits cmp) ts) _ c.1 in
      let e = and_parts (leb (size_of ts) (2 ^ 53)) _ d.1 in
      let f = and_parts (in_order cmp ts) _ e.1 in
      let g = and_parts (counts_on 0 ts) (distinct (numbers_of ts)) f.1 in
      let few = gapless ts 0 g.0 in
      omega arith

-- ---- a landing
module _ {K : Type 0} (cmp : K → K → Ordering) (f : Fresh K) (ts : List (Table K)) where
  pub landed_length : length (landed cmp f ts) ≡ length ts + 1
  landed_length = length_insert cmp (settled 0 (landing_run cmp f ts) f) ts

  pub landed_size : size_of (landed cmp f ts) ≡ size_of ts + f.size
  landed_size = omega (arith, insert_sum cmp (λ t. t.size) (settled 0 (landing_run cmp f ts) f) ts)

  -- there is room where one more table fits
  pub landed_room : (room : ℕ) → has_room room (landed cmp f ts) ≡ (leb (length ts + 1) room && leb (size_of ts + f.size) (2 ^ 53))
  landed_room room = ap (λ n. leb n room && leb (size_of (landed cmp f ts)) (2 ^ 53)) landed_length ∙ ap (λ n. leb (length ts + 1) room && leb n (2 ^ 53)) landed_size

-- ---- a close
module _ {K : Type 0} (cmp : K → K → Ordering) (ts new : List (Table K)) (ns : List ℕ) where
  swap_length : length (recounted (inserts cmp (without ns ts) new)) ≡ length (without ns ts) + length new
  swap_length = recount_length (inserts cmp (without ns ts) new) ∙ length_inserts cmp new (without ns ts)

  swap_size : size_of (recounted (inserts cmp (without ns ts) new)) ≡ size_of (without ns ts) + size_of new
  swap_size = omega (arith, recount_size (inserts cmp (without ns ts) new), inserts_sum cmp (λ t. t.size) (without ns ts) new)

  -- there is room where the tables that stay and those that come fit
  swap_room : (room : ℕ) → has_room room (recounted (inserts cmp (without ns ts) new)) ≡ (leb (length (without ns ts) + length new) room && leb (size_of (without ns ts) + size_of new) (2 ^ 53))
  swap_room room =
      ap (λ n. leb n room && leb (size_of (recounted (inserts cmp (without ns ts) new))) (2 ^ 53)) swap_length
      ∙ ap (λ n. leb (length (without ns ts) + length new) room && leb n (2 ^ 53)) swap_size

module _ {K : Type 0} (ns : List ℕ) (ts : List (Table K)) where
  -- what stays and what leaves
  pub both_length : length (filter (named ns) ts) + length (without ns ts) ≡ length ts
  both_length = length-filter_both (named ns) (unnamed ns) (λ t. refl) ts

  pub both_size : size_of (filter (named ns) ts) + size_of (without ns ts) ≡ size_of ts
  both_size = sum_by-filter_both (named ns) (unnamed ns) (λ t. refl) (λ t. t.size) ts

module _ {K : Type 0} (cmp : K → K → Ordering) (ts : List (Table K)) (outs : List (Fresh K)) where
  -- for a merge: where its outputs fit in place of its tables
  pub merge_room : (j : Running) → j.kind ≡ Merge → (room : ℕ)
      → has_room room (closed cmp j outs ts) ≡ (leb (length (without j.numbers ts) + length outs) room && leb (size_of (without j.numbers ts) + sum_by (λ f. f.size) outs) (2 ^ 53))
  merge_room j e room =
      let stay = without j.numbers ts in
      let new = map (settled j.destination 0) outs in
      ap (λ k. has_room room (recounted (inserts cmp stay (arrivals k j.destination j.numbers outs ts)))) e
      ∙ swap_room cmp ts new j.numbers room
      ∙ ap (λ n. leb (length stay + n) room && leb (size_of stay + size_of new) (2 ^ 53)) (length-map outs (settled j.destination 0))
      ∙ ap (λ n. leb (length stay + length outs) room && leb (size_of stay + n) (2 ^ 53)) (map_sum (settled j.destination 0) (λ t. t.size) outs)

  -- no more tables and no more bytes than stood
  fits_still : (room : ℕ) (new : List (Table K)) (ns : List ℕ) → length ts ≤ room → size_of ts ≤ 2 ^ 53 → length new ≤ length (filter (named ns) ts) → size_of new ≤ size_of (filter (named ns) ts)
      → has_room room (recounted (inserts cmp (without ns ts) new)) ≡ true
  fits_still room new ns fits total few light =
      swap_room cmp ts new ns room
      ∙ and_from _ _ (le-leb (length (without ns ts) + length new) room (omega (arith, both_length ns ts))) (le-leb (size_of (without ns ts) + size_of new) (2 ^ 53) (omega (arith, both_size ns ts)))

  kept_room : (k : Kind) → (k ≡ Merge → ⊥) → (room d : ℕ) (ns : List ℕ) → length ts ≤ room → size_of ts ≤ 2 ^ 53 → has_room room (recounted (inserts cmp (without ns ts) (arrivals k d ns outs ts))) ≡ true
  kept_room Move f room d ns fits total =
      let moved = filter (named ns) ts in
      fits_still room (map (placed d 0) moved) ns fits total (omega (arith, length-map moved (placed d 0))) (omega (arith, map_sum (placed d 0) (λ t. t.size) moved))
  kept_room Merge f room d ns fits total = absurd (f refl)
  kept_room Drop f room d ns fits total = fits_still room [] ns fits total (omega arith) (omega arith)

  -- a closed move or drop always has room
  pub closed_room : (j : Running) → (j.kind ≡ Merge → ⊥) → (room : ℕ) → length ts ≤ room → size_of ts ≤ 2 ^ 53 → has_room room (closed cmp j outs ts) ≡ true
  closed_room j f room fits total = kept_room j.kind f room j.destination j.numbers fits total
