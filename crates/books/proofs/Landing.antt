-- A landing keeps book and sheet sound.
use Rattle.std.proofs.Common.{◌≡◌, ℕ, suc, ◌-◌, ◌^◌, ◌<◌, ◌≤◌, max, Bool, true, false, cond, eqb, ◌⊎◌, List, [], ◌∷◌, length, Ordering, sym, refl, ap, ◌∙◌, subst, inl, inr, arith}
use Rattle.std.specs.List.{list_any}
use Rattle.std.proofs.lemmas.Bool.{true≢false, cases_lt, cases_order, eq-eqb, eqb-true, and_cases}
use Rattle.keys.specs.KeyKind.{Laws}
use Rattle.keys.specs.KeyRange.{meets}
use Rattle.runs.specs.declared.fresh.Fresh.{Fresh}
use Rattle.runs.specs.declared.table.Table.{Table}
use Rattle.sheets.specs.Level.{size_of, in_level, runs}
use Rattle.sheets.specs.Members.{In, here, later, Every, Pairs}
use Rattle.sheets.specs.Sound.{Differ, Occupied, Counted, Proper, Sound}
use Rattle.runs.specs.Fresh.{settled}
use Rattle.sheets.specs.Tables.{named}
use Rattle.sheets.proofs.Ascends.{Ahead, by_level, by_run, ordered_ascends, apart_from, order_from}
use Rattle.sheets.proofs.Each.{none_some, memb_in}
use Rattle.sheets.proofs.Levels.{runs_above}
use Rattle.books.specs.Booked.{Booked}
use Rattle.books.specs.Job.{Running}
use Rattle.books.specs.Land.{bars, landing_run, landed}
use Rattle.books.proofs.Books.{clear_from, like_self, other_tables}
use Rattle.books.proofs.Closing.{differ_turn}
use Rattle.books.proofs.Insertions.{Beside, keyed, insert_out, insert_ascends}
use Rattle.books.proofs.Outputs.{Good}
use Rattle.books.proofs.Outs.{out_rest, out_cases, out_each, pairs_out}
use Rattle.books.proofs.SpanBounds.{unmet_from}

-- ---- how many runs level 0 has
module _ {K : Type 0} where
  -- the last run has a table
  pub runs_top : (ts : List (Table K)) → (runs ts ≡ 0) ⊎ ((t : Table K) × In t ts × (t.level ≡ 0) × (suc t.run ≡ runs ts))
  runs_top [] = inl refl
  runs_top (u ∷ us) =
      let Top : ℕ → Type 0 = λ n. (n ≡ 0) ⊎ ((t : Table K) × In t (u ∷ us) × (t.level ≡ 0) × (suc t.run ≡ n)) in
      let rest : Top (runs us) = elim (runs_top us) [ inl e ↦ inl e | inr w ↦ inr (w.0, later w.1, w.2, w.3) ] in
      elim (in_level 0 u) as (λ b. in_level 0 u ≡ b → Top (cond b (max (suc u.run) (runs us)) (runs us))) [
        | true ↦ λ z. elim (cases_lt u.run (runs us)) [
          | inl l ↦ let q : max (suc u.run) (runs us) ≡ runs us = omega arith in subst Top (sym q) rest
          | inr l ↦ let q : max (suc u.run) (runs us) ≡ suc u.run = omega arith in subst Top (sym q) (inr (u, here refl, eqb-true u.level 0 z, refl))
        ]
        | false ↦ λ z. rest
      ] refl

module _ {K : Type 0} {cmp : K → K → Ordering} (laws : Laws cmp) {room standing blobs : ℕ} {ts : List (Table K)} (s : Sound cmp room standing blobs ts) (f : Fresh K) (good : Good cmp ts f) where
  abbrev arrived : Table K
  arrived = settled 0 (landing_run cmp f ts) f

  run_le : landing_run cmp f ts ≤ runs ts
  run_le = elim (list_any (bars cmp f (runs ts)) ts) as (λ b. cond b (runs ts) (runs ts - 1) ≤ runs ts) [ true ↦ omega arith | false ↦ omega arith ]

  -- a table of level 0 is of a run below, or does not meet what lands
  beside_zero : (t : Table K) → In t ts → t.level ≡ 0 → (b : Bool) → list_any (bars cmp f (runs ts)) ts ≡ b → Beside cmp (settled 0 (cond b (runs ts) (runs ts - 1)) f) t
  beside_zero t m e true h = inr (by_run e (runs_above ts t m e))
  beside_zero t m e false h =
      let l = runs_above ts t m e in
      let barred = none_some (bars cmp f (runs ts)) ts h t m in
      elim (cases_order (suc t.run) (runs ts)) [
        | inl q ↦ elim (and_cases (in_level 0 t) _ barred) [
          | inl k ↦ absurd (true≢false (sym (eq-eqb t.level 0 e) ∙ k))
          | inr k ↦ elim (and_cases (eqb (suc t.run) (runs ts)) (meets cmp t.range f.range) k) [
            | inl k ↦ absurd (true≢false (sym (eq-eqb (suc t.run) (runs ts) q) ∙ k))
            | inr k ↦ keyed cmp (settled 0 (runs ts - 1) f) t (sym e) (omega arith) (elim (unmet_from cmp t.range f.range k) [ inl z ↦ inr z | inr z ↦ inl z ])
          ]
        ]
        | inr o ↦ elim o [ inl q ↦ inr (by_run e (omega arith)) | inr q ↦ absurd (omega arith) ]
      ]

  beside : Every (Beside cmp arrived) ts
  beside t m =
      elim (cases_order t.level 0) [
        | inl e ↦ beside_zero t m e (list_any (bars cmp f (runs ts)) ts) refl
        | inr o ↦ elim o [ inl q ↦ absurd (omega arith) | inr q ↦ inl (by_level q) ]
      ]

  each : (P : Table K → Type 0) → P arrived → Every P ts → Every P (landed cmp f ts)
  each P p g = out_each P (insert_out cmp arrived ts) p g

  -- every run below the count has a table
  filled : (r : ℕ) → r < runs ts → Occupied r ts
  filled r h =
      elim (runs_top ts) [
        | inl e ↦ absurd (omega arith)
        | inr w ↦ elim (cases_order r w.0.run) [
          | inl e ↦ (w.0, w.1, w.2, sym e)
          | inr o ↦ elim o [ inl q ↦ s.counted w.0 w.1 w.2 r q | inr q ↦ absurd (omega (arith, w.3)) ]
        ]
      ]

  kept : (r : ℕ) → Occupied r ts → Occupied r (landed cmp f ts)
  kept r w = (w.0, out_rest (insert_out cmp arrived ts) w.1, w.2, w.3)

  -- the sheet ascends with the new table
  pub landed_ascends : Pairs (Ahead cmp) (landed cmp f ts)
  landed_ascends = insert_ascends laws arrived good.proper s.ordered.ranges beside (ordered_ascends laws s.ordered)

  pub landed_sound : length (landed cmp f ts) ≤ room → size_of (landed cmp f ts) ≤ 2 ^ 53 → Sound cmp room (length (landed cmp f ts)) blobs (landed cmp f ts)
  landed_sound fits total =
      let o = s.ordered in
      let ranges = each (Proper cmp) good.proper o.ranges in
      record {
        few = s.few;
        fits = fits;
        blob = s.blob;
        ordered = record {
          numbers = pairs_out Differ differ_turn (insert_out cmp arrived ts) o.numbers (λ t m e. good.new (t, m, sym e));
          levels = each (λ t. t.level ≤ 6) (omega arith) o.levels;
          ranges = ranges;
          sizes = each (λ t. t.size ≤ 2 ^ 53) good.size o.sizes;
          links = each (λ t. t.linked ≤ 2 ^ 53) good.linked o.links;
          total = total;
          single = each (λ t. 0 < t.level → t.run ≡ 0) (λ h. absurd (omega arith)) o.single;
          apart = apart_from laws landed_ascends;
          order = order_from laws ranges landed_ascends;
        };
        counted = each (Counted (landed cmp f ts)) (λ e r h. kept r (filled r (omega (arith, run_le)))) (λ t m e r h. kept r (s.counted t m e r h));
      }

  -- no job holds what lands, and no job goes to level 0
  pub landed_booked : {hidden : List ℕ} {jobs : List Running} → Booked cmp ts hidden jobs → Booked cmp (landed cmp f ts) hidden jobs
  landed_booked {hidden} b =
      other_tables laws b
      (λ n m w. (w.0, out_rest (insert_out cmp arrived ts) w.1, w.2))
      (λ j m u n e. elim (out_cases (insert_out cmp arrived ts) n) [
        | inl q ↦ absurd (good.new (b.stands f.number (memb_in f.number hidden (b.hides j m f.number (memb_in f.number j.numbers (ap (named j.numbers) (sym q) ∙ e))))))
        | inr i ↦ (u, i, like_self u)
      ])
      (λ j m g u n e x. elim (out_cases (insert_out cmp arrived ts) n) [
        | inl q ↦ absurd (omega (arith, (b.destined j m g).0, ap (λ (x : Table K). x.level) q))
        | inr i ↦ clear_from laws ts b j m g u i e x
      ])
