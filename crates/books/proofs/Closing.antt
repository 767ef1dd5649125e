-- Tables of a job swapped for what it brings in: sheet and book stay in order, and sound once the runs are counted anew.
use Rattle.std.proofs.Common.{◌≡◌, ℕ, ◌^◌, ◌<◌, ◌≤◌, true, false, ◌⊎◌, List, Ordering, sym, ap, ◌∙◌, subst, inl, inr, arith}
use Rattle.std.proofs.lemmas.Bool.{both_ways, not-true, not_from_false, cases_order}
use Rattle.keys.specs.KeyKind.{Laws}
use Rattle.keys.specs.KeyRange.{meets}
use Rattle.runs.specs.declared.table.Table.{Table}
use Rattle.sheets.specs.HiddenSet.{showing}
use Rattle.sheets.specs.Level.{size_of}
use Rattle.sheets.specs.Members.{In, Every, Pairs}
use Rattle.sheets.specs.Sound.{Differ, Proper, Ordered}
use Rattle.sheets.specs.Tables.{memb, named, unnamed, without, inserts}
use Rattle.sheets.proofs.Ascends.{Ahead, by_level, ordered_ascends, apart_from, order_from, unmet_cases}
use Rattle.sheets.proofs.Each.{in_kept, kept_in, kept_pairs, pairs_weaker, in_map, map_in, memb_in}
use Rattle.strategies.specs.Strategy.{Goes, Stands}
use Rattle.books.specs.Booked.{Disjoint, Lanes, Booked}
use Rattle.books.specs.Close.{recounted}
use Rattle.books.specs.Job.{Running, held}
use Rattle.books.proofs.Books.{shown_parts, disjoint_turn, lanes_from, lanes_turn, clear_from, take_out, Like, like_self, other_tables}
use Rattle.books.proofs.Insertions.{Beside, keyed, in_inserts, inserts_old, inserts_pairs, inserts_ascend}
use Rattle.books.proofs.Outs.{Out, out_in, out_rest, out_pairs}
use Rattle.books.proofs.Recounts.{again}
use Rattle.books.proofs.SpanBounds.{Misses, Inside, inside_misses, inside_apart}

pub differ_turn : {K : Type 0} (t u : Table K) → Differ t u → Differ u t
differ_turn t u d e = d (sym e)

-- ---- the recount
module _ {K : Type 0} {cmp : K → K → Ordering} (laws : Laws cmp) where
  like_again : (ts : List (Table K)) (t u : Table K) → u ≡ again ts t → Like t u
  like_again ts t u e = record { number = sym (ap (λ x. x.number) e); level = sym (ap (λ x. x.level) e); range = sym (ap (λ x. x.range) e) }

  pub recount_booked : (ts : List (Table K)) {hidden : List ℕ} {jobs : List Running} → Booked cmp ts hidden jobs → Booked cmp (recounted ts) hidden jobs
  recount_booked ts b =
      let f = again ts in
      other_tables laws b
      (λ n m w. (f w.0, map_in f ts w.0 w.1, w.2))
      (λ j m u k e. let w = in_map f ts u k in (w.0, w.1, like_again ts w.0 u w.2))
      (λ j m g u k e x.
      let w = in_map f ts u k in
      let l = like_again ts w.0 u w.2 in
      subst (Misses cmp (λ t. In t (held j ts))) l.range (clear_from laws ts b j m g w.0 w.1 (l.level ∙ e) (ap (λ n. memb n j.numbers) l.number ∙ x)))

-- ---- what a closed job brings in: for its destination, in its span, with numbers of its own or new ones
pub record Arrive {K : Type 0} (cmp : K → K → Ordering) (ts : List (Table K)) (j : Running) (new : List (Table K)) : Type 0 where
  pub goes : Every (λ a. Goes j.kind) new
  pub level : Every (λ a. (a.level ≡ j.destination) × (a.run ≡ 0)) new
  pub ranges : Every (Proper cmp) new
  pub inside : Every (λ a. Inside cmp (λ t. In t (held j ts)) a.range) new
  pub apart : Pairs (λ a b. meets cmp a.range b.range ≡ false) new
  pub numbers : Pairs Differ new
  pub own : Every (λ a. (named j.numbers a ≡ true) ⊎ (Stands ts a.number → ⊥)) new
  pub sizes : Every (λ t. t.size ≤ 2 ^ 53) new
  pub links : Every (λ t. t.linked ≤ 2 ^ 53) new

module _ {K : Type 0} {cmp : K → K → Ordering} (laws : Laws cmp) {ts new : List (Table K)} {hidden : List ℕ} {jobs rest : List Running} {j : Running}
    (s : Ordered cmp ts) (b : Booked cmp ts hidden jobs) (o : Out j jobs rest) (a : Arrive cmp ts j new) where
  abbrev left : List (Table K)
  left = without j.numbers ts

  left_parts : (t : Table K) → In t left → In t ts × (named j.numbers t ≡ false)
  left_parts t m = let w = in_kept (unnamed j.numbers) ts t m in (w.0, not-true _ w.1)

  -- one that comes and one that stays
  cross : (x t : Table K) → In x new → In t left → Beside cmp x t
  cross x t m n =
      let w = left_parts t n in
      let l = a.level x m in
      let g = b.destined j (out_in o) (a.goes x m) in
      elim (cases_order x.level t.level) [
        | inl e ↦ keyed cmp x t e (l.1 ∙ sym (s.single t w.0 (omega (arith, l.0, g.0))))
            (inside_misses laws (λ u. In u (held j ts)) x.range t.range (a.inside x m) (clear_from laws ts b j (out_in o) (a.goes x m) t w.0 (sym e ∙ l.0) w.1))
        | inr q ↦ elim q [ inl h ↦ inl (by_level h) | inr h ↦ inr (by_level h) ]
      ]

  cross_numbers : (x t : Table K) → In x new → In t left → Differ x t
  cross_numbers x t m n e =
      let w = left_parts t n in
      elim (a.own x m) [ inl h ↦ both_ways _ w.1 (ap (λ k. memb k j.numbers) (sym e) ∙ h) | inr h ↦ h (t, w.0, sym e) ]

  each : (P : Table K → Type 0) → Every P new → Every P ts → Every P (inserts cmp left new)
  each P f g t m = elim (in_inserts cmp t left new m) [ inl n ↦ f t n | inr n ↦ g t (left_parts t n).0 ]

  -- the sheet ascends after the swap
  pub swapped_ascends : Pairs (Ahead cmp) (inserts cmp left new)
  swapped_ascends =
      inserts_ascend laws left
      (pairs_weaker (λ x y. meets cmp x.range y.range ≡ false) (Beside cmp) (λ x y m n h. keyed cmp x y ((a.level x m).0 ∙ sym (a.level y n).0) ((a.level x m).1 ∙ sym (a.level y n).1) (unmet_cases laws x y h)) a.apart)
      a.ranges (λ t m. s.ranges t (left_parts t m).0) cross (kept_pairs (Ahead cmp) (unnamed j.numbers) (ordered_ascends laws s))

  pub swapped : size_of (inserts cmp left new) ≤ 2 ^ 53 → Ordered cmp (inserts cmp left new)
  swapped total =
      let ranges = each (Proper cmp) a.ranges s.ranges in
      record {
        numbers = inserts_pairs cmp Differ differ_turn left a.numbers (kept_pairs Differ (unnamed j.numbers) s.numbers) cross_numbers;
        levels = each (λ t. t.level ≤ 6) (λ x m. omega (arith, (a.level x m).0, (b.destined j (out_in o) (a.goes x m)).1)) s.levels;
        ranges = ranges;
        sizes = each (λ t. t.size ≤ 2 ^ 53) a.sizes s.sizes;
        links = each (λ t. t.linked ≤ 2 ^ 53) a.links s.links;
        total = total;
        single = each (λ t. 0 < t.level → t.run ≡ 0) (λ x m h. (a.level x m).1) s.single;
        apart = apart_from laws swapped_ascends;
        order = order_from laws ranges swapped_ascends;
      }

  -- the other jobs go on
  pub swapped_booked : Booked cmp (inserts cmp left new) (showing j.numbers hidden) rest
  swapped_booked =
      let d = out_pairs Disjoint disjoint_turn o b.disjoint in
      let l = out_pairs (Lanes cmp ts) (lanes_turn laws ts) o b.lanes in
      other_tables laws (take_out laws ts b o)
      (λ n m w.
      let p = shown_parts j.numbers hidden m in
      (w.0, inserts_old cmp w.0 left new (kept_in (unnamed j.numbers) ts w.0 w.1 (not_from_false _ (ap (λ k. memb k j.numbers) w.2 ∙ p.1))), w.2))
      (λ k m u n e. elim (in_inserts cmp u left new n) [
        | inl i ↦ absurd (elim (a.own u i) [
          | inl h ↦ d.1 k m u.number h e
          | inr h ↦ h (b.stands u.number (memb_in u.number hidden (b.hides k (out_rest o m) u.number (memb_in u.number k.numbers e))))
        ])
        | inr i ↦ (u, (left_parts u i).0, like_self u)
      ])
      (λ k m g u n e x. elim (in_inserts cmp u left new n) [
        | inl i ↦ inside_apart laws (λ t. In t (held j ts)) (λ t. In t (held k ts)) u.range (a.inside u i) (lanes_from laws ts j k (l.1 k m) (a.goes u i) g (sym (a.level u i).0 ∙ e))
        | inr i ↦ clear_from laws ts b k (out_rest o m) g u (left_parts u i).0 e x
      ])
