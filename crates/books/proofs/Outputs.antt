-- What a closed move, merge or drop brings in may come in, where no output is at fault.
use Rattle.std.proofs.Common.{◌≡◌, ℕ, suc, ◌^◌, ◌≤◌, Bool, true, false, cond, not, leb, ◌⊎◌, List, [], ◌∷◌, map, Some, None, Option, Ordering, sym, refl, ap, ◌∙◌, subst, inl, inr, arith}
use Rattle.std.specs.Option.{option_map}
use Rattle.std.specs.Ordering.{is_lt}
use Rattle.std.proofs.lemmas.Bool.{cases_Bool, both_ways, leb-true, and_parts, and_left, or_parts, not-true, not-false, not_from_true}
use Rattle.keys.specs.declared.key_range.KeyRange.{KeyRange}
use Rattle.keys.specs.KeyKind.{Laws}
use Rattle.keys.specs.KeyRange.{meets}
use Rattle.keys.proofs.Orders.{lt_chain, lt_not, lt_le}
use Rattle.runs.specs.declared.fresh.Fresh.{Fresh}
use Rattle.runs.specs.declared.table.Table.{Table}
use Rattle.sheets.specs.Level.{numbers_of}
use Rattle.sheets.specs.Members.{In, here, later, Every, Pairs, none, more}
use Rattle.sheets.specs.Sound.{Differ, Proper, Ordered}
use Rattle.runs.specs.Fresh.{settled}
use Rattle.sheets.specs.Tables.{memb, named, placed}
use Rattle.sheets.proofs.Each.{none_in, in_cases, kept_pairs, map_in, in_memb}
use Rattle.strategies.specs.declared.choice.Kind.{Kind}
use Rattle.strategies.specs.declared.choice.Kind.TheVariants.{Move, Merge, Drop}
use Rattle.strategies.specs.Strategy.{Goes, Stands}
use Rattle.books.specs.Booked.{span_held, Booked}
use Rattle.books.specs.Close.{first_fault, arrivals, bad_table, in_span, follows, bad_output, bad_outputs}
use Rattle.books.specs.Job.{Running, held}
use Rattle.books.specs.Land.{fresh_ok}
use Rattle.books.proofs.Books.{held_parts}
use Rattle.books.proofs.BookTests.{stands_to, going_from}
use Rattle.books.proofs.Closing.{Arrive}
use Rattle.books.proofs.Outs.{each_map, map_pairs}
use Rattle.books.proofs.SpanBounds.{Inside, inside_from}

-- ---- none is at fault
module _ {X : Type 0} (fault : List X → X → Bool) where
  abbrev Faultless : List X → List X → Type 0
  Faultless seen [] = Unit {0}
  Faultless seen (x ∷ xs) = (fault seen x ≡ false) × Faultless (x ∷ seen) xs

  unplaced : (o : Option ℕ) → option_map suc o ≡ None → o ≡ None
  unplaced None e = refl
  unplaced (Some n) e = absurd (let z : ◌≡◌ {A = ℕ} 0 1 = cc in omega arith)

  faultless : (seen xs : List X) → first_fault fault seen xs ≡ None → Faultless seen xs
  faultless seen [] h = tt
  faultless seen (x ∷ xs) h =
      elim (fault seen x) as (λ b. fault seen x ≡ b → cond b (Some 0) (option_map suc (first_fault fault (x ∷ seen) xs)) ≡ None → Faultless seen (x ∷ xs)) [
        | true ↦ λ e k. absurd (let z : ◌≡◌ {A = ℕ} 0 1 = cc in omega arith)
        | false ↦ λ e k. (e, faultless (x ∷ seen) xs (unplaced (first_fault fault (x ∷ seen) xs) k))
      ] refl h

-- ---- fresh tables that may stand
pub record Good {K : Type 0} (cmp : K → K → Ordering) (ts : List (Table K)) (f : Fresh K) : Type 0 where
  pub proper : is_lt (cmp f.range.max f.range.min) ≡ false
  pub size : f.size ≤ 2 ^ 53
  pub linked : f.linked ≤ 2 ^ 53
  pub new : Stands ts f.number → ⊥

module _ {K : Type 0} (cmp : K → K → Ordering) (ts : List (Table K)) where
  pub good_fresh : (f : Fresh K) → fresh_ok cmp ts f ≡ true → Good cmp ts f
  good_fresh f h =
      let a = and_parts (not (is_lt (cmp f.range.max f.range.min))) _ h in
      let b = and_parts (leb f.size (2 ^ 53)) _ a.1 in
      let c = and_parts (leb f.linked (2 ^ 53)) (not (memb f.number (numbers_of ts))) b.1 in
      record { proper = not-true _ a.0; size = leb-true _ _ b.0; linked = leb-true _ _ c.0; new = λ w. both_ways _ (not-true _ c.1) (stands_to ts f.number w) }

  bad_parts : (seen : List (Fresh K)) (f : Fresh K) → bad_table cmp ts seen f ≡ false → (fresh_ok cmp ts f ≡ true) × (memb f.number (map (λ g. g.number) seen) ≡ false)
  bad_parts seen f h = let p = or_parts (not (fresh_ok cmp ts f)) (memb f.number (map (λ g. g.number) seen)) h in (not-false _ p.0, p.1)

  all_good : (seen fs : List (Fresh K)) → Faultless (bad_table cmp ts) seen fs → Every (Good cmp ts) fs
  all_good seen [] h f m = absurd (none_in m)
  all_good seen (g ∷ gs) h f m =
      elim (in_cases m) [ inl e ↦ subst (Good cmp ts) (sym e) (good_fresh g (bad_parts seen g h.0).0) | inr n ↦ all_good (g ∷ seen) gs h.1 f n ]

  unseen : (seen fs : List (Fresh K)) → Faultless (bad_table cmp ts) seen fs → (g f : Fresh K) → In g seen → In f fs → g.number ≡ f.number → ⊥
  unseen seen [] h g f i m e = absurd (none_in m)
  unseen seen (x ∷ xs) h g f i m e =
      elim (in_cases m) [
        | inl q ↦ both_ways _ (bad_parts seen x h.0).1 (ap (λ n. memb n (map (λ y. y.number) seen)) (sym (ap (λ (y : Fresh K). y.number) q) ∙ sym e) ∙ in_memb g.number (map (λ y. y.number) seen) (map_in (λ y. y.number) seen g i))
        | inr n ↦ unseen (x ∷ seen) xs h.1 g f (later i) n e
      ]

  fresh_differ : (seen fs : List (Fresh K)) → Faultless (bad_table cmp ts) seen fs → Pairs (λ f g. f.number ≡ g.number → ⊥) fs
  fresh_differ seen [] h = none
  fresh_differ seen (f ∷ fs) h = more (λ g m. unseen (f ∷ seen) fs h.1 f g (here refl) m) (fresh_differ (f ∷ seen) fs h.1)

-- ---- outputs of a merge
module _ {K : Type 0} {cmp : K → K → Ordering} (laws : Laws cmp) (span : Option (KeyRange K)) where
  output_parts : (seen : List (Fresh K)) (f : Fresh K) → bad_output cmp span seen f ≡ false → (in_span cmp span f ≡ true) × (follows cmp seen f ≡ true)
  output_parts seen f h = let p = or_parts (not (in_span cmp span f)) (not (follows cmp seen f)) h in (not-false _ p.0, not-false _ p.1)

  all_inside : (seen fs : List (Fresh K)) → Faultless (bad_output cmp span) seen fs → Every (λ f. in_span cmp span f ≡ true) fs
  all_inside seen [] h f m = absurd (none_in m)
  all_inside seen (g ∷ gs) h f m = elim (in_cases m) [ inl e ↦ ap (in_span cmp span) e ∙ (output_parts seen g h.0).0 | inr n ↦ all_inside (g ∷ seen) gs h.1 f n ]

  -- all begin after the one before them ends
  line_from : (g : Fresh K) (seen fs : List (Fresh K)) → Every (λ f. is_lt (cmp f.range.max f.range.min) ≡ false) fs → Faultless (bad_output cmp span) (g ∷ seen) fs → Every (λ f. is_lt (cmp g.range.max f.range.min) ≡ true) fs
  line_from g seen [] p h f m = absurd (none_in m)
  line_from g seen (x ∷ xs) p h f m =
      let first = (output_parts (g ∷ seen) x h.0).1 in
      elim (in_cases m) [
        | inl e ↦ subst (λ (y : Fresh K). is_lt (cmp g.range.max y.range.min) ≡ true) (sym e) first
        | inr n ↦ lt_chain laws g.range.max x.range.max f.range.min (lt_le laws g.range.max x.range.min x.range.max first (p x (here refl))) (line_from x (g ∷ seen) xs (λ y k. p y (later k)) h.1 f n)
      ]

  line_pairs : (seen fs : List (Fresh K)) → Every (λ f. is_lt (cmp f.range.max f.range.min) ≡ false) fs → Faultless (bad_output cmp span) seen fs → Pairs (λ f g. is_lt (cmp f.range.max g.range.min) ≡ true) fs
  line_pairs seen [] p h = none
  line_pairs seen (f ∷ fs) p h = more (line_from f seen fs (λ x n. p x (later n)) h.1) (line_pairs (f ∷ seen) fs (λ x n. p x (later n)) h.1)

  lt_self : (a : K) → is_lt (cmp a a) ≡ false
  lt_self a = elim (cases_Bool (is_lt (cmp a a))) [ inl e ↦ lt_not laws a a e | inr e ↦ e ]

-- ---- what comes in
module _ {K : Type 0} {cmp : K → K → Ordering} (laws : Laws cmp) {ts : List (Table K)} {hidden : List ℕ} {jobs : List Running} {j : Running} (s : Ordered cmp ts) (b : Booked cmp ts hidden jobs) (m : In j jobs) where
  other_kind : (k : Kind) → j.kind ≡ k → Goes k → Goes j.kind
  other_kind k e f q = f (sym e ∙ q)

  move_arrives : j.kind ≡ Move → Arrive cmp ts j (map (placed j.destination 0) (held j ts))
  move_arrives e =
      let f = placed j.destination 0 in
      let xs = held j ts in
      let self = lt_self laws (span_held cmp ts j) in
      let stands : (t : Table K) → In t xs → In t ts = λ t n. (held_parts ts j t n).0 in
      let differ : Pairs Differ xs = kept_pairs Differ (named j.numbers) s.numbers in
      record {
        goes = λ a n. other_kind Move e (going_from Move refl);
        level = each_map f (λ a. (a.level ≡ j.destination) × (a.run ≡ 0)) xs (λ t n. (refl, refl));
        ranges = each_map f (Proper cmp) xs (λ t n. s.ranges t (stands t n));
        inside = each_map f (λ a. Inside cmp (λ t. In t (held j ts)) a.range) xs (λ t n. record { left = (t, n, self t.range.min); right = (t, n, self t.range.max) });
        apart = map_pairs f Differ (λ x y. meets cmp x.range y.range ≡ false) (λ x y n i d. b.moves j m e x y n i d) differ;
        numbers = map_pairs f Differ Differ (λ x y n i d. d) differ;
        own = each_map f (λ a. (named j.numbers a ≡ true) ⊎ (Stands ts a.number → ⊥)) xs (λ t n. inl (held_parts ts j t n).1);
        sizes = each_map f (λ a. a.size ≤ 2 ^ 53) xs (λ t n. s.sizes t (stands t n));
        links = each_map f (λ a. a.linked ≤ 2 ^ 53) xs (λ t n. s.links t (stands t n));
      }

  merge_arrives : j.kind ≡ Merge → (outs : List (Fresh K)) → Faultless (bad_table cmp ts) [] outs → Faultless (bad_output cmp (span_held cmp ts j)) [] outs → Arrive cmp ts j (map (settled j.destination 0) outs)
  merge_arrives e outs fresh fits =
      let f = settled j.destination 0 in
      let span = span_held cmp ts j in
      let good = all_good cmp ts [] outs fresh in
      record {
        goes = λ a n. other_kind Merge e (going_from Merge refl);
        level = each_map f (λ a. (a.level ≡ j.destination) × (a.run ≡ 0)) outs (λ t n. (refl, refl));
        ranges = each_map f (Proper cmp) outs (λ t n. (good t n).proper);
        inside = each_map f (λ a. Inside cmp (λ t. In t (held j ts)) a.range) outs (λ t n. inside_from cmp (held j ts) t (all_inside laws span [] outs fits t n));
        apart = map_pairs f (λ x y. is_lt (cmp x.range.max y.range.min) ≡ true) (λ x y. meets cmp x.range y.range ≡ false)
            (λ x y n i h. and_left (not (is_lt (cmp x.range.max y.range.min))) (not (is_lt (cmp y.range.max x.range.min))) (not_from_true _ h)) (line_pairs laws span [] outs (λ t n. (good t n).proper) fits);
        numbers = map_pairs f (λ x y. x.number ≡ y.number → ⊥) Differ (λ x y n i d. d) (fresh_differ cmp ts [] outs fresh);
        own = each_map f (λ a. (named j.numbers a ≡ true) ⊎ (Stands ts a.number → ⊥)) outs (λ t n. inr (good t n).new);
        sizes = each_map f (λ a. a.size ≤ 2 ^ 53) outs (λ t n. (good t n).size);
        links = each_map f (λ a. a.linked ≤ 2 ^ 53) outs (λ t n. (good t n).linked);
      }

  nothing_arrives : Arrive cmp ts j []
  nothing_arrives =
      record {
        goes = λ a n. absurd (none_in n);
        level = λ a n. absurd (none_in n);
        ranges = λ a n. absurd (none_in n);
        inside = λ a n. absurd (none_in n);
        apart = none;
        numbers = none;
        own = λ a n. absurd (none_in n);
        sizes = λ a n. absurd (none_in n);
        links = λ a n. absurd (none_in n);
      }

  module _ (outs : List (Fresh K)) (fresh : first_fault (bad_table cmp ts) [] outs ≡ None) where
    at_kind : (k : Kind) → j.kind ≡ k → (fs : List (Fresh K)) → fs ≡ outs → bad_outputs cmp k (span_held cmp ts j) fs ≡ None → Arrive cmp ts j (arrivals k j.destination j.numbers fs ts)
    at_kind Move e fs q ok = move_arrives e
    at_kind Merge e [] q ok = absurd (let z : ◌≡◌ {A = ℕ} 0 1 = cc in omega arith)
    at_kind Merge e (f ∷ fs) q ok =
        merge_arrives e (f ∷ fs) (faultless (bad_table cmp ts) [] (f ∷ fs) (ap (first_fault (bad_table cmp ts) []) q ∙ fresh)) (faultless (bad_output cmp (span_held cmp ts j)) [] (f ∷ fs) ok)
    at_kind Drop e fs q ok = nothing_arrives

    -- what a job brings in where its outputs are good
    pub arrives : bad_outputs cmp j.kind (span_held cmp ts j) outs ≡ None → Arrive cmp ts j (arrivals j.kind j.destination j.numbers outs ts)
    arrives ok = at_kind j.kind refl outs refl ok
