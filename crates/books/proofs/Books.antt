-- A book stays sound where a job ends, and where tables change that its jobs do not hold.
use Rattle.std.proofs.Common.{◌≡◌, ℕ, ◌≤◌, Bool, true, false, not, List, length, filter, Ordering, sym, refl, ap, ◌∙◌, subst, inl, inr, arith}
use Rattle.std.specs.Ordering.{is_lt}
use Rattle.std.proofs.lemmas.List.Sums.{length-filter, count_by-le-length}
use Rattle.std.proofs.lemmas.Bool.{cases_Bool, both_ways, not-true, not_from_false}
use Rattle.keys.specs.declared.key_range.KeyRange.{KeyRange}
use Rattle.keys.specs.KeyKind.{Laws}
use Rattle.keys.specs.KeyRange.{meets}
use Rattle.runs.specs.declared.table.Table.{Table}
use Rattle.sheets.specs.HiddenSet.{showing}
use Rattle.sheets.specs.Members.{In, Every}
use Rattle.sheets.specs.Tables.{memb, named}
use Rattle.sheets.proofs.Each.{in_kept, kept_in, kept_pairs, pairs_weaker, memb_in, in_memb}
use Rattle.strategies.specs.declared.choice.Kind.TheVariants.{Move}
use Rattle.strategies.specs.Strategy.{Goes, Stands}
use Rattle.books.specs.Booked.{Disjoint, Lanes, UnmetHeld, Booked}
use Rattle.books.specs.Job.{Running, held}
use Rattle.books.proofs.Outs.{Out, out_rest, out_cases, out_pairs, out_length}
use Rattle.books.proofs.SpanBounds.{Misses, Apart, apart_turn, misses_from, misses_to, apart_from, apart_to}

-- ---- numbers that are shown
pub shown_parts : {n : ℕ} (ns hidden : List ℕ) → In n (showing ns hidden) → In n hidden × (memb n ns ≡ false)
shown_parts {n} ns hidden m = let k = in_kept (λ x. not (memb x ns)) hidden n m in (k.0, not-true (memb n ns) k.1)

shown_from : (n : ℕ) (ns hidden : List ℕ) → memb n hidden ≡ true → memb n ns ≡ false → memb n (showing ns hidden) ≡ true
shown_from n ns hidden h k = in_memb n (showing ns hidden) (kept_in (λ x. not (memb x ns)) hidden n (memb_in n hidden h) (not_from_false (memb n ns) k))

kept_length : {X : Type 0} (p : X → Bool) (xs : List X) → length (filter p xs) ≤ length xs
kept_length p xs = omega (arith, length-filter p xs, count_by-le-length p xs)

pub disjoint_turn : (j k : Running) → Disjoint j k → Disjoint k j
disjoint_turn j k d n a b = d n b a

-- ---- tables of a job
module _ {K : Type 0} (ts : List (Table K)) (j : Running) where
  pub held_in : (t : Table K) → In t ts → named j.numbers t ≡ true → In t (held j ts)
  held_in t m e = kept_in (named j.numbers) ts t m e

  pub held_parts : (t : Table K) → In t (held j ts) → In t ts × (named j.numbers t ≡ true)
  held_parts t m = in_kept (named j.numbers) ts t m

module _ {K : Type 0} {cmp : K → K → Ordering} (laws : Laws cmp) (ts : List (Table K)) where
  -- the lanes of two jobs by their tables
  pub lanes_from : (j k : Running) → Lanes cmp ts j k → Goes j.kind → Goes k.kind → j.destination ≡ k.destination → Apart cmp (λ t. In t (held j ts)) (λ u. In u (held k ts))
  lanes_from j k l gj gk e = apart_from laws (held j ts) (held k ts) (l gj gk e)

  pub lanes_turn : (j k : Running) → Lanes cmp ts j k → Lanes cmp ts k j
  lanes_turn j k l gk gj e = apart_to laws (held k ts) (held j ts) (apart_turn cmp (λ t. In t (held j ts)) (λ u. In u (held k ts)) (lanes_from j k l gj gk (sym e)))

  -- a table of its destination that is not the job's misses its tables
  pub clear_from : {hidden : List ℕ} {jobs : List Running} → Booked cmp ts hidden jobs → (j : Running) → In j jobs → Goes j.kind → (u : Table K) → In u ts → u.level ≡ j.destination → named j.numbers u ≡ false
      → Misses cmp (λ t. In t (held j ts)) u.range
  clear_from b j m g u n e x = misses_from laws (held j ts) u (b.clear j m g u n e x)

  -- a job ends and shows its tables
  pub take_out : {hidden : List ℕ} {jobs rest : List Running} {j : Running} → Booked cmp ts hidden jobs → Out j jobs rest → Booked cmp ts (showing j.numbers hidden) rest
  take_out {hidden} {jobs} {rest} {j} b o =
      let ns = j.numbers in
      let d = out_pairs Disjoint disjoint_turn o b.disjoint in
      record {
        few = (omega (arith, b.few.0, kept_length (λ n. not (memb n ns)) hidden), omega (arith, b.few.1, out_length o));
        once = kept_pairs _ (λ n. not (memb n ns)) b.once;
        stands = λ n m. b.stands n (shown_parts ns hidden m).0;
        owned = λ n m. let p = shown_parts ns hidden m in let w = b.owned n p.0 in
            elim (out_cases o w.1) [ inl e ↦ absurd (both_ways (memb n ns) p.1 (ap (λ (k : Running). memb n k.numbers) (sym e) ∙ w.2)) | inr i ↦ (w.0, i, w.2) ];
        hides = λ k i n m. shown_from n ns hidden (b.hides k (out_rest o i) n m)
            (elim (cases_Bool (memb n ns)) [ inl e ↦ absurd (d.1 k i n e (in_memb n k.numbers m)) | inr e ↦ e ]);
        disjoint = d.0;
        filled = λ k i. b.filled k (out_rest o i);
        destined = λ k i. b.destined k (out_rest o i);
        clear = λ k i. b.clear k (out_rest o i);
        lanes = (out_pairs (Lanes cmp ts) lanes_turn o b.lanes).0;
        moves = λ k i. b.moves k (out_rest o i);
      }

-- ---- other tables
-- the same table but for its run, size and times
pub record Like {K : Type 0} (t u : Table K) : Type 0 where
  pub number : t.number ≡ u.number
  pub level : t.level ≡ u.level
  pub range : t.range ≡ u.range

pub like_self : {K : Type 0} (t : Table K) → Like t t
like_self t = record { number = refl; level = refl; range = refl }

module _ {K : Type 0} {cmp : K → K → Ordering} (laws : Laws cmp) {ts ts' : List (Table K)} {hidden : List ℕ} {jobs : List Running} (b : Booked cmp ts hidden jobs)
    -- hidden tables go on standing
    (keep : (n : ℕ) → In n hidden → Stands ts n → Stands ts' n)
    -- a job's table stood before
    (back : (j : Running) → In j jobs → (u : Table K) → In u ts' → named j.numbers u ≡ true → (t : Table K) × In t ts × Like t u)
    -- what is new in a job's destination is clear of it
    (new : (j : Running) → In j jobs → Goes j.kind → (u : Table K) → In u ts' → u.level ≡ j.destination → named j.numbers u ≡ false → Misses cmp (λ t. In t (held j ts)) u.range) where
  held_back : (j : Running) → In j jobs → (u : Table K) → In u (held j ts') → (t : Table K) × In t (held j ts) × Like t u
  held_back j m u n =
      let p = held_parts ts' j u n in
      let w = back j m u p.0 p.1 in
      (w.0, held_in ts j w.0 w.1 (ap (λ x. memb x j.numbers) w.2.number ∙ p.1), w.2)

  -- what holds of the ranges of a job's tables goes on holding
  held_ranges : (P : KeyRange K → Type 0) (j : Running) → In j jobs → Every (λ t. P t.range) (held j ts) → Every (λ u. P u.range) (held j ts')
  held_ranges P j m f u n = let w = held_back j m u n in subst P w.2.range (f w.0 w.1)

  misses_again : (j : Running) → In j jobs → (r : KeyRange K) → Misses cmp (λ t. In t (held j ts)) r → Misses cmp (λ u. In u (held j ts')) r
  misses_again j m r (inl f) = inl (held_ranges (λ s. is_lt (cmp s.max r.min) ≡ true) j m f)
  misses_again j m r (inr f) = inr (held_ranges (λ s. is_lt (cmp r.max s.min) ≡ true) j m f)

  apart_again : (j k : Running) → In j jobs → In k jobs → Apart cmp (λ t. In t (held j ts)) (λ u. In u (held k ts)) → Apart cmp (λ t. In t (held j ts')) (λ u. In u (held k ts'))
  apart_again j k m n (inl f) =
      inl (λ t u p q. held_ranges (λ s. is_lt (cmp s.max u.range.min) ≡ true) j m (λ x i. held_ranges (λ s. is_lt (cmp x.range.max s.min) ≡ true) k n (λ y l. f x y i l) u q) t p)
  apart_again j k m n (inr f) =
      inr (λ t u p q. held_ranges (λ s. is_lt (cmp u.range.max s.min) ≡ true) j m (λ x i. held_ranges (λ s. is_lt (cmp s.max x.range.min) ≡ true) k n (λ y l. f x y i l) u q) t p)

  moves_again : (j : Running) → In j jobs → j.kind ≡ Move → UnmetHeld cmp ts' j
  moves_again j m e t u n i d =
      let v = held_back j m t n in
      let w = held_back j m u i in
      let r = b.moves j m e v.0 w.0 v.1 w.1 (λ q. d (sym v.2.number ∙ q ∙ w.2.number)) in
      subst (λ s. meets cmp t.range s ≡ false) w.2.range (subst (λ s. meets cmp s w.0.range ≡ false) v.2.range r)

  pub other_tables : Booked cmp ts' hidden jobs
  other_tables =
      record {
        few = b.few;
        once = b.once;
        stands = λ n m. keep n m (b.stands n m);
        owned = b.owned;
        hides = b.hides;
        disjoint = b.disjoint;
        filled = b.filled;
        destined = b.destined;
        clear = λ j m g u n e x. misses_to laws (held j ts') u (misses_again j m u.range (new j m g u n e x));
        lanes = pairs_weaker (Lanes cmp ts) (Lanes cmp ts') (λ j k m n l gj gk e. apart_to laws (held j ts') (held k ts') (apart_again j k m n (lanes_from laws ts j k l gj gk e))) b.lanes;
        moves = moves_again;
      }
