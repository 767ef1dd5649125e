-- What a span says of each of its tables: where one of two spans ends before the other begins, so does each of its tables, and the other way round.
use Rattle.std.proofs.Common.{◌≡◌, true, false, not, ◌⊎◌, List, [], ◌∷◌, Option, Ordering, sym, refl, ap, ◌∙◌, inl, inr}
use Rattle.std.specs.Ordering.{is_lt}
use Rattle.std.proofs.lemmas.Bool.{true≢false, cases_Bool, and_parts, and_cases, and_left, and_right, cond-true, cond-false, not-true, not-false, not_from_true}
use Rattle.keys.specs.declared.key_range.KeyRange.{KeyRange}
use Rattle.keys.specs.KeyKind.{Laws}
use Rattle.keys.specs.KeyRange.{meets, wider}
use Rattle.keys.proofs.Orders.{lt_chain, lt_le, le_lt}
use Rattle.runs.specs.declared.fresh.Fresh.{Fresh}
use Rattle.runs.specs.declared.table.Table.{Table}
use Rattle.runs.specs.Run.{widened, span_of}
use Rattle.picks.specs.Movable.{meets_span}
use Rattle.sheets.specs.Members.{In, here, later, Every}
use Rattle.sheets.proofs.Each.{none_in, in_cases}
use Rattle.strategies.specs.Strategy.{spans_meet}
use Rattle.books.specs.Close.{in_span}

-- ---- bounds over tables that P picks
module _ {K : Type 0} (cmp : K → K → Ordering) where
  -- all of them end before the range begins, or all begin after it ends
  abbrev pub Misses : (Table K → Type 0) → KeyRange K → Type 0
  Misses P r = ((t : Table K) → P t → is_lt (cmp t.range.max r.min) ≡ true) ⊎ ((t : Table K) → P t → is_lt (cmp r.max t.range.min) ≡ true)

  -- all of one kind end before all of the other begin, or the other way round
  abbrev pub Apart : (Table K → Type 0) → (Table K → Type 0) → Type 0
  Apart P Q = ((t u : Table K) → P t → Q u → is_lt (cmp t.range.max u.range.min) ≡ true) ⊎ ((t u : Table K) → P t → Q u → is_lt (cmp u.range.max t.range.min) ≡ true)

  -- one of them begins no later than the range, and one ends no earlier
  pub record Inside (P : Table K → Type 0) (r : KeyRange K) : Type 0 where
    pub left : (t : Table K) × P t × (is_lt (cmp r.min t.range.min) ≡ false)
    pub right : (t : Table K) × P t × (is_lt (cmp t.range.max r.max) ≡ false)

  pub apart_turn : (P Q : Table K → Type 0) → Apart P Q → Apart Q P
  apart_turn P Q (inl f) = inr (λ t u p q. f u t q p)
  apart_turn P Q (inr f) = inl (λ t u p q. f u t q p)

  -- ---- two ranges that do not meet
  pub unmet_from : (r s : KeyRange K) → meets cmp r s ≡ false → (is_lt (cmp r.max s.min) ≡ true) ⊎ (is_lt (cmp s.max r.min) ≡ true)
  unmet_from r s h = elim (and_cases (not (is_lt (cmp r.max s.min))) (not (is_lt (cmp s.max r.min))) h) [ inl k ↦ inl (not-false _ k) | inr k ↦ inr (not-false _ k) ]

  pub unmet_to : (r s : KeyRange K) → (is_lt (cmp r.max s.min) ≡ true) ⊎ (is_lt (cmp s.max r.min) ≡ true) → meets cmp r s ≡ false
  unmet_to r s w =
      let x = not (is_lt (cmp r.max s.min)) in
      let y = not (is_lt (cmp s.max r.min)) in
      elim w [ inl k ↦ and_left x y (not_from_true _ k) | inr k ↦ and_right x y (not_from_true _ k) ]

  pub unmet_turn : (r s : KeyRange K) → meets cmp r s ≡ false → meets cmp s r ≡ false
  unmet_turn r s h = unmet_to s r (elim (unmet_from r s h) [ inl k ↦ inr k | inr k ↦ inl k ])

  abbrev widest : KeyRange K → List (Table K) → KeyRange K
  widest r ts = widened cmp (λ t. t.range) r ts

  abbrev spanned : List (Table K) → Option (KeyRange K)
  spanned ts = span_of cmp (λ t. t.range) ts

  -- ---- the ends of a span are ends of its tables
  least_in : (r : KeyRange K) (ts : List (Table K)) → ((widest r ts).min ≡ r.min) ⊎ ((t : Table K) × In t ts × ((widest r ts).min ≡ t.range.min))
  least_in r [] = inl refl
  least_in r (t ∷ ts) =
      elim (least_in (wider cmp r t.range) ts) [
        | inl e ↦ elim (cases_Bool (is_lt (cmp t.range.min r.min))) [ inl b ↦ inr (t, here refl, e ∙ cond-true _ _ _ b) | inr b ↦ inl (e ∙ cond-false _ _ _ b) ]
        | inr w ↦ inr (w.0, later w.1, w.2)
      ]

  greatest_in : (r : KeyRange K) (ts : List (Table K)) → ((widest r ts).max ≡ r.max) ⊎ ((t : Table K) × In t ts × ((widest r ts).max ≡ t.range.max))
  greatest_in r [] = inl refl
  greatest_in r (t ∷ ts) =
      elim (greatest_in (wider cmp r t.range) ts) [
        | inl e ↦ elim (cases_Bool (is_lt (cmp r.max t.range.max))) [ inl b ↦ inr (t, here refl, e ∙ cond-true _ _ _ b) | inr b ↦ inl (e ∙ cond-false _ _ _ b) ]
        | inr w ↦ inr (w.0, later w.1, w.2)
      ]

  least_of : (t : Table K) (ts : List (Table K)) → (u : Table K) × In u (t ∷ ts) × ((widest t.range ts).min ≡ u.range.min)
  least_of t ts = elim (least_in t.range ts) [ inl e ↦ (t, here refl, e) | inr w ↦ (w.0, later w.1, w.2) ]

  greatest_of : (t : Table K) (ts : List (Table K)) → (u : Table K) × In u (t ∷ ts) × ((widest t.range ts).max ≡ u.range.max)
  greatest_of t ts = elim (greatest_in t.range ts) [ inl e ↦ (t, here refl, e) | inr w ↦ (w.0, later w.1, w.2) ]

  -- what lies in the span
  pub inside_from : (ts : List (Table K)) (f : Fresh K) → in_span cmp (spanned ts) f ≡ true → Inside (λ t. In t ts) f.range
  inside_from [] f h = absurd (true≢false (sym h))
  inside_from (t ∷ ts) f h =
      let p = and_parts _ _ h in
      let v = least_of t ts in
      let w = greatest_of t ts in
      record {
        left = (v.0, v.1, ap (λ x. is_lt (cmp f.range.min x)) (sym v.2) ∙ not-true _ p.0);
        right = (w.0, w.1, ap (λ x. is_lt (cmp x f.range.max)) (sym w.2) ∙ not-true _ p.1);
      }

  -- ---- what all end before, the span ends before; what all begin after, it begins after
  ends_to : (k : K) (t : Table K) (ts : List (Table K)) → Every (λ u. is_lt (cmp u.range.max k) ≡ true) (t ∷ ts) → is_lt (cmp (widest t.range ts).max k) ≡ true
  ends_to k t ts f = let w = greatest_of t ts in ap (λ x. is_lt (cmp x k)) w.2 ∙ f w.0 w.1

  begins_to : (k : K) (t : Table K) (ts : List (Table K)) → Every (λ u. is_lt (cmp k u.range.min) ≡ true) (t ∷ ts) → is_lt (cmp k (widest t.range ts).min) ≡ true
  begins_to k t ts f = let w = least_of t ts in ap (λ x. is_lt (cmp k x)) w.2 ∙ f w.0 w.1

-- ---- and the other way round
module _ {K : Type 0} {cmp : K → K → Ordering} (laws : Laws cmp) where
  ends_all : (k : K) (r : KeyRange K) (ts : List (Table K)) → is_lt (cmp (widest cmp r ts).max k) ≡ true → (is_lt (cmp r.max k) ≡ true) × Every (λ u. is_lt (cmp u.range.max k) ≡ true) ts
  ends_all k r [] h = (h, λ u m. absurd (none_in m))
  ends_all k r (t ∷ ts) h =
      let rest = ends_all k (wider cmp r t.range) ts h in
      let two : (is_lt (cmp r.max k) ≡ true) × (is_lt (cmp t.range.max k) ≡ true) =
      elim (cases_Bool (is_lt (cmp r.max t.range.max))) [
        | inl b ↦ let e = ap (λ x. is_lt (cmp x k)) (sym (cond-true _ _ _ b)) ∙ rest.0 in (lt_chain laws r.max t.range.max k b e, e)
        | inr b ↦ let e = ap (λ x. is_lt (cmp x k)) (sym (cond-false _ _ _ b)) ∙ rest.0 in (e, le_lt laws t.range.max r.max k b e)
      ] in
      (two.0, λ u m. elim (in_cases m) [ inl e ↦ ap (λ (x : Table K). is_lt (cmp x.range.max k)) e ∙ two.1 | inr n ↦ rest.1 u n ])

  begins_all : (k : K) (r : KeyRange K) (ts : List (Table K)) → is_lt (cmp k (widest cmp r ts).min) ≡ true → (is_lt (cmp k r.min) ≡ true) × Every (λ u. is_lt (cmp k u.range.min) ≡ true) ts
  begins_all k r [] h = (h, λ u m. absurd (none_in m))
  begins_all k r (t ∷ ts) h =
      let rest = begins_all k (wider cmp r t.range) ts h in
      let two : (is_lt (cmp k r.min) ≡ true) × (is_lt (cmp k t.range.min) ≡ true) =
      elim (cases_Bool (is_lt (cmp t.range.min r.min))) [
        | inl b ↦ let e = ap (λ x. is_lt (cmp k x)) (sym (cond-true _ _ _ b)) ∙ rest.0 in (lt_chain laws k t.range.min r.min e b, e)
        | inr b ↦ let e = ap (λ x. is_lt (cmp k x)) (sym (cond-false _ _ _ b)) ∙ rest.0 in (e, lt_le laws k r.min t.range.min e b)
      ] in
      (two.0, λ u m. elim (in_cases m) [ inl e ↦ ap (λ (x : Table K). is_lt (cmp k x.range.min)) e ∙ two.1 | inr n ↦ rest.1 u n ])

  ends_from : (k : K) (t : Table K) (ts : List (Table K)) → is_lt (cmp (widest cmp t.range ts).max k) ≡ true → Every (λ u. is_lt (cmp u.range.max k) ≡ true) (t ∷ ts)
  ends_from k t ts h u m = let w = ends_all k t.range ts h in elim (in_cases m) [ inl e ↦ ap (λ (x : Table K). is_lt (cmp x.range.max k)) e ∙ w.0 | inr n ↦ w.1 u n ]

  begins_from : (k : K) (t : Table K) (ts : List (Table K)) → is_lt (cmp k (widest cmp t.range ts).min) ≡ true → Every (λ u. is_lt (cmp k u.range.min) ≡ true) (t ∷ ts)
  begins_from k t ts h u m = let w = begins_all k t.range ts h in elim (in_cases m) [ inl e ↦ ap (λ (x : Table K). is_lt (cmp k x.range.min)) e ∙ w.0 | inr n ↦ w.1 u n ]

  -- ---- a table and a span
  pub misses_from : (ts : List (Table K)) (u : Table K) → meets_span cmp (λ t. t.range) (spanned cmp ts) u ≡ false → Misses cmp (λ t. In t ts) u.range
  misses_from [] u h = inl (λ t m. absurd (none_in m))
  misses_from (t ∷ ts) u h =
      elim (unmet_from cmp u.range (widest cmp t.range ts) h)
      [ inl k ↦ inr (begins_from u.range.max t ts k) | inr k ↦ inl (ends_from u.range.min t ts k) ]

  pub misses_to : (ts : List (Table K)) (u : Table K) → Misses cmp (λ t. In t ts) u.range → meets_span cmp (λ t. t.range) (spanned cmp ts) u ≡ false
  misses_to [] u w = refl
  misses_to (t ∷ ts) u w =
      unmet_to cmp u.range (widest cmp t.range ts)
      (elim w [ inl f ↦ inr (ends_to cmp u.range.min t ts f) | inr f ↦ inl (begins_to cmp u.range.max t ts f) ])

  -- ---- two spans
  ahead_from : (t u : Table K) (ts us : List (Table K)) → is_lt (cmp (widest cmp t.range ts).max (widest cmp u.range us).min) ≡ true
      → (x y : Table K) → In x (t ∷ ts) → In y (u ∷ us) → is_lt (cmp x.range.max y.range.min) ≡ true
  ahead_from t u ts us h x y m n = begins_from x.range.max u us (ends_from (widest cmp u.range us).min t ts h x m) y n

  ahead_to : (t u : Table K) (ts us : List (Table K)) → ((x y : Table K) → In x (t ∷ ts) → In y (u ∷ us) → is_lt (cmp x.range.max y.range.min) ≡ true)
      → is_lt (cmp (widest cmp t.range ts).max (widest cmp u.range us).min) ≡ true
  ahead_to t u ts us f = ends_to cmp (widest cmp u.range us).min t ts (λ x m. begins_to cmp x.range.max u us (λ y n. f x y m n))

  pub apart_from : (ts us : List (Table K)) → spans_meet cmp (spanned cmp ts) (spanned cmp us) ≡ false → Apart cmp (λ t. In t ts) (λ u. In u us)
  apart_from [] us h = inl (λ t u m n. absurd (none_in m))
  apart_from (t ∷ ts) [] h = inl (λ t u m n. absurd (none_in n))
  apart_from (t ∷ ts) (u ∷ us) h =
      elim (unmet_from cmp (widest cmp t.range ts) (widest cmp u.range us) h)
      [ inl k ↦ inl (ahead_from t u ts us k) | inr k ↦ inr (λ x y m n. ahead_from u t us ts k y x n m) ]

  pub apart_to : (ts us : List (Table K)) → Apart cmp (λ t. In t ts) (λ u. In u us) → spans_meet cmp (spanned cmp ts) (spanned cmp us) ≡ false
  apart_to [] us w = refl
  apart_to (t ∷ ts) [] w = refl
  apart_to (t ∷ ts) (u ∷ us) w =
      unmet_to cmp (widest cmp t.range ts) (widest cmp u.range us)
      (elim w [ inl f ↦ inl (ahead_to t u ts us f) | inr f ↦ inr (ahead_to u t us ts (λ y x n m. f x y m n)) ])

  -- ---- a range in the span of some tables meets what the span meets, and no more
  pub inside_misses : (P : Table K → Type 0) (r s : KeyRange K) → Inside cmp P r → Misses cmp P s → (is_lt (cmp r.max s.min) ≡ true) ⊎ (is_lt (cmp s.max r.min) ≡ true)
  inside_misses P r s i (inl f) = let w = i.right in inl (le_lt laws r.max w.0.range.max s.min w.2 (f w.0 w.1))
  inside_misses P r s i (inr f) = let w = i.left in inr (lt_le laws s.max w.0.range.min r.min (f w.0 w.1) w.2)

  pub inside_apart : (P Q : Table K → Type 0) (r : KeyRange K) → Inside cmp P r → Apart cmp P Q → Misses cmp Q r
  inside_apart P Q r i (inl f) = let w = i.right in inr (λ u q. le_lt laws r.max w.0.range.max u.range.min w.2 (f w.0 u w.1 q))
  inside_apart P Q r i (inr f) = let w = i.left in inl (λ u q. lt_le laws u.range.max w.0.range.min r.min (f w.0 u w.1 q) w.2)
