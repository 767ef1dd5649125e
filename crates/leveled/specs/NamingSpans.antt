-- What the span of some tables says of each: `spans` is a table's range.
-- Lemmas for a law that an impl owes, whose term can cite specs/ alone: they are proved, and nothing here has to be believed.
use Rattle.std.specs.Prelude.{◌≡◌, true, false, cond, not, ◌⊎◌, List, [], ◌∷◌, refl}
use Rattle.std.specs.declared.cmp.Ordering.{Ordering}
use Rattle.std.proofs.Common.{sym, ap, ◌∙◌, inl, inr}
use Rattle.std.specs.Ordering.{is_lt}
use Rattle.std.proofs.lemmas.Bool.{true≢false, and_parts, and_cases, and_left, and_right, not-true, not-false, not_from_true}
use Rattle.keys.specs.declared.key_range.KeyRange.{KeyRange}
use Rattle.keys.specs.KeyKind.{Laws}
use Rattle.keys.specs.KeyRange.{wider}
use Rattle.keys.proofs.Orders.{lt_chain, lt_le, le_lt}
use Rattle.runs.specs.Run.{widened, span_of}
use Rattle.sheets.specs.Members.{In, here, later}
use Rattle.sheets.proofs.Each.{none_in, in_cases}
use Rattle.picks.specs.Merge.{inside_span}
use Rattle.picks.specs.Movable.{meets_span}
use Rattle.strategies.specs.Strategy.{spans_meet}

module _ {K T : Type 0} (cmp : K → K → Ordering) (spans : T → KeyRange K) where
  -- each of some tables ends before the key
  abbrev pub Ending : List T → K → Type 0
  Ending ts x = (t : T) → In t ts → is_lt (cmp (spans t).max x) ≡ true

  -- each begins after the key
  abbrev pub Beginning : List T → K → Type 0
  Beginning ts x = (t : T) → In t ts → is_lt (cmp x (spans t).min) ≡ true

  -- all end before u begins, or all begin after u ends
  abbrev pub Beside : List T → T → Type 0
  Beside ts u = Ending ts (spans u).min ⊎ Beginning ts (spans u).max

  -- ---- what holds of each holds of the span
  widened_ends : (r : KeyRange K) (ts : List T) (x : K) → is_lt (cmp r.max x) ≡ true → Ending ts x → is_lt (cmp (widened cmp spans r ts).max x) ≡ true
  widened_ends r [] x h f = h
  widened_ends r (t ∷ ts) x h f =
      let m : is_lt (cmp (wider cmp r (spans t)).max x) ≡ true =
      elim (is_lt (cmp r.max (spans t).max)) as (λ b. is_lt (cmp (cond b (spans t).max r.max) x) ≡ true) [ true ↦ f t (here refl) | false ↦ h ] in
      widened_ends (wider cmp r (spans t)) ts x m (λ u k. f u (later k))

  widened_begins : (r : KeyRange K) (ts : List T) (x : K) → is_lt (cmp x r.min) ≡ true → Beginning ts x → is_lt (cmp x (widened cmp spans r ts).min) ≡ true
  widened_begins r [] x h f = h
  widened_begins r (t ∷ ts) x h f =
      let m : is_lt (cmp x (wider cmp r (spans t)).min) ≡ true =
      elim (is_lt (cmp (spans t).min r.min)) as (λ b. is_lt (cmp x (cond b (spans t).min r.min)) ≡ true) [ true ↦ f t (here refl) | false ↦ h ] in
      widened_begins (wider cmp r (spans t)) ts x m (λ u k. f u (later k))

  span_ends : (t : T) (ts : List T) (x : K) → Ending (t ∷ ts) x → is_lt (cmp (widened cmp spans (spans t) ts).max x) ≡ true
  span_ends t ts x f = widened_ends (spans t) ts x (f t (here refl)) (λ u m. f u (later m))

  span_begins : (t : T) (ts : List T) (x : K) → Beginning (t ∷ ts) x → is_lt (cmp x (widened cmp spans (spans t) ts).min) ≡ true
  span_begins t ts x f = widened_begins (spans t) ts x (f t (here refl)) (λ u m. f u (later m))

  -- the span of tables that all stand on one side of u does not meet u
  pub beside_unmet : (ts : List T) (u : T) → Beside ts u → meets_span cmp spans (span_of cmp spans ts) u ≡ false
  beside_unmet [] u b = refl
  beside_unmet (t ∷ ts) u b =
      elim b [
        | inl f ↦ and_right (not (is_lt (cmp (spans u).max (widened cmp spans (spans t) ts).min))) _ (not_from_true _ (span_ends t ts (spans u).min f))
        | inr f ↦ and_left _ (not (is_lt (cmp (widened cmp spans (spans t) ts).max (spans u).min))) (not_from_true _ (span_begins t ts (spans u).max f))
      ]

-- ---- what holds of the span holds of each
module _ {K T : Type 0} {cmp : K → K → Ordering} (laws : Laws cmp) (spans : T → KeyRange K) where
  both_end : (a b x : K) → is_lt (cmp (cond (is_lt (cmp a b)) b a) x) ≡ true → (is_lt (cmp a x) ≡ true) × (is_lt (cmp b x) ≡ true)
  both_end a b x h =
      elim (is_lt (cmp a b)) as (λ c. is_lt (cmp a b) ≡ c → is_lt (cmp (cond c b a) x) ≡ true → (is_lt (cmp a x) ≡ true) × (is_lt (cmp b x) ≡ true))
      [ true ↦ λ e l. (lt_chain laws a b x e l, l) | false ↦ λ e l. (l, le_lt laws b a x e l) ] refl h

  both_begin : (a b x : K) → is_lt (cmp x (cond (is_lt (cmp b a)) b a)) ≡ true → (is_lt (cmp x a) ≡ true) × (is_lt (cmp x b) ≡ true)
  both_begin a b x h =
      elim (is_lt (cmp b a)) as (λ c. is_lt (cmp b a) ≡ c → is_lt (cmp x (cond c b a)) ≡ true → (is_lt (cmp x a) ≡ true) × (is_lt (cmp x b) ≡ true))
      [ true ↦ λ e l. (lt_chain laws x b a l e, l) | false ↦ λ e l. (l, lt_le laws x a b l e) ] refl h

  ends_widened : (r : KeyRange K) (ts : List T) (x : K) → is_lt (cmp (widened cmp spans r ts).max x) ≡ true → (is_lt (cmp r.max x) ≡ true) × Ending cmp spans ts x
  ends_widened r [] x h = (h, λ t m. absurd (none_in m))
  ends_widened r (t ∷ ts) x h =
      let k = ends_widened (wider cmp r (spans t)) ts x h in
      let p = both_end r.max (spans t).max x k.0 in
      (p.0, λ u m. elim (in_cases m) [ inl e ↦ ap (λ v. is_lt (cmp (spans v).max x)) e ∙ p.1 | inr n ↦ k.1 u n ])

  begins_widened : (r : KeyRange K) (ts : List T) (x : K) → is_lt (cmp x (widened cmp spans r ts).min) ≡ true → (is_lt (cmp x r.min) ≡ true) × Beginning cmp spans ts x
  begins_widened r [] x h = (h, λ t m. absurd (none_in m))
  begins_widened r (t ∷ ts) x h =
      let k = begins_widened (wider cmp r (spans t)) ts x h in
      let p = both_begin r.min (spans t).min x k.0 in
      (p.0, λ u m. elim (in_cases m) [ inl e ↦ ap (λ v. is_lt (cmp x (spans v).min)) e ∙ p.1 | inr n ↦ k.1 u n ])

  ends_span : (t : T) (ts : List T) (x : K) → is_lt (cmp (widened cmp spans (spans t) ts).max x) ≡ true → Ending cmp spans (t ∷ ts) x
  ends_span t ts x h u m =
      let k = ends_widened (spans t) ts x h in
      elim (in_cases m) [ inl e ↦ ap (λ v. is_lt (cmp (spans v).max x)) e ∙ k.0 | inr n ↦ k.1 u n ]

  begins_span : (t : T) (ts : List T) (x : K) → is_lt (cmp x (widened cmp spans (spans t) ts).min) ≡ true → Beginning cmp spans (t ∷ ts) x
  begins_span t ts x h u m =
      let k = begins_widened (spans t) ts x h in
      elim (in_cases m) [ inl e ↦ ap (λ v. is_lt (cmp x (spans v).min)) e ∙ k.0 | inr n ↦ k.1 u n ]

  -- tables whose span does not meet u stand all on one side of it
  pub unmet_beside : (ts : List T) (u : T) → meets_span cmp spans (span_of cmp spans ts) u ≡ false → Beside cmp spans ts u
  unmet_beside [] u h = inl (λ t m. absurd (none_in m))
  unmet_beside (t ∷ ts) u h =
      elim (and_cases (not (is_lt (cmp (spans u).max (widened cmp spans (spans t) ts).min))) _ h) [
        | inl k ↦ inr (begins_span t ts (spans u).max (not-false _ k))
        | inr k ↦ inl (ends_span t ts (spans u).min (not-false _ k))
      ]

  -- tables whose span does not meet that of others stand all on one side of each of these
  pub apart_beside : (ts us : List T) → spans_meet cmp (span_of cmp spans ts) (span_of cmp spans us) ≡ false → (u : T) → In u us → Beside cmp spans ts u
  apart_beside [] us h u m = inl (λ t n. absurd (none_in n))
  apart_beside (t ∷ ts) [] h u m = absurd (none_in m)
  apart_beside (t ∷ ts) (v ∷ vs) h u m =
      elim (and_cases (not (is_lt (cmp (widened cmp spans (spans t) ts).max (widened cmp spans (spans v) vs).min))) _ h) [
        | inl k ↦ inl (λ x n. begins_span v vs (spans x).max (ends_span t ts (widened cmp spans (spans v) vs).min (not-false _ k) x n) u m)
        | inr k ↦ inr (λ x n. begins_span t ts (spans u).max (ends_span v vs (widened cmp spans (spans t) ts).min (not-false _ k) u m) x n)
      ]

  -- what lies inside the span ends before what all end before, and begins after what all begin after
  pub inside_ends : (ts : List T) (t : T) (x : K) → inside_span cmp spans (span_of cmp spans ts) t ≡ true → Ending cmp spans ts x → is_lt (cmp (spans t).max x) ≡ true
  inside_ends [] t x h f = absurd (true≢false (sym h))
  inside_ends (y ∷ ys) t x h f =
      let k = not-true _ (and_parts (not (is_lt (cmp (spans t).min (widened cmp spans (spans y) ys).min))) _ h).1 in
      le_lt laws (spans t).max (widened cmp spans (spans y) ys).max x k (span_ends cmp spans y ys x f)

  pub inside_begins : (ts : List T) (t : T) (x : K) → inside_span cmp spans (span_of cmp spans ts) t ≡ true → Beginning cmp spans ts x → is_lt (cmp x (spans t).min) ≡ true
  inside_begins [] t x h f = absurd (true≢false (sym h))
  inside_begins (y ∷ ys) t x h f =
      let k = not-true _ (and_parts (not (is_lt (cmp (spans t).min (widened cmp spans (spans y) ys).min))) _ h).0 in
      lt_le laws x (widened cmp spans (spans y) ys).min (spans t).min (span_begins cmp spans y ys x f) k
