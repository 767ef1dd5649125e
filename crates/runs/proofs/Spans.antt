-- The span of a run goes from the min of its first table to the max of its last; a part of a run is a run.
use Rattle.std.proofs.Common.{◌≡◌, ℕ, zero, suc, ◌-◌, ◌<◌, true, false, cond, not, ◌&&◌, List, [], ◌∷◌, length, get_or, take, drop, Some, Option, Ordering, sym, refl, ap, ◌∙◌, arith}
use Rattle.std.specs.Ordering.{is_lt}
use Rattle.std.proofs.lemmas.Bool.{and_parts, and_from, not-true}
use Rattle.keys.specs.declared.key_range.KeyRange.{KeyRange}
use Rattle.keys.specs.KeyKind.{Laws}
use Rattle.runs.specs.Run.{apart, sorted, widened, span_of}
use Rattle.keys.proofs.Orders.{lt_not, lt_le, le_lt}
use Rattle.runs.proofs.Sorteds.{sorted_rest}
use Rattle.keys.specs.KeyRange.{wider}

-- the last of a list, where t stands before it
abbrev pub last_of : {T : Type 0} → T → List T → T
last_of t [] = t
last_of t (u ∷ us) = last_of u us

abbrev pub range : {K : Type 0} → K → K → KeyRange K
range a b = record { min = a; max = b }

module _ {K T : Type 0} {cmp : K → K → Ordering} (laws : Laws cmp) (spans : T → KeyRange K) where
  wider_to : (lo top : K) (u : T) → is_lt (cmp (spans u).min lo) ≡ false → is_lt (cmp top (spans u).max) ≡ true → wider cmp (range lo top) (spans u) ≡ range lo (spans u).max
  wider_to lo top u e f =
      ap (λ b. range (cond b (spans u).min lo) (cond (is_lt (cmp top (spans u).max)) (spans u).max top)) e
      ∙ ap (λ b. range lo (cond b (spans u).max top)) f

  widened_to : (lo : K) (t : T) (ts : List T) → is_lt (cmp (spans t).max lo) ≡ false → apart cmp spans (spans t).max ts ≡ true → sorted cmp spans ts ≡ true
      → widened cmp spans (range lo (spans t).max) ts ≡ range lo (spans (last_of t ts)).max
  widened_to lo t [] e a q = refl
  widened_to lo t (u ∷ us) e a q =
      let s = and_parts _ _ q in
      let r = and_parts _ _ s.1 in
      let order : is_lt (cmp (spans u).max (spans u).min) ≡ false = not-true _ s.0 in
      let low : is_lt (cmp lo (spans u).min) ≡ true = le_lt laws lo (spans t).max (spans u).min e a in
      let high : is_lt (cmp (spans t).max (spans u).max) ≡ true = lt_le laws (spans t).max (spans u).min (spans u).max a order in
      let here = wider_to lo (spans t).max u (lt_not laws lo (spans u).min low) high in
      ap (λ x. widened cmp spans x us) here
      ∙ widened_to lo u us (lt_not laws lo (spans u).max (lt_le laws lo (spans u).min (spans u).max low order)) r.0 r.1

  pub span_is : (t : T) (ts : List T) → sorted cmp spans (t ∷ ts) ≡ true → widened cmp spans (spans t) ts ≡ range (spans t).min (spans (last_of t ts)).max
  span_is t ts q =
      let s = and_parts _ _ q in
      let r = and_parts _ _ s.1 in
      widened_to (spans t).min t ts (not-true _ s.0) r.0 r.1

  pub sorted_drop : (n : ℕ) (ts : List T) → sorted cmp spans ts ≡ true → sorted cmp spans (drop n ts) ≡ true
  sorted_drop zero ts q = q
  sorted_drop (suc n) [] q = refl
  sorted_drop (suc n) (t ∷ ts) q = sorted_drop n ts (sorted_rest laws spans t ts q)

  apart_take : (k : K) (n : ℕ) (ts : List T) → apart cmp spans k ts ≡ true → apart cmp spans k (take n ts) ≡ true
  apart_take k zero ts q = refl
  apart_take k (suc n) [] q = refl
  apart_take k (suc n) (t ∷ ts) q = q

  pub sorted_take : (n : ℕ) (ts : List T) → sorted cmp spans ts ≡ true → sorted cmp spans (take n ts) ≡ true
  sorted_take zero ts q = refl
  sorted_take (suc n) [] q = refl
  sorted_take (suc n) (t ∷ ts) q =
      let s = and_parts (not (is_lt (cmp (spans t).max (spans t).min))) (apart cmp spans (spans t).max ts && sorted cmp spans ts) q in
      let r = and_parts (apart cmp spans (spans t).max ts) (sorted cmp spans ts) s.1 in
      and_from _ _ s.0 (and_from _ _ (apart_take (spans t).max n ts r.0) (sorted_take n ts r.1))

-- what stands at the end of a list that has t in front
pub last_read : {T : Type 0} (t : T) (ts : List T) (d : T) → get_or (t ∷ ts) (length (t ∷ ts) - 1) d ≡ last_of t ts
last_read t [] d = refl
last_read t (u ∷ us) d = ap (λ n. get_or (t ∷ u ∷ us) n d) (let e : suc (suc (length us)) - 1 ≡ suc (suc (length us) - 1) = omega arith in e) ∙ last_read u us d

module _ {K T : Type 0} {cmp : K → K → Ordering} (laws : Laws cmp) (spans : T → KeyRange K) where
  -- the min of the first range and the max of the last, as they were read, are the span
  pub is_span : (ts : List T) (low high : KeyRange K) (d e : T) → 0 < length ts → sorted cmp spans ts ≡ true
      → low ≡ spans (get_or ts 0 d) → high ≡ spans (get_or ts (length ts - 1) e)
      → ◌≡◌ {A = Option (KeyRange K)} (Some (range low.min high.max)) (span_of cmp spans ts)
  is_span [] low high d e h q p r = absurd (omega arith)
  is_span (t ∷ ts) low high d e h q p r =
      ap (λ u. Some (range u.min high.max)) p
      ∙ ap (λ u. Some (range (spans t).min u.max)) (r ∙ ap spans (last_read t ts e))
      ∙ sym (ap Some (span_is laws spans t ts q))
