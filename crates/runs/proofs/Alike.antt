-- Run questions on tables that pair give alike: `S t u` says that a table of one run pairs with one of another, and so do their ranges.
use Rattle.std.proofs.Common.{◌≡◌, ℕ, List, Ok, Ordering, refl, subst}
use Rattle.keys.specs.declared.key_range.KeyRange.{KeyRange}
use Rattle.keys.specs.Pairing.{Both, nil, cons, CompareAlike, TwinRange}
use Rattle.keys.proofs.Alike.{cond_alike, count_alike, kept_alike, lt_alike, meets_alike, inside_alike, wider_alike}
use Rattle.runs.specs.Pairing.{TwinParts, granted, refused, TwinSpans, no_span, a_span}
use Rattle.runs.specs.Run.{apart, sorted, overlapping, contained, widened, span_of}

module _ {A B T U : Type 0} (cmp_a : A → A → Ordering) (cmp_b : B → B → Ordering) (R : A → B → Type 0) (alike : CompareAlike cmp_a cmp_b R) (spansA : T → KeyRange A) (spansB : U → KeyRange B)
    (S : T → U → Type 0) (ranges : (t : T) (u : U) → S t u → TwinRange R (spansA t) (spansB u)) where
  pub apart_alike : {a : A} {b : B} → R a b → {ts : List T} {us : List U} → Both S ts us → apart cmp_a spansA a ts ≡ apart cmp_b spansB b us
  apart_alike r nil = refl
  apart_alike r (cons {x = t} {y = u} s w) = lt_alike cmp_a cmp_b R alike r (ranges t u s).min

  pub sorted_alike : {ts : List T} {us : List U} → Both S ts us → sorted cmp_a spansA ts ≡ sorted cmp_b spansB us
  sorted_alike nil = refl
  sorted_alike (cons {x = t} {y = u} s w) =
      let x = ranges t u s in
      rw (lt_alike cmp_a cmp_b R alike x.max x.min, apart_alike x.max w, sorted_alike w)

  parts : (m n : ℕ) → m ≡ n → {ts : List T} {us : List U} → Both S ts us → TwinParts S (Ok (record { place = m; tables = ts })) (Ok (record { place = n; tables = us }))
  parts m n e {ts} {us} w = subst (λ k. TwinParts S (Ok (record { place = m; tables = ts })) (Ok (record { place = k; tables = us }))) e (granted w)

  pub overlapping_alike : {r : KeyRange A} {s : KeyRange B} → TwinRange R r s → {ts : List T} {us : List U} → Both S ts us → TwinParts S (overlapping cmp_a spansA r ts) (overlapping cmp_b spansB s us)
  overlapping_alike x w =
      cond_alike (TwinParts S) _ _ (sorted_alike w) _ _ _ _
      (parts _ _ (count_alike S _ _ (λ t u v. lt_alike cmp_a cmp_b R alike (ranges t u v).max x.min) w) (kept_alike S _ _ (λ t u v. meets_alike cmp_a cmp_b R alike (ranges t u v) x) w))
      refused

  pub contained_alike : {r : KeyRange A} {s : KeyRange B} → TwinRange R r s → {ts : List T} {us : List U} → Both S ts us → TwinParts S (contained cmp_a spansA r ts) (contained cmp_b spansB s us)
  contained_alike x w =
      cond_alike (TwinParts S) _ _ (sorted_alike w) _ _ _ _
      (parts _ _ (count_alike S _ _ (λ t u v. lt_alike cmp_a cmp_b R alike (ranges t u v).min x.min) w) (kept_alike S _ _ (λ t u v. inside_alike cmp_a cmp_b R alike x (ranges t u v)) w))
      refused

  pub widened_alike : {ts : List T} {us : List U} → Both S ts us → {r : KeyRange A} {s : KeyRange B} → TwinRange R r s → TwinRange R (widened cmp_a spansA r ts) (widened cmp_b spansB s us)
  widened_alike nil x = x
  widened_alike (cons {x = t} {y = u} s w) x = widened_alike w (wider_alike cmp_a cmp_b R alike x (ranges t u s))

  pub span_alike : {ts : List T} {us : List U} → Both S ts us → TwinSpans R (span_of cmp_a spansA ts) (span_of cmp_b spansB us)
  span_alike nil = no_span
  span_alike (cons {x = t} {y = u} s w) = a_span (widened_alike w (ranges t u s))
