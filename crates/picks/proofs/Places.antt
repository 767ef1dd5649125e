-- What is asked of a window, by places: how far the other run reaches at the window's first and at its last table.
use Rattle.std.proofs.Common.{◌≡◌, ℕ, zero, suc, ◌+◌, ◌-◌, ◌<◌, ◌≤◌, true, false, List, [], ◌∷◌, length, get_or, take, drop, count_by, filter, Ordering, sym, refl, ap, ◌∙◌, inl, inr, arith}
use Rattle.std.specs.Ordering.{is_lt}
use Rattle.std.proofs.lemmas.List.Sums.{count_by-le-length}
use Rattle.std.proofs.lemmas.Bool.{and_parts, cases_Bool, both_ways, not-true, not_from_false}
use Rattle.keys.specs.declared.key_range.KeyRange.{KeyRange}
use Rattle.keys.specs.KeyKind.{Laws}
use Rattle.keys.specs.KeyRange.{meets, inside}
use Rattle.runs.specs.Run.{sorted, span_of}
use Rattle.runs.specs.Search.{End, Min, Max, Reach, Before, UpTo, end_of, reaches, passed}
use Rattle.keys.proofs.Orders.{lt_chain, lt_le}
use Rattle.runs.proofs.Falls.{kept_between}
use Rattle.runs.proofs.Sorteds.{drop_read, end_behind, sorted_rest, sorted_falls}
use Rattle.windows.specs.SliceWindows.{win, tables_of}
use Rattle.picks.specs.Edges.{head_or, place}
use Rattle.picks.specs.Merge.{inside_span, before_span}
use Rattle.picks.specs.Movable.{meets_span}
use Rattle.runs.proofs.Spans.{last_of, range, span_is, sorted_drop, sorted_take}
use Rattle.picks.proofs.Counts.{at_le, count_le, count_between}

module _ {K T : Type 0} {cmp : K → K → Ordering} (laws : Laws cmp) (spans : T → KeyRange K) where
  -- what a search with an end of the range that was read at i has found
  pub place_found : (f e : End) (r : Reach) (us ts : List T) (i : ℕ) (t : T) (range : KeyRange K) (n : ℕ) → i < length ts → t ≡ get_or ts i t → range ≡ spans t → n ≡ count_by (passed cmp spans e r (end_of f range)) us
      → n ≡ place cmp spans f e r us ts i
  unfolding place
  place_found f e r us ts i t range n h q is found =
      found ∙ ap (λ x. count_by (passed cmp spans e r (end_of f x)) us) is
      ∙ sym (ap (head_or (λ t. count_by (passed cmp spans e r (end_of f (spans t))) us) (length us)) (drop_read ts i t h q))

  reach_more : (r : Reach) (k l x : K) → is_lt (cmp k l) ≡ true → reaches cmp r k x ≡ true → reaches cmp r l x ≡ true
  reach_more Before k l x h e = lt_chain laws x k l e h
  reach_more UpTo k l x h e = elim (cases_Bool (is_lt (cmp l x))) [ inl g ↦ absurd (both_ways _ (not-true _ e) (lt_chain laws k l x h g)) | inr g ↦ not_from_false _ g ]

  at_step : (f e : End) (r : Reach) (us ts : List T) → sorted cmp spans ts ≡ true
      → head_or (λ t. count_by (passed cmp spans e r (end_of f (spans t))) us) (length us) ts ≤ head_or (λ t. count_by (passed cmp spans e r (end_of f (spans t))) us) (length us) (drop 1 ts)
  at_step f e r us [] q = omega arith
  at_step f e r us (t ∷ []) q = count_by-le-length (passed cmp spans e r (end_of f (spans t))) us
  at_step f e r us (t ∷ u ∷ ts) q =
      let l = (end_behind laws spans t (u ∷ ts) q f).0 in
      count_le (passed cmp spans e r (end_of f (spans t))) (passed cmp spans e r (end_of f (spans u))) us
      (λ x p. reach_more r (end_of f (spans t)) (end_of f (spans u)) (end_of e (spans x)) l p)

  place_step : (f e : End) (r : Reach) (us ts : List T) (i : ℕ) → sorted cmp spans ts ≡ true → place cmp spans f e r us ts i ≤ place cmp spans f e r us ts (suc i)
  unfolding place
  place_step f e r us ts zero q = at_step f e r us ts q
  place_step f e r us [] (suc i) q = omega arith
  place_step f e r us (t ∷ ts) (suc i) q = place_step f e r us ts i (sorted_rest laws spans t ts q)

  place_add : (f e : End) (r : Reach) (us ts : List T) (i n j : ℕ) → sorted cmp spans ts ≡ true → j ≡ n + i → place cmp spans f e r us ts i ≤ place cmp spans f e r us ts j
  place_add f e r us ts i zero j q h = omega (arith, ap (place cmp spans f e r us ts) (let z : j ≡ i = omega arith in z))
  place_add f e r us ts i (suc n) j q h =
      let k = ap (place cmp spans f e r us ts) (let z : suc (n + i) ≡ j = omega arith in z) in
      omega (arith, place_add f e r us ts i n (n + i) q refl, place_step f e r us ts (n + i) q, k)

  pub place_mono : (f e : End) (r : Reach) (us ts : List T) (i j : ℕ) → sorted cmp spans ts ≡ true → i ≤ j → place cmp spans f e r us ts i ≤ place cmp spans f e r us ts j
  place_mono f e r us ts i j q h = place_add f e r us ts i (j - i) j q (omega arith)

  head_within : (f : T → ℕ) (n : ℕ) (ts : List T) → ((t : T) → f t ≤ n) → head_or f n ts ≤ n
  head_within f n [] h = omega arith
  head_within f n (t ∷ ts) h = h t

  pub place_within : (f e : End) (r : Reach) (us ts : List T) (i : ℕ) → place cmp spans f e r us ts i ≤ length us
  unfolding place
  place_within f e r us ts i = head_within _ (length us) (drop i ts) (λ t. count_by-le-length (passed cmp spans e r (end_of f (spans t))) us)

  -- what lies between two ends, of any sorted run
  module _ (us : List T) (ok : sorted cmp spans us ≡ true) where
    between_meets : (t : T) (ts : List T) → sorted cmp spans (t ∷ ts) ≡ true
        → count_by (meets_span cmp spans (span_of cmp spans (t ∷ ts))) us ≡ count_by (passed cmp spans Min UpTo (spans (last_of t ts)).max) us - count_by (passed cmp spans Max Before (spans t).min) us
    between_meets t ts q =
        ap (λ x. count_by (λ u. meets cmp (spans u) x) us) (span_is laws spans t ts q)
        ∙ count_between (passed cmp spans Max Before (spans t).min) (passed cmp spans Min UpTo (spans (last_of t ts)).max) us
        (sorted_falls laws spans Max Before (spans t).min us ok) (sorted_falls laws spans Min UpTo (spans (last_of t ts)).max us ok)

    between_inside : (t : T) (ts : List T) → sorted cmp spans (t ∷ ts) ≡ true
        → filter (inside_span cmp spans (span_of cmp spans (t ∷ ts))) us ≡ take (count_by (passed cmp spans Max UpTo (spans (last_of t ts)).max) us - count_by (passed cmp spans Min Before (spans t).min) us) (drop (count_by (passed cmp spans Min Before (spans t).min) us) us)
    between_inside t ts q =
        ap (λ x. filter (λ u. inside cmp x (spans u)) us) (span_is laws spans t ts q)
        ∙ kept_between (passed cmp spans Min Before (spans t).min) (passed cmp spans Max UpTo (spans (last_of t ts)).max) us
        (sorted_falls laws spans Min Before (spans t).min us ok) (sorted_falls laws spans Max UpTo (spans (last_of t ts)).max us ok)

    between_before : (t : T) (ts : List T) → sorted cmp spans (t ∷ ts) ≡ true → count_by (before_span cmp spans (span_of cmp spans (t ∷ ts))) us ≡ count_by (passed cmp spans Min Before (spans t).min) us
    between_before t ts q = ap (λ x. count_by (λ u. is_lt (cmp (spans u).min x.min)) us) (span_is laws spans t ts q)

  -- what ends before a table begins also begins before it ends
  before_upto : (t : T) (us : List T) → is_lt (cmp (spans t).max (spans t).min) ≡ false → sorted cmp spans us ≡ true
      → count_by (passed cmp spans Max Before (spans t).min) us ≤ count_by (passed cmp spans Min UpTo (spans t).max) us
  before_upto t [] o q = omega arith
  before_upto t (u ∷ us) o q =
      let s = and_parts _ _ q in
      at_le (passed cmp spans Max Before (spans t).min) (passed cmp spans Min UpTo (spans t).max) u us (passed cmp spans Max Before (spans t).min u) refl
      (λ e. elim (cases_Bool (is_lt (cmp (spans t).max (spans u).min))) [
        | inl l ↦ absurd (both_ways _ (not-true _ s.0) (lt_chain laws (spans u).max (spans t).max (spans u).min (lt_le laws (spans u).max (spans t).min (spans t).max e o) l))
        | inr l ↦ not_from_false _ l
      ])
      (before_upto t us o (sorted_rest laws spans u us q))

  at_before_upto : (us ts : List T) → sorted cmp spans us ≡ true → sorted cmp spans ts ≡ true
      → head_or (λ t. count_by (passed cmp spans Max Before (end_of Min (spans t))) us) (length us) ts ≤ head_or (λ t. count_by (passed cmp spans Min UpTo (end_of Max (spans t))) us) (length us) ts
  at_before_upto us [] q r = omega arith
  at_before_upto us (t ∷ ts) q r = before_upto t us (not-true _ (and_parts _ _ r).0) q

  pub place_before_upto : (us ts : List T) (i : ℕ) → sorted cmp spans us ≡ true → sorted cmp spans ts ≡ true → place cmp spans Min Max Before us ts i ≤ place cmp spans Max Min UpTo us ts i
  unfolding place
  place_before_upto us ts i q r = at_before_upto us (drop i ts) q (sorted_drop laws spans i ts r)

  -- the first and the last table of a window, which stand at s and l
  pub record Ends (ts : List T) (s n l : ℕ) : Type 0 where
    pub first : T
    pub rest : List T
    pub is : tables_of (win s (suc n)) ts ≡ first ∷ rest
    pub at : drop s ts ≡ first ∷ drop (suc s) ts
    pub last : drop l ts ≡ last_of first rest ∷ drop (suc l) ts

  ends_front : (ts : List T) (t : T) (n : ℕ) → n < length (t ∷ ts) → drop n (t ∷ ts) ≡ last_of t (take n ts) ∷ drop (suc n) (t ∷ ts)
  ends_front ts t zero h = refl
  ends_front [] t (suc n) h = absurd (omega arith)
  ends_front (u ∷ ts) t (suc n) h = ends_front ts u n (omega arith)

  ends_of : (ts : List T) (s n l : ℕ) → l ≡ s + n → l < length ts → Ends ts s n l
  ends_of [] s n l e h = absurd (omega arith)
  ends_of (t ∷ ts) zero n l e h =
      let m : n ≡ l = omega arith in
      record { first = t; rest = take n ts; is = refl; at = refl; last = ap (λ k. drop k (t ∷ ts)) (sym m) ∙ ends_front ts t n (omega arith) ∙ ap (λ k. last_of t (take n ts) ∷ drop (suc k) (t ∷ ts)) m }
  ends_of (t ∷ ts) (suc s) n zero e h = absurd (omega arith)
  ends_of (t ∷ ts) (suc s) n (suc l) e h =
      let r = ends_of ts s n l (omega arith) (omega arith) in
      record { first = r.first; rest = r.rest; is = r.is; at = r.at; last = r.last }

  -- a window of ts beside us
  module _ (ts us : List T) (ts_ok : sorted cmp spans ts ≡ true) (us_ok : sorted cmp spans us ≡ true) (s n l : ℕ) (is_last : l ≡ s + n) (within : l < length ts) where
    w_ends : Ends ts s n l
    w_ends = ends_of ts s n l is_last within

    w_sorted : sorted cmp spans (w_ends.first ∷ w_ends.rest) ≡ true
    w_sorted = sym (ap (sorted cmp spans) w_ends.is) ∙ sorted_take laws spans (suc n) (drop s ts) (sorted_drop laws spans s ts ts_ok)

    w_first : (e : End) (r : Reach) → count_by (passed cmp spans e r (spans w_ends.first).min) us ≡ place cmp spans Min e r us ts s
    unfolding place
    w_first e r = sym (ap (head_or (λ t. count_by (passed cmp spans e r (end_of Min (spans t))) us) (length us)) w_ends.at)

    w_last : (e : End) (r : Reach) → count_by (passed cmp spans e r (spans (last_of w_ends.first w_ends.rest)).max) us ≡ place cmp spans Max e r us ts l
    unfolding place
    w_last e r = sym (ap (head_or (λ t. count_by (passed cmp spans e r (end_of Max (spans t))) us) (length us)) w_ends.last)

    pub met_places : count_by (meets_span cmp spans (span_of cmp spans (tables_of (win s (suc n)) ts))) us ≡ place cmp spans Max Min UpTo us ts l - place cmp spans Min Max Before us ts s
    met_places =
        ap (λ x. count_by (meets_span cmp spans (span_of cmp spans x)) us) w_ends.is
        ∙ between_meets us us_ok w_ends.first w_ends.rest w_sorted
        ∙ ap (λ x. x - count_by (passed cmp spans Max Before (spans w_ends.first).min) us) (w_last Min UpTo)
        ∙ ap (λ x. place cmp spans Max Min UpTo us ts l - x) (w_first Max Before)

    pub inside_places : filter (inside_span cmp spans (span_of cmp spans (tables_of (win s (suc n)) ts))) us
        ≡ take (place cmp spans Max Max UpTo us ts l - place cmp spans Min Min Before us ts s) (drop (place cmp spans Min Min Before us ts s) us)
    inside_places =
        ap (λ x. filter (inside_span cmp spans (span_of cmp spans x)) us) w_ends.is
        ∙ between_inside us us_ok w_ends.first w_ends.rest w_sorted
        ∙ ap (λ x. take (x - count_by (passed cmp spans Min Before (spans w_ends.first).min) us) (drop (count_by (passed cmp spans Min Before (spans w_ends.first).min) us) us)) (w_last Max UpTo)
        ∙ ap (λ x. take (place cmp spans Max Max UpTo us ts l - x) (drop x us)) (w_first Min Before)

    pub before_places : count_by (before_span cmp spans (span_of cmp spans (tables_of (win s (suc n)) ts))) us ≡ place cmp spans Min Min Before us ts s
    before_places =
        ap (λ x. count_by (before_span cmp spans (span_of cmp spans x)) us) w_ends.is
        ∙ between_before us us_ok w_ends.first w_ends.rest w_sorted
        ∙ w_first Min Before
