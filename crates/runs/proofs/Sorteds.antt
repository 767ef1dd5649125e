-- What the definitions of runs give, one table further.
use Rattle.std.proofs.Common.{◌≡◌, ℕ, ◌+◌, ◌-◌, ◌<◌, ◌≤◌, Bool, true, false, not, ◌&&◌, List, [], ◌∷◌, length, get_or, take, drop, count_by, filter, Bor, Ordering, sym, refl, ap, ◌∙◌, inl, inr}
use Rattle.std.proofs.Math.Bool.{and_assoc}
use Rattle.std.proofs.lemmas.List.{drop_more}
use Rattle.std.specs.Ordering.{is_lt}
use Rattle.keys.specs.declared.key_range.KeyRange.{KeyRange}
use Rattle.std.specs.List.{AllByRecursion, IsAllAdjacentAnswer}
use Rattle.std.specs.List.Sorted.{IsPartitionPoint, IsPartitionedBy}
use Rattle.std.specs.Fn.{ComputesKey, Called, Mut}
use Rattle.std.proofs.lemmas.List.Sorted.{IsPartitionPoint-from_clause}
use Rattle.std.proofs.lemmas.Bool.{and_parts, not-true, not-false, cases_Bool, both_ways}
use Rattle.keys.specs.KeyKind.{Laws}
use Rattle.runs.specs.Run.{apart, sorted}
use Rattle.runs.specs.Search.{End, Min, Max, Reach, Before, UpTo, end_of, reaches, passed}
use Rattle.runs.proofs.Falls.{Falls, count_no, kept_between, falls_partitioned, point_is_count}
use Rattle.runs.proofs.Neighbours.{neighbours_are}
use Rattle.keys.proofs.Orders.{lt_chain, lt_le, le_lt}

-- what is left of a list, where x stands at i
pub drop_read : {T : Type 0} (ts : List T) (i : ℕ) (t : T) → i < length ts → t ≡ get_or ts i t → drop i ts ≡ t ∷ drop (i + 1) ts
drop_read ts i t h e = drop_more ts i t h ∙ ap (λ u. u ∷ drop (i + 1) ts) (sym e)

module _ {K T : Type 0} (cmp : K → K → Ordering) (spans : T → KeyRange K) where
  abbrev pub is_range : T → Bool
  is_range t = not (is_lt (cmp (spans t).max (spans t).min))

  abbrev pub precedes : T → T → Bool
  precedes t u = is_lt (cmp (spans t).max (spans u).min)

  -- the first ends before the second begins, and the second's max is not before its min
  abbrev pub leads : T → T → Bool
  leads t u = precedes t u && is_range u

  -- the max of the first table, if any, is not before its min
  abbrev pub begins_well : List T → Bool
  begins_well [] = true
  begins_well (t ∷ ts) = is_range t

  -- what a run asks besides
  abbrev pub follow : List T → Bool
  follow [] = true
  follow (t ∷ ts) = apart cmp spans (spans t).max ts && sorted cmp spans ts

  pub sorted_parts : (ts : List T) → (begins_well ts && follow ts) ≡ sorted cmp spans ts
  sorted_parts [] = refl
  sorted_parts (t ∷ ts) = refl

  pub neighbours_follow : (ts : List T) (b : Bool) → IsAllAdjacentAnswer (λ t u a. a ≡ leads t u) ts b → b ≡ follow ts
  neighbours_follow ts b a =
      neighbours_are leads follow refl (λ t. refl) (λ t u us. sym (and_assoc (precedes t u) (is_range u) (apart cmp spans (spans u).max us && sorted cmp spans us))) ts b a

module _ {K T : Type 0} {cmp : K → K → Ordering} (laws : Laws cmp) (spans : T → KeyRange K) where
  at_end : (key : K) (t : T) → is_lt (cmp key (spans t).min) ≡ true → is_lt (cmp key (spans t).max) ≡ true → (e : End) → is_lt (cmp key (end_of e (spans t))) ≡ true
  at_end key t p q Min = p
  at_end key t p q Max = q

  further : (key top : K) (ts : List T) → is_lt (cmp key top) ≡ true → apart cmp spans top ts ≡ true → apart cmp spans key ts ≡ true
  further key top [] p q = refl
  further key top (t ∷ ts) p q = lt_chain laws key top (spans t).min p q

  -- the same from a key that the top is not before
  under : (key top : K) (ts : List T) → is_lt (cmp top key) ≡ false → apart cmp spans top ts ≡ true → apart cmp spans key ts ≡ true
  under key top [] p q = refl
  under key top (t ∷ ts) p q = le_lt laws key top (spans t).min p q

  -- behind a key that the first table begins after, each end of each table lies after the key
  pub behind : (key : K) (ts : List T) → apart cmp spans key ts ≡ true → sorted cmp spans ts ≡ true → (e : End) → AllByRecursion (λ u. is_lt (cmp key (end_of e (spans u))) ≡ true) ts
  behind key [] p q e = tt
  behind key (t ∷ ts) p q e =
      let s = and_parts _ _ q in
      let r = and_parts _ _ s.1 in
      let low : is_lt (cmp (spans t).max (spans t).min) ≡ false = not-true _ s.0 in
      let here = lt_le laws key (spans t).min (spans t).max p low in
      (at_end key t p here e, behind key ts (further key (spans t).max ts here r.0) r.1 e)

  -- what a key reaches not, it reaches not behind it either
  reach_falls : (r : Reach) (key x y : K) → is_lt (cmp x y) ≡ true → reaches cmp r key x ≡ false → reaches cmp r key y ≡ false
  reach_falls Before key x y l e = elim (cases_Bool (is_lt (cmp y key))) [ inl h ↦ absurd (both_ways _ e (lt_chain laws x y key l h)) | inr h ↦ h ]
  reach_falls UpTo key x y l e = ap not (lt_chain laws key x y (not-false _ e) l)

  none_passed : (e : End) (r : Reach) (key x : K) (ts : List T) → reaches cmp r key x ≡ false → AllByRecursion (λ u. is_lt (cmp x (end_of e (spans u))) ≡ true) ts → count_by (passed cmp spans e r key) ts ≡ 0
  none_passed e r key x [] n a = refl
  none_passed e r key x (t ∷ ts) n a = count_no (passed cmp spans e r key) t ts (reach_falls r key x (end_of e (spans t)) a.0 n) ∙ none_passed e r key x ts n a.1

  -- an end of a table lies before each later table's
  pub end_behind : (t : T) (ts : List T) → sorted cmp spans (t ∷ ts) ≡ true → (e : End) → AllByRecursion (λ u. is_lt (cmp (end_of e (spans t)) (end_of e (spans u))) ≡ true) ts
  end_behind t ts q Max =
      let s = and_parts _ _ q in
      let r = and_parts _ _ s.1 in
      behind (spans t).max ts r.0 r.1 Max
  end_behind t ts q Min =
      let s = and_parts _ _ q in
      let r = and_parts _ _ s.1 in
      behind (spans t).min ts (under (spans t).min (spans t).max ts (not-true _ s.0) r.0) r.1 Min

  pub sorted_rest : (t : T) (ts : List T) → sorted cmp spans (t ∷ ts) ≡ true → sorted cmp spans ts ≡ true
  sorted_rest t ts q =
      let s = and_parts (not (is_lt (cmp (spans t).max (spans t).min))) (apart cmp spans (spans t).max ts && sorted cmp spans ts) q in
      (and_parts (apart cmp spans (spans t).max ts) (sorted cmp spans ts) s.1).1

  pub sorted_falls : (e : End) (r : Reach) (key : K) (ts : List T) → sorted cmp spans ts ≡ true → Falls (passed cmp spans e r key) ts
  sorted_falls e r key [] q = tt
  sorted_falls e r key (t ∷ ts) q =
      (λ n. none_passed e r key (end_of e (spans t)) ts n (end_behind t ts q e), sorted_falls e r key ts (sorted_rest t ts q))

  -- the place that a search with the test finds in a run
  pub counts_passed : (e : End) (r : Reach) (key : K) (ts : List T) → sorted cmp spans ts ≡ true → {F : Type 0} {g : Mut F (Bor T × Unit {0}) Bool} {f : F} (n : ℕ) → n ≤ length ts
      → ((q : T → Bool) → ComputesKey g q f → IsPartitionedBy q ts → IsPartitionPoint (λ t. q t ≡ true) (λ t. q t ≡ false) ts n)
      → ((a : Bor T × Unit {0}) (b : Bool) (f' : F) → Called g f a b f' → (b ≡ passed cmp spans e r key a.0.now) × (f' ≡ f))
      → n ≡ count_by (passed cmp spans e r key) ts
  counts_passed e r key ts q {F} {g} {f} n h clause calls =
      let p = passed cmp spans e r key in
      let falls = sorted_falls e r key ts q in
      point_is_count p ts n falls h (IsPartitionPoint-from_clause p {g = g} ts n clause (falls_partitioned p ts falls) calls)

  -- what was cut out of a run between the tables that passed one key and those that are up to another
  pub cut_between : (e f : End) (low high : K) (ts : List T) → sorted cmp spans ts ≡ true → (place end : ℕ) (us : List T) → us ≡ take (end - place) (drop place ts)
      → place ≡ count_by (passed cmp spans e Before low) ts → end ≡ count_by (passed cmp spans f UpTo high) ts
      → us ≡ filter (λ t. not (passed cmp spans e Before low t) && passed cmp spans f UpTo high t) ts
  cut_between e f low high ts ok place end us is_cut ep eq =
      let p = passed cmp spans e Before low in
      let q = passed cmp spans f UpTo high in
      is_cut ∙ ap (λ n. take (n - place) (drop place ts)) eq ∙ ap (λ n. take (count_by q ts - n) (drop n ts)) ep
      ∙ sym (kept_between p q ts (sorted_falls e Before low ts ok) (sorted_falls f UpTo high ts ok))
