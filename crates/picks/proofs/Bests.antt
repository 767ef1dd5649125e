-- The best of some windows, by law, and that the definitions find it in the lists of all windows.
use Rattle.std.proofs.Common.{◌≡◌, ℕ, zero, suc, ◌<◌, ◌≤◌, Bool, true, false, cond, ltb, ◌⊎◌, List, [], ◌∷◌, Some, None, Option, sym, refl, ap, ◌∙◌, subst, inl, inr, arith}
use Rattle.std.specs.List.{ContainsAt, AllByRecursion}
use Rattle.std.proofs.ByRecursion.{all-has}
use Rattle.std.proofs.lemmas.Bool.{cases_Bool, both_ways, ltb-true, ltb-false, cases_order}
use Rattle.windows.specs.declared.slice_windows.Window.{Window}
use Rattle.windows.specs.SliceWindows.{growing, shrinking, Within, Shorter, Longer, Ascends, EachOnce}
use Rattle.windows.proofs.WindowLists.{same_window, growing_once, shrinking_once}
use Rattle.picks.specs.Merge.{cheaper, cheapest_of}
use Rattle.picks.specs.Movable.{first_of}

-- w is the best of a region: it passes, what passes costs no less, and what is read before it more
pub record IsBest (ok : Window → Bool) (cost : Window → ℕ) (R : Window → Type 0) (Lt : Window → Window → Type 0) (w : Window) : Type 0 where
  pub here : R w
  pub passes : ok w ≡ true
  pub least : (v : Window) → R v → ok v ≡ true → cost w ≤ cost v
  pub first : (v : Window) → R v → ok v ≡ true → Lt v w → cost w < cost v

-- what a list has is its first or stands behind it
has_cases : (x : Window) (xs : List Window) (v : Window) → ContainsAt (x ∷ xs) v → (x ≡ v) ⊎ ContainsAt xs v
has_cases x xs v (zero, h, e) = inl (e x)
has_cases x xs v (suc k, h, e) = inr (k, omega arith, e)

has_first : (x : Window) (xs : List Window) → ContainsAt (x ∷ xs) x
has_first x xs = (0, omega arith, λ d. refl)

has_later : (x : Window) (xs : List Window) (v : Window) → ContainsAt xs v → ContainsAt (x ∷ xs) v
has_later x xs v (k, h, e) = (suc k, omega arith, e)

module _ (ok : Window → Bool) (cost : Window → ℕ) where
  abbrev pub Best : (Window → Type 0) → (Window → Window → Type 0) → Option Window → Type 0
  Best R Lt None = (v : Window) → R v → ok v ≡ false
  Best R Lt (Some w) = IsBest ok cost R Lt w

  -- what is best in a region is so in an equal one
  pub same_region : (R Q : Window → Type 0) (Lt : Window → Window → Type 0) → ((v : Window) → Q v → R v) → ((v : Window) → R v → Q v) → (o : Option Window) → Best Q Lt o → Best R Lt o
  same_region R Q Lt f g None b = λ v r. b v (g v r)
  same_region R Q Lt f g (Some w) b = record { here = f w b.here; passes = b.passes; least = λ v r e. b.least v (g v r) e; first = λ v r e l. b.first v (g v r) e l }

  -- there is one best
  pub best_unique : (R : Window → Type 0) (Lt : Window → Window → Type 0) → ((v w : Window) → (v ≡ w) ⊎ (Lt v w ⊎ Lt w v)) → (o p : Option Window) → Best R Lt o → Best R Lt p → o ≡ p
  best_unique R Lt total None None a b = refl
  best_unique R Lt total None (Some w) a b = absurd (both_ways _ (a w b.here) b.passes)
  best_unique R Lt total (Some v) None a b = absurd (both_ways _ (b v a.here) a.passes)
  best_unique R Lt total (Some v) (Some w) a b = elim (total v w) [
    | inl e ↦ ap Some e
    | inr d ↦ elim d [
      | inl l ↦ absurd (omega (arith, b.first v a.here a.passes l, a.least w b.here b.passes))
      | inr l ↦ absurd (omega (arith, a.first w b.here b.passes l, b.least v a.here a.passes))
    ]
  ]

  -- a list in the order of reading, from which the definition takes its best
  module _ (Lt : Window → Window → Type 0) (one_way : (v w : Window) → Lt v w → Lt w v → ⊥) where
    module _ (x : Window) (xs : List Window) (ahead : AllByRecursion (Lt x) xs) where
      skip : (o : Option Window) → ok x ≡ false → Best (ContainsAt xs) Lt o → Best (ContainsAt (x ∷ xs)) Lt o
      skip None e b = λ v r. elim (has_cases x xs v r) [ inl q ↦ ap ok (sym q) ∙ e | inr h ↦ b v h ]
      skip (Some y) e b = record {
        here = has_later x xs y b.here;
        passes = b.passes;
        least = λ v r f. elim (has_cases x xs v r) [ inl q ↦ absurd (both_ways _ e (ap ok q ∙ f)) | inr h ↦ b.least v h f ];
        first = λ v r f l. elim (has_cases x xs v r) [ inl q ↦ absurd (both_ways _ e (ap ok q ∙ f)) | inr h ↦ b.first v h f l ];
      }

      -- x costs no more than what passes behind it
      stay : ok x ≡ true → ((v : Window) → ContainsAt xs v → ok v ≡ true → cost x ≤ cost v) → IsBest ok cost (ContainsAt (x ∷ xs)) Lt x
      stay e f = record {
        here = has_first x xs;
        passes = e;
        least = λ v r g. elim (has_cases x xs v r) [ inl q ↦ omega (arith, ap cost q) | inr h ↦ f v h g ];
        first = λ v r g l. absurd (elim (has_cases x xs v r) [
          | inl q ↦ let z = subst (λ (u : Window). Lt u x) (sym q) l in one_way x x z z
          | inr h ↦ one_way x v (all-has (Lt x) xs v ahead h) l
        ]);
      }

      leave : (y : Window) → cost y < cost x → IsBest ok cost (ContainsAt xs) Lt y → IsBest ok cost (ContainsAt (x ∷ xs)) Lt y
      leave y c b = record {
        here = has_later x xs y b.here;
        passes = b.passes;
        least = λ v r f. elim (has_cases x xs v r) [ inl q ↦ omega (arith, ap cost q) | inr h ↦ b.least v h f ];
        first = λ v r f l. elim (has_cases x xs v r) [ inl q ↦ omega (arith, ap cost q) | inr h ↦ b.first v h f l ];
      }

      taken : (o : Option Window) → ok x ≡ true → Best (ContainsAt xs) Lt o → Best (ContainsAt (x ∷ xs)) Lt (cheaper cost (Some x) o)
      unfolding cheaper
      taken None e b = stay e (λ v h f. absurd (both_ways _ (b v h) f))
      taken (Some y) e b = elim (cases_Bool (ltb (cost y) (cost x))) [
        | inl c ↦ rw c (leave y (ltb-true _ _ c) b)
        | inr c ↦ rw c (stay e (λ v h f. omega (arith, ltb-false _ _ c, b.least v h f)))
      ]

      one_more : (o : Option Window) → Best (ContainsAt xs) Lt o → Best (ContainsAt (x ∷ xs)) Lt (cheaper cost (cond (ok x) (Some x) None) o)
      unfolding cheaper
      one_more o b = elim (cases_Bool (ok x)) [ inl e ↦ rw e (taken o e b) | inr e ↦ rw e (skip o e b) ]

    list_best : (xs : List Window) → Ascends Lt xs → Best (ContainsAt xs) Lt (cheapest_of ok cost xs)
    unfolding cheapest_of
    list_best [] a = λ v r. absurd (omega arith)
    list_best (x ∷ xs) a = one_more x xs a.0 (cheapest_of ok cost xs) (list_best xs a.1)

    once_best : (R : Window → Type 0) (xs : List Window) → EachOnce R Lt xs → Best R Lt (cheapest_of ok cost xs)
    once_best R xs o = same_region R (ContainsAt xs) Lt (λ v h. all-has R xs v o.only h) o.every (cheapest_of ok cost xs) (list_best xs o.ascends)

  pub growing_best : (n : ℕ) → Best (Within n) Shorter (cheapest_of ok cost (growing n))
  growing_best n = once_best Shorter (λ v w a b. elim a [ inl p ↦ elim b [ inl q ↦ omega arith | inr q ↦ omega arith ] | inr p ↦ elim b [ inl q ↦ omega arith | inr q ↦ omega arith ] ]) (Within n) (growing n) (growing_once n)

  pub shrinking_best : (n : ℕ) → Best (Within n) Longer (cheapest_of ok cost (shrinking n))
  shrinking_best n = once_best Longer (λ v w a b. elim a [ inl p ↦ elim b [ inl q ↦ omega arith | inr q ↦ omega arith ] | inr p ↦ elim b [ inl q ↦ omega arith | inr q ↦ omega arith ] ]) (Within n) (shrinking n) (shrinking_once n)

-- the first that passes is the cheapest where all cost the same
at_first : (x : Window) (b : Bool) (o : Option Window) → cond b (Some x) o ≡ cheaper (λ (v : Window). 0) (cond b (Some x) None) o
unfolding cheaper
at_first x true None = refl
at_first x true (Some y) = refl
at_first x false o = refl

first_cheapest : (ok : Window → Bool) (xs : List Window) → first_of ok xs ≡ cheapest_of ok (λ v. 0) xs
unfolding first_of cheapest_of
first_cheapest ok [] = refl
first_cheapest ok (x ∷ xs) = ap (cond (ok x) (Some x)) (first_cheapest ok xs) ∙ at_first x (ok x) (cheapest_of ok (λ v. 0) xs)

pub longest_best : (ok : Window → Bool) (n : ℕ) → Best ok (λ v. 0) (Within n) Longer (first_of ok (shrinking n))
longest_best ok n = rw (first_cheapest ok (shrinking n)) (shrinking_best ok (λ v. 0) n)

-- of two windows one is read before the other
pub shorter_total : (v w : Window) → (v ≡ w) ⊎ (Shorter v w ⊎ Shorter w v)
shorter_total v w = elim (cases_order v.len w.len) [
  | inl e ↦ elim (cases_order v.start w.start) [ inl s ↦ inl (same_window v w s e) | inr d ↦ elim d [ inl l ↦ inr (inl (inr (e, l))) | inr l ↦ inr (inr (inr (sym e, l))) ] ]
  | inr d ↦ elim d [ inl l ↦ inr (inl (inl l)) | inr l ↦ inr (inr (inl l)) ]
]

pub longer_total : (v w : Window) → (v ≡ w) ⊎ (Longer v w ⊎ Longer w v)
longer_total v w = elim (shorter_total v w) [
  | inl e ↦ inl e
  | inr d ↦ elim d [
    | inl a ↦ elim a [ inl l ↦ inr (inr (inl l)) | inr s ↦ inr (inl (inr s)) ]
    | inr b ↦ elim b [ inl l ↦ inr (inl (inl l)) | inr s ↦ inr (inr (inr s)) ]
  ]
]
