-- The order of the sheet: what it says of two tables, pair by pair, and how it passes along.
use Rattle.std.proofs.Common.{◌≡◌, ℕ, ◌<◌, ◌≤◌, Bool, true, false, not, ◌⊎◌, List, Ordering, Greater, sym, ap, ◌∙◌, inl, inr, arith}
use Rattle.std.specs.Ordering.{is_lt, ordering_reverse, ordering_then, nat_cmp}
use Rattle.std.proofs.lemmas.Bool.{both_ways, cases_order, and_cases, and_left, not-false, not_from_true}
use Rattle.keys.specs.KeyKind.{Laws}
use Rattle.keys.specs.KeyRange.{meets}
use Rattle.keys.proofs.Numbers.{number_flip, less_number, same_number}
use Rattle.keys.proofs.Orders.{lt_chain, lt_le, le_lt, lt_not}
use Rattle.runs.specs.declared.table.Table.{Table}
use Rattle.sheets.specs.Level.{Stacked}
use Rattle.sheets.specs.Members.{Every, Pairs}
use Rattle.sheets.specs.Sound.{Proper, Unmet, Ordered, Sound, ahead}
use Rattle.sheets.specs.Tables.{sooner}
use Rattle.sheets.proofs.Each.{pairs_weaker, pairs_zip}

-- an earlier level; or an earlier run; or, in one run, before it in keys
pub data Ahead {K : Type 0} (cmp : K → K → Ordering) (t u : Table K) : Type 0 where
  by_level : t.level < u.level → Ahead cmp t u
  by_run : t.level ≡ u.level → t.run < u.run → Ahead cmp t u
  by_key : t.level ≡ u.level → t.run ≡ u.run → is_lt (cmp t.range.max u.range.min) ≡ true → Ahead cmp t u

-- ---- numbers decide first, then an answer on keys
greater_number : (m n : ℕ) → n < m → nat_cmp m n ≡ Greater
greater_number m n h = number_flip n m ∙ ap ordering_reverse (less_number n m h)

module _ (a b c d : ℕ) (o : Ordering) where
  abbrev decided : Bool
  decided = is_lt (ordering_then (nat_cmp a b) (ordering_then (nat_cmp c d) o))

  lower : a < b → decided ≡ true
  lower h = ap (λ p. is_lt (ordering_then p (ordering_then (nat_cmp c d) o))) (less_number a b h)

  higher : b < a → decided ≡ false
  higher h = ap (λ p. is_lt (ordering_then p (ordering_then (nat_cmp c d) o))) (greater_number a b h)

  one_level : a ≡ b → decided ≡ is_lt (ordering_then (nat_cmp c d) o)
  one_level e = ap (λ p. is_lt (ordering_then p (ordering_then (nat_cmp c d) o))) (same_number a b e)

  earlier : a ≡ b → c < d → decided ≡ true
  earlier e h = one_level e ∙ ap (λ p. is_lt (ordering_then p o)) (less_number c d h)

  further : a ≡ b → d < c → decided ≡ false
  further e h = one_level e ∙ ap (λ p. is_lt (ordering_then p o)) (greater_number c d h)

  one_run : a ≡ b → c ≡ d → decided ≡ is_lt o
  one_run e f = one_level e ∙ ap (λ p. is_lt (ordering_then p o)) (same_number c d f)

-- ---- the test
module _ {K : Type 0} {cmp : K → K → Ordering} where
  pub ahead_from : (t u : Table K) → ahead cmp t u ≡ true → Ahead cmp t u
  ahead_from t u h =
      let o = cmp t.range.max u.range.min in
      elim (cases_order t.level u.level) [
        | inl e ↦ elim (cases_order t.run u.run) [
          | inl f ↦ by_key e f (sym (one_run t.level u.level t.run u.run o e f) ∙ h)
          | inr w ↦ elim w [ inl l ↦ by_run e l | inr l ↦ absurd (both_ways _ (further t.level u.level t.run u.run o e l) h) ]
        ]
        | inr w ↦ elim w [ inl l ↦ by_level l | inr l ↦ absurd (both_ways _ (higher t.level u.level t.run u.run o l) h) ]
      ]

  pub ahead_to : (t u : Table K) → Ahead cmp t u → ahead cmp t u ≡ true
  ahead_to t u (by_level h) = lower t.level u.level t.run u.run (cmp t.range.max u.range.min) h
  ahead_to t u (by_run e h) = earlier t.level u.level t.run u.run (cmp t.range.max u.range.min) e h
  ahead_to t u (by_key e f h) = one_run t.level u.level t.run u.run (cmp t.range.max u.range.min) e f ∙ h

  -- ---- levels and runs alone
  ahead_steps : (t u : Table K) → Ahead cmp t u → (t.level ≤ u.level) × (t.level ≡ u.level → t.run ≤ u.run)
  ahead_steps t u (by_level h) = (omega arith, λ e. absurd (omega arith))
  ahead_steps t u (by_run e h) = (omega arith, λ f. omega arith)
  ahead_steps t u (by_key e f h) = (omega arith, λ g. omega arith)

  pub stacked : {ts : List (Table K)} → Pairs (Ahead cmp) ts → Stacked ts
  stacked ps = pairs_weaker (Ahead cmp) _ (λ t u m n a. ahead_steps t u a) ps

-- ---- with the laws of the keys
module _ {K : Type 0} {cmp : K → K → Ordering} (laws : Laws cmp) where
  pub ahead_chain : (t u v : Table K) → Proper cmp u → Ahead cmp t u → Ahead cmp u v → Ahead cmp t v
  ahead_chain t u v p (by_level h) (by_level k) = by_level (omega arith)
  ahead_chain t u v p (by_level h) (by_run e k) = by_level (omega arith)
  ahead_chain t u v p (by_level h) (by_key e f k) = by_level (omega arith)
  ahead_chain t u v p (by_run e h) (by_level k) = by_level (omega arith)
  ahead_chain t u v p (by_run e h) (by_run f k) = by_run (e ∙ f) (omega arith)
  ahead_chain t u v p (by_run e h) (by_key f g k) = by_run (e ∙ f) (omega arith)
  ahead_chain t u v p (by_key e f h) (by_level k) = by_level (omega arith)
  ahead_chain t u v p (by_key e f h) (by_run g k) = by_run (e ∙ g) (omega arith)
  ahead_chain t u v p (by_key e f h) (by_key g i k) =
      by_key (e ∙ g) (f ∙ i) (lt_chain laws t.range.max u.range.max v.range.min (lt_le laws t.range.max u.range.min u.range.max h p) k)

  pub sooner_yes : (t u : Table K) → Proper cmp t → Ahead cmp t u → sooner cmp t u ≡ true
  sooner_yes t u p (by_level h) = lower t.level u.level t.run u.run (cmp t.range.min u.range.min) h
  sooner_yes t u p (by_run e h) = earlier t.level u.level t.run u.run (cmp t.range.min u.range.min) e h
  sooner_yes t u p (by_key e f h) =
      one_run t.level u.level t.run u.run (cmp t.range.min u.range.min) e f ∙ le_lt laws t.range.min t.range.max u.range.min p h

  pub sooner_no : (t u : Table K) → Proper cmp u → Ahead cmp u t → sooner cmp t u ≡ false
  sooner_no t u p (by_level h) = higher t.level u.level t.run u.run (cmp t.range.min u.range.min) h
  sooner_no t u p (by_run e h) = further t.level u.level t.run u.run (cmp t.range.min u.range.min) (sym e) h
  sooner_no t u p (by_key e f h) =
      one_run t.level u.level t.run u.run (cmp t.range.min u.range.min) (sym e) (sym f)
      ∙ lt_not laws u.range.min t.range.min (le_lt laws u.range.min u.range.max t.range.min p h)

  -- ---- pair by pair: unmet in a run and in order is ahead, and the other way round
  pub unmet_cases : (t u : Table K) → meets cmp t.range u.range ≡ false → (is_lt (cmp t.range.max u.range.min) ≡ true) ⊎ (is_lt (cmp u.range.max t.range.min) ≡ true)
  unmet_cases t u h = elim (and_cases (not (is_lt (cmp t.range.max u.range.min))) (not (is_lt (cmp u.range.max t.range.min))) h) [ inl k ↦ inl (not-false _ k) | inr k ↦ inr (not-false _ k) ]

  ahead_words : (t u : Table K) → Proper cmp u → Unmet cmp t u → sooner cmp u t ≡ false → Ahead cmp t u
  ahead_words t u p f h =
      elim (cases_order t.level u.level) [
        | inl e ↦ elim (cases_order t.run u.run) [
          | inl r ↦ elim (unmet_cases t u (f e r)) [ inl k ↦ by_key e r k | inr k ↦ absurd (both_ways _ h (sooner_yes u t p (by_key (sym e) (sym r) k))) ]
          | inr w ↦ elim w [ inl l ↦ by_run e l | inr l ↦ absurd (both_ways _ h (sooner_yes u t p (by_run (sym e) l))) ]
        ]
        | inr w ↦ elim w [ inl l ↦ by_level l | inr l ↦ absurd (both_ways _ h (sooner_yes u t p (by_level l))) ]
      ]

  unmet_ahead : (t u : Table K) → Ahead cmp t u → Unmet cmp t u
  unmet_ahead t u (by_level h) e f = absurd (omega arith)
  unmet_ahead t u (by_run g h) e f = absurd (omega arith)
  unmet_ahead t u (by_key g i h) e f = and_left (not (is_lt (cmp t.range.max u.range.min))) (not (is_lt (cmp u.range.max t.range.min))) (not_from_true _ h)

  pub ascends : {ts : List (Table K)} → Every (Proper cmp) ts → Pairs (Unmet cmp) ts → Pairs (λ t u. sooner cmp u t ≡ false) ts → Pairs (Ahead cmp) ts
  ascends p a o = pairs_weaker _ (Ahead cmp) (λ t u m n z. ahead_words t u (p u n) z.0 z.1) (pairs_zip _ _ a o)

  pub apart_from : {ts : List (Table K)} → Pairs (Ahead cmp) ts → Pairs (Unmet cmp) ts
  apart_from ps = pairs_weaker (Ahead cmp) (Unmet cmp) (λ t u m n h. unmet_ahead t u h) ps

  pub order_from : {ts : List (Table K)} → Every (Proper cmp) ts → Pairs (Ahead cmp) ts → Pairs (λ t u. sooner cmp u t ≡ false) ts
  order_from p ps = pairs_weaker (Ahead cmp) _ (λ t u m n h. sooner_no u t (p t m) h) ps

  -- a sheet in order ascends
  pub ordered_ascends : {ts : List (Table K)} → Ordered cmp ts → Pairs (Ahead cmp) ts
  ordered_ascends s = ascends s.ranges s.apart s.order

  pub sound_stacked : {room standing blobs : ℕ} {ts : List (Table K)} → Sound cmp room standing blobs ts → Stacked ts
  sound_stacked s = stacked {cmp = cmp} (ordered_ascends s.ordered)
