-- The levels from n on, one by one: the first that has a table, and whether all are overfull.
use Rattle.std.proofs.Common.{◌≡◌, ℕ, zero, suc, ◌+◌, ◌-◌, ◌<◌, ◌≤◌, Bool, true, false, cond, not, ◌&&◌, ◌||◌, ltb, List, [], ◌∷◌, ◌++◌, Some, None, Option, unwrap_or, sym, refl, ap, ◌∙◌, inl, inr, add-one, arith}
use Rattle.std.specs.List.{range_with_len, list_all, find}
use Rattle.std.specs.Option.{option_map}
use Rattle.std.proofs.lemmas.Bool.{cases_Bool, cases_eq}
use Rattle.levels.specs.declared.settings.Settings.{Settings}
use Rattle.levels.specs.Targets.{target_at}
use Rattle.runs.specs.declared.table.Table.{Table}
use Rattle.sheets.specs.Level.{filled, free_of}
use Rattle.sheets.proofs.Levels.{filled_is}
use Rattle.leveled.specs.declared.holding.Holding.{Holding}
use Rattle.leveled.specs.Leveled.{deeper, first_filled, overfull}
use Rattle.leveled.specs.Holding.{held}

pub levels_from : (n : ℕ) → n < 7 → range_with_len n (7 - n) ≡ n ∷ range_with_len (n + 1) (7 - (n + 1))
levels_from n h = ap (range_with_len n) (let e : 7 - n ≡ suc (7 - (n + 1)) = omega arith in e)

-- levels that pass may be left out
pub all_from : (p : ℕ → Bool) (l : ℕ) → 1 ≤ l → l ≤ 7 → ((k : ℕ) → 1 ≤ k → k < l → p k ≡ true) → list_all p (range_with_len l (7 - l)) ≡ list_all p deeper
all_from p zero h i f = absurd (omega arith)
all_from p (suc zero) h i f = refl
all_from p (suc (suc l)) h i f =
    let passed : p (suc l) ≡ true = f (suc l) (omega arith) (omega arith) in
    let before : list_all p (range_with_len (suc l) (7 - suc l)) ≡ list_all p (range_with_len (suc l + 1) (7 - (suc l + 1))) =
    ap (list_all p) (levels_from (suc l) (omega arith)) ∙ ap (λ b. b && list_all p (range_with_len (suc l + 1) (7 - (suc l + 1)))) passed in
    ap (λ n. list_all p (range_with_len n (7 - n))) (sym (add-one (suc l))) ∙ sym before ∙ all_from p (suc l) (omega arith) (omega arith) (λ k a b. f k a (omega arith))

module _ {K : Type 0} (hs : List ℕ) (ts : List (Table K)) (n : ℕ) (r : Holding) (is : r ≡ held hs ts n) where
  pub filled_test : ltb 0 r.table_count ≡ filled ts n
  filled_test = ap (λ x. ltb 0 x.table_count) is ∙ sym (filled_is n ts)

module _ {K : Type 0} (ts : List (Table K)) where
  -- the first of the levels 1 to 5 that has a table, else 6
  first_or_six : (ns : List ℕ) (o : Option ℕ) → o ≡ find (filled ts) ns → unwrap_or o 6 ≡ first_filled ts (ns ++ 6 ∷ [])
  first_or_six [] o e = ap (λ x. unwrap_or x 6) e ∙ elim (filled ts 6) as (λ b. ◌≡◌ {A = ℕ} 6 (cond b 6 6)) [ true ↦ refl | false ↦ refl ]
  first_or_six (n ∷ ns) o e =
      ap (λ x. unwrap_or x 6) e
      ∙ elim (filled ts n) as (λ b. unwrap_or (cond b (Some n) (find (filled ts) ns)) 6 ≡ cond b n (first_filled ts (ns ++ 6 ∷ []))) [ true ↦ refl | false ↦ first_or_six ns (find (filled ts) ns) refl ]

  pub first_found : (o : Option ℕ) → option_map (λ x. x) o ≡ find (filled ts) (range_with_len 1 5) → unwrap_or o 6 ≡ first_filled ts deeper
  first_found None e = first_or_six (range_with_len 1 5) None e
  first_found (Some n) e = first_or_six (range_with_len 1 5) (Some n) e

  -- below the first that has a table, none has
  empty_from : (a m k : ℕ) → a ≤ k → k < a + m → k < first_filled ts (range_with_len a m) → filled ts k ≡ false
  empty_from a zero k h i j = absurd (omega arith)
  empty_from a (suc m) k h i j =
      elim (cases_Bool (filled ts a)) [
        | inl e ↦ absurd (omega (arith, ap (λ b. cond b a (first_filled ts (range_with_len (a + 1) m))) e))
        | inr e ↦ elim (cases_eq k a) [
          | inl q ↦ ap (filled ts) q ∙ e
          | inr q ↦ empty_from (a + 1) m k (omega arith) (omega arith) (omega (arith, ap (λ b. cond b a (first_filled ts (range_with_len (a + 1) m))) e))
        ]
      ]

  pub empty_below : (l k : ℕ) → l ≡ first_filled ts deeper → l ≤ 7 → 1 ≤ k → k < l → filled ts k ≡ false
  empty_below l k e i h j = empty_from 1 6 k h (omega arith) (omega arith)

-- ---- overfull levels
module _ {K : Type 0} (s : Settings) (ts : List (Table K)) (hs : List ℕ) (l : ℕ) where
  pub overfull_empty : (n : ℕ) → filled ts n ≡ false → overfull s ts hs l n ≡ true
  overfull_empty n e = ap (λ b. not b || ltb (target_at s (n - (l - 1))) (free_of hs ts n)) e

  -- levels below the first have no table, and so are none that is not overfull
  pub all_first : l ≡ first_filled ts deeper → 1 ≤ l → l ≤ 6 → list_all (overfull s ts hs l) (range_with_len l (7 - l)) ≡ list_all (overfull s ts hs l) deeper
  all_first e h i = all_from (overfull s ts hs l) l h (omega arith) (λ k a b. overfull_empty k (empty_below ts l k e (omega arith) a b))
