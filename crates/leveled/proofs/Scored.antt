-- The score of a level, case by case.
use Rattle.std.proofs.Common.{◌≡◌, ℕ, ◌<◌, ◌≤◌, false, cond, ◌&&◌, eqb, leb, List, length, get_or, Some, None, sym, ap, ◌∙◌, inl, inr, arith}
use lib.Ieee.{Float, nan, lt}
use Rattle.std.proofs.lemmas.List.FromFn.{get_or-map-range_with_len}
use Rattle.std.proofs.lemmas.List.Sums.{length-filter, count_by-le-length}
use Rattle.std.proofs.lemmas.Bool.{both_ways, cases_Bool, cases_lt, and_left, cond-true, cond-false, ne_eqb, lt-leb}
use Rattle.levels.specs.declared.settings.Settings.{Settings}
use Rattle.levels.specs.Scores.{double, none, winner, chosen}
use Rattle.runs.specs.declared.table.Table.{Table}
use Rattle.sheets.specs.Level.{size_of, in_level, level_of, count_of, free_of}
use Rattle.sheets.proofs.Levels.{without_less, level_less}
use Rattle.leveled.specs.Leveled.{score_of, scores}
use Rattle.leveled.specs.Laws.{none_below_one, wins_low}

module _ {K : Type 0} (ts : List (Table K)) (n : ℕ) where
  pub count_less : count_of ts n ≤ length ts
  count_less = omega (arith, length-filter (in_level n) ts, count_by-le-length (in_level n) ts)

  pub free_less : (hs : List ℕ) → free_of hs ts n ≤ size_of ts
  free_less hs = omega (arith, without_less hs (level_of n ts), level_less n ts)

module _ {K : Type 0} (s : Settings) (ts : List (Table K)) (hs : List ℕ) (l n : ℕ) where
  score_out : (n ≡ 0 → ⊥) → (leb l n && leb n 5) ≡ false → score_of s ts hs l n ≡ none
  unfolding score_of
  score_out z e = cond-false (eqb n 0) _ _ (ne_eqb n 0 z) ∙ cond-false (leb l n && leb n 5) _ _ e

  pub score_low : (n ≡ 0 → ⊥) → n < l → score_of s ts hs l n ≡ none
  score_low z h = score_out z (and_left (leb l n) (leb n 5) (lt-leb l n h))

-- ---- the level that wins
-- its score is not below 1
chosen_score : (ss : List Float) (n : ℕ) → chosen ss ≡ Some n → lt (get_or ss n nan) (double 1) ≡ false
chosen_score ss n e = at (winner ss 7) e
  where
    at : (w : ℕ) → cond (lt (get_or ss w nan) (double 1)) None (Some w) ≡ Some n → lt (get_or ss n nan) (double 1) ≡ false
    at w q =
        elim (cases_Bool (lt (get_or ss w nan) (double 1))) [
          | inl b ↦ absurd (let r : cond (lt (get_or ss w nan) (double 1)) None (Some w) ≡ None = cond-true _ _ _ b in let y : ◌≡◌ {A = ℕ} 0 1 = cc in omega arith)
          | inr b ↦ let r : cond (lt (get_or ss w nan) (double 1)) None (Some w) ≡ Some w = cond-false _ _ _ b in let y : w ≡ n = cc in ap (λ k. lt (get_or ss k nan) (double 1)) (sym y) ∙ b
        ]

module _ {K : Type 0} (s : Settings) (ts : List (Table K)) (hs : List ℕ) (l n : ℕ) (wins : chosen (scores s ts hs l) ≡ Some n) where
  low : n ≤ 5
  low = wins_low s ts hs l n wins

  -- a level other than 0 wins only from the first level on
  pub wins_between : (n ≡ 0 → ⊥) → (l ≤ n) × (n ≤ 5)
  wins_between z =
      elim (cases_lt n l) [
        | inl h ↦
            let score : get_or (scores s ts hs l) n nan ≡ none = get_or-map-range_with_len (score_of s ts hs l) 0 7 n n nan (omega (arith, low)) (omega arith) ∙ score_low s ts hs l n z h in
            absurd (both_ways _ (chosen_score (scores s ts hs l) n wins) (ap (λ x. lt x (double 1)) score ∙ none_below_one))
        | inr h ↦ (h, low)
      ]
