-- On tables that are equal but for keys that compare alike, leveled answers alike.
use Rattle.std.proofs.Common.{◌≡◌, ℕ, zero, suc, ◌-◌, cond, not, ◌&&◌, ◌||◌, eqb, ltb, List, [], ◌∷◌, Some, None, Option, Ordering, refl, ap, ◌∙◌}
use Rattle.std.specs.List.{list_any}
use Rattle.keys.specs.Pairing.{Both, CompareAlike}
use Rattle.runs.specs.declared.table.Table.{Table}
use Rattle.windows.specs.declared.slice_windows.Window.{Window}
use Rattle.runs.specs.Pairing.{Twin, TwinSpans}
use Rattle.runs.specs.Run.{span_of}
use Rattle.windows.specs.SliceWindows.{tables_of}
use Rattle.runs.proofs.Alike.{span_alike}
use Rattle.levels.specs.declared.settings.Settings.{Settings}
use Rattle.levels.specs.Settings.{in_limits}
use Rattle.levels.specs.Scores as S
use Rattle.levels.specs.Targets.{target_at}
use Rattle.picks.specs.declared.pick.Pick.{Pick}
use Rattle.picks.specs.declared.pick.Pick.TheVariants as P
use Rattle.picks.proofs.Alike.{meets_span_alike, inside_span_alike, tables_alike, window_span, pick_alike}
use Rattle.sheets.specs.Level.{numbers_of, level_of, filled, touched}
use Rattle.sheets.specs.Tables.{memb}
use Rattle.sheets.proofs.AlikeLevels.{some_alike, numbers_alike, in_level_alike, level_alike, count_of_alike, filled_alike, touched_alike, free_alike, runs_alike}
use Rattle.sheets.proofs.Each.{some_same, all_same}
use Rattle.strategies.specs.declared.choice.Kind.TheVariants.{Move, Merge}
use Rattle.strategies.specs.declared.declined.Declined.TheVariants.{BadSetting}
use Rattle.strategies.specs.Answer.{declines}
use Rattle.leveled.specs.Leveled.{deeper, one_run, first_filled, overfull, falls, lowered, first_level, score_of, scores, met, zero_and, sinks, slides, zero_won, moved, covered, merged, picked, pick_for, won, from_first, leveled}
use Rattle.strategies.proofs.NamingAlike.{cond_same, and_same, or_same, map_like, TestsAlike, naming_alike, spans_meet_alike}

-- ---- levels and scores
module _ {A B : Type 0} (R : A → B → Type 0) {ts : List (Table A)} {us : List (Table B)} (w : Both (Twin R) ts us) where
  pub one_run_alike : one_run ts ≡ one_run us
  one_run_alike = ap (λ n. eqb n 1) (runs_alike R w)

  pub first_filled_alike : (ns : List ℕ) → first_filled ts ns ≡ first_filled us ns
  first_filled_alike [] = refl
  first_filled_alike (n ∷ ns) = cond_same (filled_alike R n w) refl (first_filled_alike ns)

  module _ (s : Settings) (hs : List ℕ) where
    pub overfull_alike : (l n : ℕ) → overfull s ts hs l n ≡ overfull s us hs l n
    overfull_alike l n = or_same (ap not (filled_alike R n w)) (ap (ltb (target_at s (n - (l - 1)))) (free_alike R hs n w))

    pub falls_alike : (l : ℕ) → falls s ts hs l ≡ falls s us hs l
    falls_alike l = ap (λ b. ltb 1 l && b) (and_same (some_same (filled ts) (filled us) (λ n. filled_alike R n w) deeper) (all_same (overfull s ts hs l) (overfull s us hs l) (overfull_alike l) deeper))

    pub lowered_alike : (l : ℕ) → lowered s ts hs l ≡ lowered s us hs l
    lowered_alike l = cond_same (falls_alike l) refl refl

    pub first_level_alike : first_level s ts hs ≡ first_level s us hs
    first_level_alike = ap (lowered s ts hs) (first_filled_alike deeper) ∙ lowered_alike (first_filled us deeper)

    pub score_alike : (l n : ℕ) → score_of s ts hs l n ≡ score_of s us hs l n
    unfolding score_of
    score_alike l n = rw (count_of_alike R 0 w, free_alike R hs n w, filled_alike R (suc n) w)

    pub scores_alike : (l : ℕ) → scores s ts hs l ≡ scores s us hs l
    scores_alike l = map_like (score_of s ts hs l) (score_of s us hs l) (score_alike l) (0 ∷ deeper)

-- ---- what is named
module _ {A B : Type 0} (cmp_a : A → A → Ordering) (cmp_b : B → B → Ordering) (R : A → B → Type 0) (alike : CompareAlike cmp_a cmp_b R) (s : Settings) (hs : List ℕ) {ts : List (Table A)} {us : List (Table B)} (w : Both (Twin R) ts us) where
  level_span : (n : ℕ) → TwinSpans R (span_of cmp_a (λ t. t.range) (level_of n ts)) (span_of cmp_b (λ u. u.range) (level_of n us))
  level_span n = span_alike cmp_a cmp_b R alike (λ t. t.range) (λ u. u.range) (Twin R) (λ t u v. v.range) (level_alike R n w)

  pub met_alike : (n : ℕ) → TestsAlike R (met cmp_a s ts hs n) (met cmp_b s us hs n)
  met_alike n t u v = and_same (in_level_alike R n t u v) (meets_span_alike cmp_a cmp_b R alike (λ t. t.range) (λ u. u.range) (Twin R) (λ t u v. v.range) (level_span 0) t u v)

  pub zero_and_alike : (n : ℕ) → TestsAlike R (zero_and cmp_a s ts hs n) (zero_and cmp_b s us hs n)
  zero_and_alike n t u v = or_same (in_level_alike R 0 t u v) (met_alike n t u v)

  pub sinks_alike : sinks cmp_a s ts hs ≡ sinks cmp_b s us hs
  sinks_alike =
      and_same (one_run_alike R w)
      (and_same (ap not (some_same (filled ts) (filled us) (λ n. filled_alike R n w) (1 ∷ 2 ∷ 3 ∷ 4 ∷ 5 ∷ []))) (ap not (spans_meet_alike cmp_a cmp_b R alike (level_span 0) (level_span 6))))

  none_met_alike : (l : ℕ) → not (list_any (met cmp_a s ts hs l) ts) ≡ not (list_any (met cmp_b s us hs l) us)
  none_met_alike l = ap not (some_alike (Twin R) (met cmp_a s ts hs l) (met cmp_b s us hs l) (met_alike l) w)

  hides_alike : (l : ℕ) → (touched hs ts 0 || touched hs ts l) ≡ (touched hs us 0 || touched hs us l)
  hides_alike l = or_same (touched_alike R hs 0 w) (touched_alike R hs l w)

  pub slides_alike : (l : ℕ) → slides cmp_a s ts hs l ≡ slides cmp_b s us hs l
  slides_alike l = and_same (one_run_alike R w) (and_same (ap not (hides_alike l)) (and_same (filled_alike R l w) (none_met_alike l)))

  pub zero_won_alike : (l : ℕ) → zero_won cmp_a s ts hs l ≡ zero_won cmp_b s us hs l
  zero_won_alike l =
      cond_same (hides_alike l) refl
      (cond_same (and_same (one_run_alike R w) (none_met_alike l)) (naming_alike R Move l 1 s.target_size _ _ (zero_and_alike l) w) (naming_alike R Merge l 1 s.target_size _ _ (zero_and_alike l) w))

  pub moved_alike : (n : ℕ) (x : Window) → TestsAlike R (moved cmp_a s ts hs n x) (moved cmp_b s us hs n x)
  moved_alike n x t u v =
      ap (λ k. memb k (numbers_of (tables_of x (level_of n ts)))) v.number
      ∙ ap (memb u.number) (numbers_alike R (tables_alike cmp_a cmp_b R alike (λ t. t.range) (λ u. u.range) (Twin R) (λ t u v. v.range) x (level_alike R n w)))

  pub covered_alike : (n : ℕ) (x : Window) → TestsAlike R (covered cmp_a s ts hs n x) (covered cmp_b s us hs n x)
  covered_alike n x t u v =
      and_same (in_level_alike R n t u v)
      (inside_span_alike cmp_a cmp_b R alike (λ t. t.range) (λ u. u.range) (Twin R) (λ t u v. v.range) (window_span cmp_a cmp_b R alike (λ t. t.range) (λ u. u.range) (Twin R) (λ t u v. v.range) x (level_alike R (suc n) w)) t u v)

  pub merged_alike : (n : ℕ) (x : Window) → TestsAlike R (merged cmp_a s ts hs n x) (merged cmp_b s us hs n x)
  merged_alike n x t u v = or_same (covered_alike n x t u v) (moved_alike (suc n) x t u v)

  -- ---- the answers
  pub picked_alike : (l n : ℕ) (r : Option Pick) → picked cmp_a s ts hs l n r ≡ picked cmp_b s us hs l n r
  picked_alike l n (Some (P.Move x)) = naming_alike R Move (suc n) (suc n - (l - 1)) s.target_size _ _ (moved_alike n x) w
  picked_alike l n (Some (P.Merge m)) = naming_alike R Merge (suc n) (suc n - (l - 1)) s.target_size _ _ (merged_alike n m.next) w
  picked_alike l n None = refl

  pub pick_for_alike : (n : ℕ) → pick_for cmp_a s ts hs n ≡ pick_for cmp_b s us hs n
  pick_for_alike n =
      pick_alike cmp_a cmp_b R alike (λ t. t.range) (λ u. u.range) (Twin R) (λ t u v. v.range) (level_alike R n w) (level_alike R (suc n) w)
      (λ t. t.size) (λ u. u.size) (λ t u v. v.size) (λ t. t.number) (λ u. u.number) (λ t u v. v.number) hs s.target_size

  pub won_alike : (l : ℕ) (o : Option ℕ) → won cmp_a s ts hs l o ≡ won cmp_b s us hs l o
  won_alike l None = refl
  won_alike l (Some zero) = zero_won_alike l
  won_alike l (Some (suc n)) = ap (picked cmp_a s ts hs l (suc n)) (pick_for_alike (suc n)) ∙ picked_alike l (suc n) (pick_for cmp_b s us hs (suc n))

  pub from_first_alike : (l : ℕ) → from_first cmp_a s ts hs l ≡ from_first cmp_b s us hs l
  from_first_alike l =
      cond_same (slides_alike l) (naming_alike R Move l 1 s.target_size _ _ (in_level_alike R 0) w)
      (ap (λ ss. won cmp_a s ts hs l (S.chosen ss)) (scores_alike R w s hs l) ∙ won_alike l (S.chosen (scores s us hs l)))

  pub leveled_alike : leveled cmp_a s ts hs ≡ leveled cmp_b s us hs
  leveled_alike =
      ap (λ a. cond (in_limits s) a (declines BadSetting))
      (cond_same sinks_alike (naming_alike R Move 6 1 s.target_size _ _ (in_level_alike R 0) w)
      (ap (from_first cmp_a s ts hs) (first_level_alike R w s hs) ∙ from_first_alike (first_level s us hs)))
