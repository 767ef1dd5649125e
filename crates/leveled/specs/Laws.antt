-- Leveled keeps the law, and says what it names.
-- Lemmas for a law that an impl owes, whose term can cite specs/ alone: they are proved, and nothing here has to be believed.
use Rattle.std.specs.Prelude.{◌≡◌, ℕ, zero, suc, ◌-◌, ◌≤◌, true, false, cond, not, ◌&&◌, ◌||◌, ◌⊎◌, List, [], ◌∷◌, Some, None, filter, Option, nat_le, nat_lt, slice_index_or, refl, Float}
use Rattle.std.specs.List.{list_any}
use Rattle.std.specs.declared.cmp.Ordering.{Ordering}
use Rattle.std.proofs.Common.{sym, subst, ◌∙◌, inl, inr, arith}
use Rattle.std.proofs.Math.Path.{ap}
use Rattle.std.specs.Float.{nan}
use Rattle.std.specs.Float.Ieee.{of_int, lt, le}
use Rattle.std.proofs.lemmas.Bool.{both_ways, cases_Bool, cases_eq, cond_both, cond-true, cond-false, and_parts, and_cases, and_right, or_cases, or_parts, not-true, eqb-true, eq-eqb, ltb-true}
use Rattle.keys.specs.KeyKind.{Laws}
use Rattle.keys.specs.KeyRange.{meets}
use Rattle.keys.proofs.Orders.{lt_chain, lt_le}
use Rattle.runs.specs.declared.table.Table.{Table}
use Rattle.windows.specs.declared.slice_windows.Window.{Window}
use Rattle.runs.specs.Run.{span_of}
use Rattle.windows.specs.SliceWindows.{tables_of}
use Rattle.levels.specs.declared.settings.Settings.{Settings}
use Rattle.levels.specs.Settings.{in_limits}
use Rattle.levels.specs.Scores as S
use Rattle.picks.specs.declared.pick.Pick.{Pick}
use Rattle.picks.specs.declared.pick.Pick.TheVariants as P
use Rattle.picks.specs.Movable.{meets_span, movable}
use Rattle.picks.specs.PickLaw.{PickLaw}
use Rattle.picks.proofs.Laws.{pick_law}
use Rattle.sheets.specs.Level.{in_level, level_of, filled, touched, runs}
use Rattle.sheets.specs.Members.{In, here, later, Every, Pairs}
use Rattle.sheets.specs.Sound.{Differ, Sound}
use Rattle.sheets.proofs.Each.{in_kept, kept_in, none_some}
use Rattle.strategies.specs.declared.choice.Kind.TheVariants.{Move, Merge}
use Rattle.strategies.specs.Answer.{Chosen, Answer, chooses, naming}
use Rattle.strategies.specs.Strategy.{LawfulAnswer, Told, Law}
use Rattle.leveled.specs.Leveled.{deeper, one_run, first_filled, falls, lowered, first_level, score_of, scores, met, zero_and, sinks, slides, zero_won, moved, covered, merged, picked, pick_for, won, from_first, leveled}
use Rattle.leveled.specs.LevelRuns.{Before, in_level_of, level_line, level_sides, level_unmet}
use Rattle.strategies.specs.NamingLaws.{ToldAnswer, merge_moves, naming_told, naming_lawful}
use Rattle.strategies.specs.NamingParts.{in_named}
use Rattle.leveled.specs.NamingSpans.{Beside, beside_unmet, unmet_beside, apart_beside, inside_ends, inside_begins}
use Rattle.leveled.specs.Stretches.{window_level, window_named, moved_is}
use Rattle.leveled.specs.WindowSides.{window_sides, count_none}

-- ---- which levels can win
winner_below : (ss : List Float) (n : ℕ) → S.winner ss (suc n) ≤ n
unfolding S.winner
winner_below ss zero = cond_both (le (slice_index_or ss 0 nan) (slice_index_or ss 0 nan)) _ _ (λ w. w ≤ 0) (λ e. omega arith) (λ e. omega arith)
winner_below ss (suc n) = let h = winner_below ss n in cond_both (le (slice_index_or ss (S.winner ss (suc n)) nan) (slice_index_or ss (suc n) nan)) _ _ (λ w. w ≤ suc n) (λ e. omega arith) (λ e. omega arith)

pub none_below_one : lt S.none (S.double 1) ≡ true
unfolding lt of_int
none_below_one = refl

-- where level 6 scores 0, it does not win
pub chosen_low : (ss : List Float) → slice_index_or ss 6 nan ≡ S.none → (n : ℕ) → S.chosen ss ≡ Some n → n ≤ 5
chosen_low ss six n e = at (S.winner ss 7) (winner_below ss 6) e
  where
    at : (w : ℕ) → w ≤ 6 → cond (lt (slice_index_or ss w nan) (S.double 1)) None (Some w) ≡ Some n → n ≤ 5
    at w h q =
        elim (cases_eq w 6) [
          | inl z ↦ absurd (let r : cond (lt (slice_index_or ss w nan) (S.double 1)) None (Some w) ≡ None = cond-true _ _ _ (ap (λ i. lt (slice_index_or ss i nan) (S.double 1)) z ∙ ap (λ x. lt x (S.double 1)) six ∙ none_below_one) in let y : ◌≡◌ {A = ℕ} 0 1 = cc in omega arith)
          | inr z ↦ elim (cases_Bool (lt (slice_index_or ss w nan) (S.double 1))) [
            | inl b ↦ absurd (let r : cond (lt (slice_index_or ss w nan) (S.double 1)) None (Some w) ≡ None = cond-true _ _ _ b in let y : ◌≡◌ {A = ℕ} 0 1 = cc in omega arith)
            | inr b ↦ let r : cond (lt (slice_index_or ss w nan) (S.double 1)) None (Some w) ≡ Some w = cond-false _ _ _ b in let y : w ≡ n = cc in omega arith
          ]
        ]

module _ {K : Type 0} (s : Settings) (ts : List (Table K)) (hs : List ℕ) where
  score_six : (l : ℕ) → slice_index_or (scores s ts hs l) 6 nan ≡ S.none
  unfolding score_of
  score_six l = cond-false (nat_le l 6 && false) _ _ (and_right (nat_le l 6) false refl)

  pub wins_low : (l n : ℕ) → S.chosen (scores s ts hs l) ≡ Some n → n ≤ 5
  wins_low l n e = chosen_low (scores s ts hs l) (score_six l) n e

  first_range : (ns : List ℕ) → Every (λ n. (1 ≤ n) × (n ≤ 6)) ns → (1 ≤ first_filled ts ns) × (first_filled ts ns ≤ 6)
  first_range [] f = (omega arith, omega arith)
  first_range (n ∷ ns) f = cond_both (filled ts n) _ _ (λ x. (1 ≤ x) × (x ≤ 6)) (λ e. f n (here refl)) (λ e. first_range ns (λ x m. f x (later m)))

  lowered_range : (l : ℕ) → (1 ≤ l) × (l ≤ 6) → (1 ≤ lowered s ts hs l) × (lowered s ts hs l ≤ 6)
  lowered_range l r = cond_both (falls s ts hs l) _ _ (λ x. (1 ≤ x) × (x ≤ 6)) (λ e. let h = ltb-true 1 l (and_parts (nat_lt 1 l) _ e).0 in (omega arith, omega arith)) (λ e. r)

  one_to_six : Every (λ n. (1 ≤ n) × (n ≤ 6)) deeper
  one_to_six x (here e) = (omega arith, omega arith)
  one_to_six x (later (here e)) = (omega arith, omega arith)
  one_to_six x (later (later (here e))) = (omega arith, omega arith)
  one_to_six x (later (later (later (here e)))) = (omega arith, omega arith)
  one_to_six x (later (later (later (later (here e))))) = (omega arith, omega arith)
  one_to_six x (later (later (later (later (later (here e)))))) = (omega arith, omega arith)
  one_to_six x (later (later (later (later (later (later m)))))) = elim m [ ]

  -- the first level that has a table is 1 to 6, and so is L1
  pub first_filled_range : (1 ≤ first_filled ts deeper) × (first_filled ts deeper ≤ 6)
  first_filled_range = first_range deeper one_to_six

  pub first_level_range : (1 ≤ first_level s ts hs) × (first_level s ts hs ≤ 6)
  first_level_range = lowered_range (first_filled ts deeper) first_filled_range

-- ---- the law
module _ {K : Type 0} {cmp : K → K → Ordering} (laws : Laws cmp) {room standing blobs : ℕ} {ts : List (Table K)} (sound : Sound cmp room standing blobs ts) (s : Settings) (hs : List ℕ) where
  abbrev differ : Pairs Differ ts
  differ = sound.ordered.numbers

  abbrev Fine : Answer → Type 0
  Fine a = LawfulAnswer cmp ts a

  -- tables of level 0 where it is one run
  zero_apart : runs ts ≡ 1 → (t u : Table K) → In t ts → In u ts → t.level ≡ 0 → u.level ≡ 0 → Differ t u → meets cmp t.range u.range ≡ false
  zero_apart one t u m n e f d = level_unmet laws sound.ordered 0 (λ _. omega arith) t u m n e f d

  -- level 0 moves: it is one run, and all of it stands on one side of each table of the destination
  zero_moves : (d : ℕ) → (1 ≤ d) × (d ≤ 6) → runs ts ≡ 1 → ((u : Table K) → In u ts → u.level ≡ d → Beside cmp (λ t. t.range) (level_of 0 ts) u) → Fine (naming Move d 1 s.target_size (in_level 0) ts)
  zero_moves d r one f =
      naming_lawful cmp differ Move d 1 s.target_size (in_level 0) (λ g. r)
      (λ g u m e x. beside_unmet cmp (λ t. t.range) (level_of 0 ts) u (f u m e))
      (λ e t u m n d. let a = in_kept (in_level 0) ts t m in let b = in_kept (in_level 0) ts u n in zero_apart one t u a.0 b.0 (eqb-true _ _ a.1) (eqb-true _ _ b.1) d)

  -- a table of the level that does not meet level 0's span has all of level 0 on one side
  unmet_zero : (l : ℕ) (u : Table K) → u.level ≡ l → met cmp s ts hs l u ≡ false → Beside cmp (λ t. t.range) (level_of 0 ts) u
  unmet_zero l u e h =
      elim (and_cases (in_level l u) _ h) [
        | inl k ↦ absurd (both_ways _ k (eq-eqb u.level l e))
        | inr k ↦ unmet_beside laws (λ t. t.range) (level_of 0 ts) u k
      ]

  met_zero : (l : ℕ) (v : Table K) → met cmp s ts hs l v ≡ true → Beside cmp (λ t. t.range) (level_of 0 ts) v → ⊥
  met_zero l v h b = both_ways _ (beside_unmet cmp (λ t. t.range) (level_of 0 ts) v b) (and_parts (in_level l v) _ h).1

  -- level 0 and all that it meets in the level stand on one side of each other table of that level
  wider_beside : (l : ℕ) → 1 ≤ l → (u : Table K) → In u ts → u.level ≡ l → zero_and cmp s ts hs l u ≡ false → Beside cmp (λ t. t.range) (filter (zero_and cmp s ts hs l) ts) u
  wider_beside l one u mu e h =
      elim (unmet_zero l u e (or_parts (in_level 0 u) _ h).1) [
        | inl f ↦ inl (λ t m. let q = in_kept (zero_and cmp s ts hs l) ts t m in elim (or_cases (in_level 0 t) _ q.1) [
          | inl z ↦ f t (kept_in (in_level 0) ts t q.0 z)
          | inr z ↦ elim (side t q.0 z q.1) [
            | inl b ↦ b
            | inr b ↦ absurd (met_zero l t z (inl (λ x k. lt_chain laws x.range.max u.range.max t.range.min (lt_le laws x.range.max u.range.min u.range.max (f x k) (sound.ordered.ranges u mu)) b)))
          ]
        ])
        | inr f ↦ inr (λ t m. let q = in_kept (zero_and cmp s ts hs l) ts t m in elim (or_cases (in_level 0 t) _ q.1) [
          | inl z ↦ f t (kept_in (in_level 0) ts t q.0 z)
          | inr z ↦ elim (side t q.0 z q.1) [
            | inr b ↦ b
            | inl b ↦ absurd (met_zero l t z (inr (λ x k. lt_chain laws t.range.max u.range.max x.range.min (lt_le laws t.range.max u.range.min u.range.max b (sound.ordered.ranges u mu)) (f x k))))
          ]
        ])
      ]
    where
      side : (t : Table K) → In t ts → met cmp s ts hs l t ≡ true → zero_and cmp s ts hs l t ≡ true → Before cmp t u ⊎ Before cmp u t
      side t m z w =
          elim (level_sides laws sound.ordered l (λ q. absurd (omega arith)) t u m mu (eqb-true t.level l (and_parts (in_level l t) _ z).0) e)
          [ inl q ↦ absurd (both_ways _ h (ap (zero_and cmp s ts hs l) (sym q) ∙ w)) | inr b ↦ b ]

  wider_unmet : (l : ℕ) → 1 ≤ l → (u : Table K) → In u ts → u.level ≡ l → zero_and cmp s ts hs l u ≡ false → meets_span cmp (λ t. t.range) (span_of cmp (λ t. t.range) (filter (zero_and cmp s ts hs l) ts)) u ≡ false
  wider_unmet l one u m e h = beside_unmet cmp (λ t. t.range) (filter (zero_and cmp s ts hs l) ts) u (wider_beside l one u m e h)

  zero_won_lawful : (l : ℕ) → (1 ≤ l) × (l ≤ 6) → Fine (zero_won cmp s ts hs l)
  zero_won_lawful l r =
      cond_both (touched hs ts 0 || touched hs ts l) _ _ Fine (λ e. tt)
      (λ e. cond_both (one_run ts && not (list_any (met cmp s ts hs l) ts)) _ _ Fine
      (λ y.
      let a = and_parts (one_run ts) _ y in
      let one = eqb-true (runs ts) 1 a.0 in
      let unmet = none_some (met cmp s ts hs l) ts (not-true _ a.1) in
      let low : (t : Table K) → In t (filter (zero_and cmp s ts hs l) ts) → t.level ≡ 0 =
      λ t m. let q = in_kept (zero_and cmp s ts hs l) ts t m in elim (or_cases (in_level 0 t) _ q.1) [ inl z ↦ eqb-true _ _ z | inr z ↦ absurd (both_ways _ (unmet t q.0) z) ] in
      let std : (t : Table K) → In t (filter (zero_and cmp s ts hs l) ts) → In t ts = λ t m. (in_kept (zero_and cmp s ts hs l) ts t m).0 in
      naming_lawful cmp differ Move l 1 s.target_size (zero_and cmp s ts hs l) (λ g. r) (λ g. wider_unmet l r.0)
      (λ q t u m n d. zero_apart one t u (std t m) (std u n) (low t m) (low u n) d))
      (λ y. naming_lawful cmp differ Merge l 1 s.target_size (zero_and cmp s ts hs l) (λ g. r) (λ g. wider_unmet l r.0) (λ q. merge_moves _ q)))

  -- a table of the level outside a window has all of the window on one side
  window_beside : (n : ℕ) (w : Window) (u : Table K) → In u ts → u.level ≡ suc n → (In u (tables_of w (level_of (suc n) ts)) → ⊥) → Beside cmp (λ t. t.range) (tables_of w (level_of (suc n) ts)) u
  window_beside n w u m e out = window_sides (Before cmp) w (level_line laws sound.ordered (suc n) (λ q. absurd (omega arith))) u (in_level_of (suc n) u m e) out

  -- no table of the next level meets the span of a movable window
  moved_unmet : (n : ℕ) (w : Window) → movable cmp (λ t. t.range) (λ t. t.number) hs (level_of n ts) (level_of (suc n) ts) w ≡ true → (u : Table K) → In u ts → u.level ≡ suc n
      → meets_span cmp (λ t. t.range) (span_of cmp (λ t. t.range) (filter (moved cmp s ts hs n w) ts)) u ≡ false
  unfolding movable
  moved_unmet n w h u m e =
      ap (λ us. meets_span cmp (λ t. t.range) (span_of cmp (λ t. t.range) us) u) (moved_is cmp s ts hs differ n w)
      ∙ count_none (meets_span cmp (λ t. t.range) (span_of cmp (λ t. t.range) (tables_of w (level_of n ts)))) (level_of (suc n) ts) (eqb-true _ 0 (and_parts _ _ h).1) u (in_level_of (suc n) u m e)

  -- a window with what it contains stands on one side of each other table of its level
  merged_beside : (n : ℕ) (w : Window) (u : Table K) → In u ts → u.level ≡ suc n → merged cmp s ts hs n w u ≡ false → Beside cmp (λ t. t.range) (filter (merged cmp s ts hs n w) ts) u
  merged_beside n w u m e x =
      let win = tables_of w (level_of (suc n) ts) in
      let out : In u win → ⊥ = λ i. both_ways _ (or_parts (covered cmp s ts hs n w u) _ x).1 (in_named win u i) in
      elim (window_beside n w u m e out) [
        | inl f ↦ inl (λ t k. let q = in_kept (merged cmp s ts hs n w) ts t k in elim (or_cases (covered cmp s ts hs n w t) _ q.1) [
          | inl z ↦ inside_ends laws (λ t. t.range) win t u.range.min (and_parts (in_level n t) _ z).1 f
          | inr z ↦ f t (window_named cmp s ts hs differ (suc n) w t q.0 z)
        ])
        | inr f ↦ inr (λ t k. let q = in_kept (merged cmp s ts hs n w) ts t k in elim (or_cases (covered cmp s ts hs n w t) _ q.1) [
          | inl z ↦ inside_begins laws (λ t. t.range) win t u.range.max (and_parts (in_level n t) _ z).1 f
          | inr z ↦ f t (window_named cmp s ts hs differ (suc n) w t q.0 z)
        ])
      ]

  picked_lawful : (l n : ℕ) → 1 ≤ n → n ≤ 5 → (r : Option Pick) → PickLaw cmp (λ t. t.range) (λ t. t.size) (λ t. t.number) hs (level_of n ts) (level_of (suc n) ts) s.target_size r → Fine (picked cmp s ts hs l n r)
  picked_lawful l n low high (Some (P.Move w)) law =
      let at : (t : Table K) → In t (filter (moved cmp s ts hs n w) ts) → t.level ≡ n =
      λ t m. let q = in_kept (moved cmp s ts hs n w) ts t m in window_level cmp s ts hs n w t (window_named cmp s ts hs differ n w t q.0 q.1) in
      naming_lawful cmp differ Move (suc n) (suc n - (l - 1)) s.target_size (moved cmp s ts hs n w) (λ g. (omega arith, omega arith))
      (λ g u m e x. moved_unmet n w law.moves u m e)
      (λ e t u m k d. level_unmet laws sound.ordered n (λ q. absurd (omega arith)) t u (in_kept (moved cmp s ts hs n w) ts t m).0 (in_kept (moved cmp s ts hs n w) ts u k).0 (at t m) (at u k) d)
  picked_lawful l n low high (Some (P.Merge m)) law =
      naming_lawful cmp differ Merge (suc n) (suc n - (l - 1)) s.target_size (merged cmp s ts hs n m.next) (λ g. (omega arith, omega arith))
      (λ g u k e x. beside_unmet cmp (λ t. t.range) (filter (merged cmp s ts hs n m.next) ts) u (merged_beside n m.next u k e x))
      (λ q. merge_moves _ q)
  picked_lawful l n low high None law = tt

  won_lawful : (l : ℕ) → (1 ≤ l) × (l ≤ 6) → (o : Option ℕ) → ((n : ℕ) → o ≡ Some n → n ≤ 5) → Fine (won cmp s ts hs l o)
  won_lawful l r None f = tt
  won_lawful l r (Some zero) f = zero_won_lawful l r
  won_lawful l r (Some (suc n)) f =
      picked_lawful l (suc n) (omega arith) (f (suc n) refl) (pick_for cmp s ts hs (suc n))
      (pick_law cmp (λ t. t.range) (λ t. t.size) (λ t. t.number) hs (level_of (suc n) ts) (level_of (suc (suc n)) ts) s.target_size)

  from_first_lawful : (l : ℕ) → (1 ≤ l) × (l ≤ 6) → Fine (from_first cmp s ts hs l)
  from_first_lawful l r =
      cond_both (slides cmp s ts hs l) _ _ Fine
      (λ y.
      let a = and_parts (one_run ts) _ y in
      let b = and_parts (not (touched hs ts 0 || touched hs ts l)) _ a.1 in
      let c = and_parts (filled ts l) _ b.1 in
      zero_moves l r (eqb-true (runs ts) 1 a.0) (λ u m e. unmet_zero l u e (none_some (met cmp s ts hs l) ts (not-true _ c.1) u m)))
      (λ y. won_lawful l r _ (wins_low s ts hs l))

  all_lawful : Fine (leveled cmp s ts hs)
  all_lawful =
      cond_both (in_limits s) _ _ Fine
      (λ i. cond_both (sinks cmp s ts hs) _ _ Fine
      (λ y.
      let a = and_parts (one_run ts) _ y in
      let b = and_parts (not (list_any (filled ts) (1 ∷ 2 ∷ 3 ∷ 4 ∷ 5 ∷ []))) _ a.1 in
      zero_moves 6 (omega arith, omega arith) (eqb-true (runs ts) 1 a.0) (λ u m e. apart_beside laws (λ t. t.range) (level_of 0 ts) (level_of 6 ts) (not-true _ b.1) u (in_level_of 6 u m e)))
      (λ y. from_first_lawful (first_level s ts hs) (first_level_range s ts hs)))
      (λ i. tt)

pub leveled_lawful : {K : Type 0} {cmp : K → K → Ordering} (laws : Laws cmp) (s : Settings) → Law cmp (λ ts hs. leveled cmp s ts hs)
leveled_lawful laws s room blobs ts hs sound = all_lawful laws sound s hs

-- ---- each choice says what it names
module _ {K : Type 0} (cmp : K → K → Ordering) (s : Settings) {ts : List (Table K)} (hs : List ℕ) (d : Pairs Differ ts) where
  abbrev Says : Answer → Type 0
  Says a = ToldAnswer cmp ts a

  picked_told : (l n : ℕ) (r : Option Pick) → Says (picked cmp s ts hs l n r)
  picked_told l n (Some (P.Move w)) = naming_told cmp d Move (suc n) (suc n - (l - 1)) s.target_size (moved cmp s ts hs n w)
  picked_told l n (Some (P.Merge m)) = naming_told cmp d Merge (suc n) (suc n - (l - 1)) s.target_size (merged cmp s ts hs n m.next)
  picked_told l n None = tt

  won_told : (l : ℕ) (o : Option ℕ) → Says (won cmp s ts hs l o)
  won_told l None = tt
  won_told l (Some zero) =
      cond_both (touched hs ts 0 || touched hs ts l) _ _ Says (λ e. tt)
      (λ e. cond_both (one_run ts && not (list_any (met cmp s ts hs l) ts)) _ _ Says
      (λ y. naming_told cmp d Move l 1 s.target_size (zero_and cmp s ts hs l))
      (λ y. naming_told cmp d Merge l 1 s.target_size (zero_and cmp s ts hs l)))
  won_told l (Some (suc n)) = picked_told l (suc n) (pick_for cmp s ts hs (suc n))

  from_first_told : (l : ℕ) → Says (from_first cmp s ts hs l)
  from_first_told l = cond_both (slides cmp s ts hs l) _ _ Says (λ y. naming_told cmp d Move l 1 s.target_size (in_level 0)) (λ y. won_told l (S.chosen (scores s ts hs l)))

  pub leveled_told : ToldAnswer cmp ts (leveled cmp s ts hs)
  leveled_told =
      cond_both (in_limits s) _ _ Says
      (λ i. cond_both (sinks cmp s ts hs) _ _ Says (λ y. naming_told cmp d Move 6 1 s.target_size (in_level 0)) (λ y. from_first_told (first_level s ts hs)))
      (λ i. tt)

-- the same of a choice it makes
pub chooses_told : {K : Type 0} (cmp : K → K → Ordering) (s : Settings) {ts : List (Table K)} (hs : List ℕ) → Pairs Differ ts → (c : Chosen) → leveled cmp s ts hs ≡ chooses c → Told cmp ts c
chooses_told cmp s {ts} hs d c e = subst (ToldAnswer cmp ts) e (leveled_told cmp s hs d)
