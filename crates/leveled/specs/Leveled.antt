-- Leveled: six steps. `s` are the settings, `ts` the standing tables, `hs` the hidden numbers, `l` is the first level (called L1) and l - 1 the shift.
use Rattle.std.specs.Prelude.{ℕ, zero, suc, ◌-◌, Bool, cond, not, ◌&&◌, ◌||◌, List, [], ◌∷◌, map, Some, None, Option, ◌==◌, nat_le, nat_lt, Float}
use Rattle.std.specs.List.{list_any, list_all}
use Rattle.std.specs.declared.cmp.Ordering.{Ordering}
use Rattle.runs.specs.declared.table.Table.{Table}
use Rattle.windows.specs.declared.slice_windows.Window.{Window}
use Rattle.runs.specs.Run.{span_of}
use Rattle.windows.specs.SliceWindows.{tables_of}
use Rattle.levels.specs.declared.settings.Settings.{Settings}
use Rattle.levels.specs.Settings.{in_limits}
use Rattle.levels.specs.Scores as S
use Rattle.levels.specs.Targets.{target_at}
use Rattle.picks.specs.declared.pick.Pick.{Pick}
use Rattle.picks.specs.declared.pick.Pick.TheVariants as P
use Rattle.picks.specs.Merge.{inside_span}
use Rattle.picks.specs.Movable.{meets_span}
use Rattle.picks.specs.Pick.{pick}
use Rattle.sheets.specs.Level.{numbers_of, in_level, level_of, filled, touched, count_of, free_of, runs}
use Rattle.sheets.specs.Tables.{named}
use Rattle.strategies.specs.declared.choice.Kind.TheVariants.{Move, Merge}
use Rattle.strategies.specs.declared.declined.Declined.TheVariants.{BadSetting}
use Rattle.strategies.specs.Answer.{Answer, nothing, declines, naming}
use Rattle.strategies.specs.Strategy.{spans_meet}

-- the levels below level 0
abbrev pub deeper : List ℕ
deeper = 1 ∷ 2 ∷ 3 ∷ 4 ∷ 5 ∷ 6 ∷ []

module _ {K : Type 0} where
  -- level 0 is one run
  abbrev pub one_run : List (Table K) → Bool
  one_run ts = runs ts == 1

  -- the first of some levels that has a table, else 6
  abbrev pub first_filled : List (Table K) → List ℕ → ℕ
  first_filled ts [] = 6
  first_filled ts (n ∷ ns) = cond (filled ts n) n (first_filled ts ns)

module _ {K : Type 0} (s : Settings) (ts : List (Table K)) (hs : List ℕ) where
  -- a level is empty, or has more free bytes than its target size
  abbrev pub overfull : ℕ → ℕ → Bool
  overfull l n = not (filled ts n) || nat_lt (target_at s (n - (l - 1))) (free_of hs ts n)

  -- 2. the first level falls by 1 if it is not level 1 yet, some level from 1 has a table, and each that has is overfull
  abbrev pub falls : ℕ → Bool
  falls l = nat_lt 1 l && (list_any (filled ts) deeper && list_all (overfull l) deeper)

  -- a first level, fallen by 1 where it falls
  abbrev pub lowered : ℕ → ℕ
  lowered l = cond (falls l) (l - 1) l

  -- L1
  abbrev pub first_level : ℕ
  first_level = lowered (first_filled ts deeper)

  -- 4. level 0 scores by its table count, a level from L1 to 5 by its free bytes, others not at all
  unfoldable pub score_of : ℕ → ℕ → Float
  score_of l n =
      cond (n == 0) (S.first_level_score (count_of ts 0) s.threshold)
      (cond (nat_le l n && nat_le n 5) (S.level_score (free_of hs ts n) (target_at s (n - (l - 1))) (not (filled ts (suc n)))) S.none)

  -- the scores of the seven levels
  abbrev pub scores : ℕ → List Float
  scores l = map (score_of l) (0 ∷ deeper)

module _ {K : Type 0} (cmp : K → K → Ordering) (s : Settings) (ts : List (Table K)) (hs : List ℕ) where
  -- a table of the level that meets level 0's span
  abbrev pub met : ℕ → Table K → Bool
  met n t = in_level n t && meets_span cmp (λ u. u.range) (span_of cmp (λ u. u.range) (level_of 0 ts)) t

  -- level 0, and what meets its span in the level
  abbrev pub zero_and : ℕ → Table K → Bool
  zero_and n t = in_level 0 t || met n t

  -- 1. level 0 is one run, levels 1 to 5 are empty, and level 6's span does not meet level 0's
  abbrev pub sinks : Bool
  sinks =
      one_run ts && (not (list_any (filled ts) (1 ∷ 2 ∷ 3 ∷ 4 ∷ 5 ∷ []))
      && not (spans_meet cmp (span_of cmp (λ u. u.range) (level_of 0 ts)) (span_of cmp (λ u. u.range) (level_of 6 ts))))

  -- 3. level 0 is one run, neither it nor L1 has a hidden table, and L1 has a table and meets level 0's span nowhere
  abbrev pub slides : ℕ → Bool
  slides l = one_run ts && (not (touched hs ts 0 || touched hs ts l) && (filled ts l && not (list_any (met l) ts)))

  -- 5. level 0 won: with what it meets in L1, a move if it is one run and meets nothing, else a merge; nothing if either level has a hidden table
  abbrev pub zero_won : ℕ → Answer
  zero_won l =
      cond (touched hs ts 0 || touched hs ts l) nothing
      (cond (one_run ts && not (list_any (met l) ts)) (naming Move l 1 s.target_size (zero_and l) ts) (naming Merge l 1 s.target_size (zero_and l) ts))

  -- 6. level n won: a table of a window of the level
  abbrev pub moved : ℕ → Window → Table K → Bool
  moved n w t = named (numbers_of (tables_of w (level_of n ts))) t

  -- a table of the level that a window of the next one contains
  abbrev pub covered : ℕ → Window → Table K → Bool
  covered n w t = in_level n t && inside_span cmp (λ u. u.range) (span_of cmp (λ u. u.range) (tables_of w (level_of (suc n) ts))) t

  -- one of these, or of that window
  abbrev pub merged : ℕ → Window → Table K → Bool
  merged n w t = covered n w t || moved (suc n) w t

  -- what was picked, into the next level
  abbrev pub picked : ℕ → ℕ → Option Pick → Answer
  picked l n (Some (P.Move w)) = naming Move (suc n) (suc n - (l - 1)) s.target_size (moved n w) ts
  picked l n (Some (P.Merge m)) = naming Merge (suc n) (suc n - (l - 1)) s.target_size (merged n m.next) ts
  picked l n None = nothing

  -- what is picked for level n and the next
  abbrev pub pick_for : ℕ → Option Pick
  pick_for n = pick cmp (λ t. t.range) (λ t. t.size) (λ t. t.number) hs (level_of n ts) (level_of (suc n) ts) s.target_size

  -- 4. by the level that won
  abbrev pub won : ℕ → Option ℕ → Answer
  won l None = nothing
  won l (Some zero) = zero_won l
  won l (Some (suc n)) = picked l (suc n) (pick_for (suc n))

  -- steps 3 to 6, given L1
  abbrev pub from_first : ℕ → Answer
  from_first l = cond (slides l) (naming Move l 1 s.target_size (in_level 0) ts) (won l (S.chosen (scores s ts hs l)))

  -- all steps; settings outside their limits are refused
  abbrev pub leveled : Answer
  leveled = cond (in_limits s) (cond sinks (naming Move 6 1 s.target_size (in_level 0) ts) (from_first (first_level s ts hs))) (declines BadSetting)
