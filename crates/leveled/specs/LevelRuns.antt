-- A level that is one run: two of its tables do not meet, and its tables are a run.
-- Lemmas for a law that an impl owes, whose term can cite specs/ alone: they are proved, and nothing here has to be believed.
use Rattle.std.specs.Prelude.{◌≡◌, ℕ, zero, suc, ◌≤◌, true, false, not, ◌⊎◌, List, [], ◌∷◌, refl}
use Rattle.std.specs.declared.cmp.Ordering.{Ordering}
use Rattle.std.proofs.Common.{sym, ap, ◌∙◌, inl, inr, arith}
use Rattle.std.specs.Ordering.{is_lt}
use Rattle.std.proofs.lemmas.Bool.{and_from, and_left, and_right, not_from_true, not_from_false, eqb-true, eq-eqb}
use Rattle.keys.specs.KeyKind.{Laws}
use Rattle.keys.specs.KeyRange.{meets}
use Rattle.runs.specs.declared.table.Table.{Table}
use Rattle.runs.specs.Run.{apart, sorted}
use Rattle.sheets.specs.Level.{in_level, level_of, runs}
use Rattle.sheets.specs.Members.{In, here, later, Every, Pairs, none, more}
use Rattle.sheets.specs.Sound.{Differ, Proper, Ordered, tables_ok}
use Rattle.sheets.proofs.Ascends.{Ahead, by_level, by_run, by_key, ordered_ascends}
use Rattle.sheets.proofs.Each.{in_kept, kept_in, kept_pairs, pairs_weaker, pair_in}
use Rattle.sheets.proofs.Levels.{runs_above}
use Rattle.sheets.proofs.Soundness.{sound_from_test}

-- t ends before u begins
abbrev pub Before : {K : Type 0} → (K → K → Ordering) → Table K → Table K → Type 0
Before cmp t u = is_lt (cmp t.range.max u.range.min) ≡ true

module _ {K : Type 0} where
  at_level : (ts : List (Table K)) (n : ℕ) (t : Table K) → In t (level_of n ts) → t.level ≡ n
  at_level ts n t m = eqb-true t.level n (in_kept (in_level n) ts t m).1

  pub in_level_of : {ts : List (Table K)} (n : ℕ) (t : Table K) → In t ts → t.level ≡ n → In t (level_of n ts)
  in_level_of {ts} n t m e = kept_in (in_level n) ts t m (eq-eqb t.level n e)

module _ {K : Type 0} (cmp : K → K → Ordering) where
  ahead_key : {t u : Table K} → Ahead cmp t u → t.level ≡ u.level → t.run ≡ u.run → Before cmp t u
  ahead_key (by_level h) e f = absurd (omega arith)
  ahead_key (by_run g h) e f = absurd (omega arith)
  ahead_key (by_key g i h) e f = h

  before_unmet : (t u : Table K) → Before cmp t u → meets cmp t.range u.range ≡ false
  before_unmet t u h = and_left _ _ (not_from_true _ h)

  behind_unmet : (t u : Table K) → Before cmp u t → meets cmp t.range u.range ≡ false
  behind_unmet t u h = and_right _ _ (not_from_true _ h)

  -- proper tables of which each ends before all behind it begin are a run
  sorted_pairs : {ts : List (Table K)} → Every (Proper cmp) ts → Pairs (Before cmp) ts → sorted cmp (λ t. t.range) ts ≡ true
  sorted_pairs p none = refl
  sorted_pairs p (more {x = t} {xs = ts} h ps) =
      and_from (not (is_lt (cmp t.range.max t.range.min))) _ (not_from_false _ (p t (here refl)))
      (and_from (apart cmp (λ t. t.range) t.range.max ts) _ (first ts h) (sorted_pairs (λ u m. p u (later m)) ps))
    where
      first : (us : List (Table K)) → ((u : Table K) → In u us → Before cmp t u) → apart cmp (λ t. t.range) t.range.max us ≡ true
      first [] f = refl
      first (u ∷ us) f = f u (here refl)

module _ {K : Type 0} {cmp : K → K → Ordering} (laws : Laws cmp) {ts : List (Table K)} (s : Ordered cmp ts) where
  -- a level below level 0 is one run; level 0 is where it has at most one
  run_zero : (n : ℕ) → (n ≡ 0 → runs ts ≤ 1) → (t : Table K) → In t ts → t.level ≡ n → t.run ≡ 0
  run_zero zero one t m e = omega (arith, one refl, runs_above ts t m e)
  run_zero (suc n) one t m e = s.single t m (omega arith)

  -- tables of the level stand in the order of their keys
  pub level_line : (n : ℕ) → (n ≡ 0 → runs ts ≤ 1) → Pairs (Before cmp) (level_of n ts)
  level_line n one =
      pairs_weaker (Ahead cmp) (Before cmp)
      (λ t u m k a.
      ahead_key cmp a (at_level ts n t m ∙ sym (at_level ts n u k))
      (run_zero n one t (in_kept (in_level n) ts t m).0 (at_level ts n t m) ∙ sym (run_zero n one u (in_kept (in_level n) ts u k).0 (at_level ts n u k))))
      (kept_pairs (Ahead cmp) (in_level n) (ordered_ascends laws s))

  -- the level's tables are a run
  pub level_sorted : (n : ℕ) → (n ≡ 0 → runs ts ≤ 1) → sorted cmp (λ t. t.range) (level_of n ts) ≡ true
  level_sorted n one = sorted_pairs cmp (λ t m. s.ranges t (in_kept (in_level n) ts t m).0) (level_line n one)

  -- two of its tables: one, or one before the other
  pub level_sides : (n : ℕ) → (n ≡ 0 → runs ts ≤ 1) → (t u : Table K) → In t ts → In u ts → t.level ≡ n → u.level ≡ n → (t ≡ u) ⊎ (Before cmp t u ⊎ Before cmp u t)
  level_sides n one t u m k e f =
      pair_in (λ x y. Before cmp x y ⊎ Before cmp y x) (λ x y o. elim o [ inl h ↦ inr h | inr h ↦ inl h ])
      (pairs_weaker (Before cmp) _ (λ x y _ _ h. inl h) (level_line n one)) (in_level_of n t m e) (in_level_of n u k f)

  -- two different ones do not meet
  pub level_unmet : (n : ℕ) → (n ≡ 0 → runs ts ≤ 1) → (t u : Table K) → In t ts → In u ts → t.level ≡ n → u.level ≡ n → Differ t u → meets cmp t.range u.range ≡ false
  level_unmet n one t u m k e f d =
      elim (level_sides n one t u m k e f)
      [ inl q ↦ absurd (d (ap (λ (x : Table K). x.number) q)) | inr b ↦ elim b [ inl h ↦ before_unmet cmp t u h | inr h ↦ behind_unmet cmp t u h ] ]

-- on a sheet that passed the test
pub level_tested : {K : Type 0} {cmp : K → K → Ordering} (laws : Laws cmp) (ts : List (Table K)) → tables_ok cmp ts ≡ true → (n : ℕ) → (n ≡ 0 → runs ts ≤ 1) → sorted cmp (λ t. t.range) (level_of n ts) ≡ true
level_tested laws ts h n one = level_sorted laws (sound_from_test laws 0 0 0 ts h).ordered n one
