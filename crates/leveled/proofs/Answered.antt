-- Stretches that were named are an answer that names the tables which pass a test.
use Rattle.std.proofs.Common.{◌≡◌, ℕ, suc, ◌+◌, ◌-◌, ◌≤◌, Bool, true, false, not, ◌&&◌, ◌||◌, eqb, List, [], ◌++◌, length, take, drop, Some, None, Ok, filter, Option, Ordering, sym, refl, ap, ◌∙◌, add-one, arith}
use Rattle.std.specs.List.{list_any}
use Rattle.std.proofs.lemmas.List.Filters.{sum_by-filter_both}
use Rattle.std.proofs.lemmas.List.{append-nil, length-append, length-take, length-drop}
use Rattle.std.proofs.lemmas.List.Sums.{sum_by-append, length-filter, count_by-le-length}
use Rattle.std.proofs.lemmas.Bool.{and_left, and_right, and_from, cond-true, cond-false, eq-eqb, ne_eqb}
use Rattle.keys.specs.KeyKind.{Laws}
use Rattle.levels.specs.declared.settings.Settings.{Settings}
use Rattle.runs.specs.declared.table.Table.{Table}
use Rattle.windows.specs.declared.slice_windows.Window.{Window}
use Rattle.runs.specs.Run.{sorted, span_of}
use Rattle.windows.specs.SliceWindows.{tables_of}
use Rattle.picks.specs.declared.merge.Merging.{Merging}
use Rattle.picks.specs.declared.pick.Pick.{Pick}
use Rattle.picks.specs.declared.pick.Pick.TheVariants as P
use Rattle.picks.specs.Merge.{before_span, contained, merging}
use Rattle.picks.specs.Pick.{pick}
use Rattle.picks.specs.PickLaw.{Merges}
use Rattle.picks.proofs.Merges.{stretch_contained}
use Rattle.sheets.specs.Edits.{laid}
use Rattle.sheets.specs.Level.{numbers_of, size_of, level_of, touched, runs}
use Rattle.sheets.specs.Sound.{tables_ok}
use Rattle.strategies.specs.declared.choice.Choice.{Choice}
use Rattle.strategies.specs.declared.choice.Choice.TheVariants as C
use Rattle.strategies.specs.declared.choice.Input.{Input}
use Rattle.strategies.specs.declared.choice.Kind.TheVariants.{Move, Merge}
use Rattle.strategies.specs.Answer.{Answer, nothing, naming, returned, written}
use Rattle.leveled.specs.Leveled.{one_run, met, zero_and, zero_won, moved, merged, picked, pick_for}
use Rattle.leveled.specs.Writing.{going, Gives}
use Rattle.leveled.proofs.Kept.{none_kept}
use Rattle.leveled.specs.Stretches.{stretches_tested}

pub gives_by : {r : Choice} {before after : List ℕ} (a b : Answer) → a ≡ b → Gives a r before after → Gives b r before after
gives_by {before} a b e h = record { returns = h.returns ∙ ap returned e; writes = h.writes ∙ ap (λ x. written x before) e }

pub gives_nothing : (ids : List ℕ) → Gives nothing C.DoNothing ids ids
gives_nothing ids = record { returns = refl; writes = refl }

module _ {K : Type 0} (p : Table K → Bool) (ts us : List (Table K)) (is : filter p ts ≡ us) where
  -- no more than what stands
  pub kept_few : length us ≤ length ts
  kept_few = omega (arith, ap length is, length-filter p ts, count_by-le-length p ts)

  pub kept_light : size_of us ≤ size_of ts
  kept_light = omega (arith, ap size_of is, sum_by-filter_both p (λ t. not (p t)) (λ t. refl) (λ t. t.size) ts)

  module _ (d c z : ℕ) (r : Input) (goes : r ≡ going d c z us) (before after : List ℕ) (lays : after ≡ laid (numbers_of us) before) where
    pub moves : Gives (naming Move d c z p ts) (C.Move r) before after
    moves = record { returns = ap (λ i. Ok (C.Move i)) goes ∙ ap (λ vs. Ok (C.Move (going d c z vs))) (sym is); writes = lays ∙ ap (λ vs. laid (numbers_of vs) before) (sym is) }

    pub merges : Gives (naming Merge d c z p ts) (C.Merge r) before after
    merges = record { returns = ap (λ i. Ok (C.Merge i)) goes ∙ ap (λ vs. Ok (C.Merge (going d c z vs))) (sym is); writes = lays ∙ ap (λ vs. laid (numbers_of vs) before) (sym is) }

-- the two parts of what passes
module _ {K : Type 0} (p : Table K → Bool) (ts xs ys : List (Table K)) (is : filter p ts ≡ xs ++ ys) where
  pub both_few : length xs + length ys ≤ length ts
  both_few = omega (arith, kept_few p ts (xs ++ ys) is, length-append xs ys)

  pub both_light : size_of xs + size_of ys ≤ size_of ts
  both_light = omega (arith, kept_light p ts (xs ++ ys) is, sum_by-append (λ t. t.size) xs ys)

-- ---- level 0 won
module _ {K : Type 0} (cmp : K → K → Ordering) (s : Settings) (ts : List (Table K)) (hs : List ℕ) (l : ℕ) where
  module _ (free : (touched hs ts 0 || touched hs ts l) ≡ false) (us : List (Table K)) (is : us ≡ filter (met cmp s ts hs l) ts) where
    unmet : eqb (length us) 0 ≡ not (list_any (met cmp s ts hs l) ts)
    unmet = ap (λ vs. eqb (length vs) 0) is ∙ none_kept (met cmp s ts hs l) ts

    pub won_move : runs ts ≡ 1 → length us ≡ 0 → naming Move l 1 s.target_size (zero_and cmp s ts hs l) ts ≡ zero_won cmp s ts hs l
    won_move h i =
        sym (cond-true (one_run ts && not (list_any (met cmp s ts hs l) ts)) _ _ (and_from (one_run ts) _ (eq-eqb (runs ts) 1 h) (sym unmet ∙ eq-eqb (length us) 0 i)))
        ∙ sym (cond-false (touched hs ts 0 || touched hs ts l) _ _ free)

    merge : (one_run ts && not (list_any (met cmp s ts hs l) ts)) ≡ false → naming Merge l 1 s.target_size (zero_and cmp s ts hs l) ts ≡ zero_won cmp s ts hs l
    merge h = sym (cond-false (one_run ts && not (list_any (met cmp s ts hs l) ts)) _ _ h) ∙ sym (cond-false (touched hs ts 0 || touched hs ts l) _ _ free)

    pub won_runs : (runs ts ≡ 1 → ⊥) → naming Merge l 1 s.target_size (zero_and cmp s ts hs l) ts ≡ zero_won cmp s ts hs l
    won_runs h = merge (and_left (one_run ts) _ (ne_eqb (runs ts) 1 h))

    pub won_met : (length us ≡ 0 → ⊥) → naming Merge l 1 s.target_size (zero_and cmp s ts hs l) ts ≡ zero_won cmp s ts hs l
    won_met h = merge (and_right (one_run ts) _ (sym unmet ∙ ne_eqb (length us) 0 h))

-- ---- what was picked
module _ {K : Type 0} {cmp : K → K → Ordering} (laws : Laws cmp) (hs : List ℕ) (curr next : List (Table K)) (target : ℕ) (m : Merging)
    (curr_ok : sorted cmp (λ t. t.range) curr ≡ true) (next_ok : sorted cmp (λ t. t.range) next ≡ true) (law : Merges cmp (λ t. t.range) (λ t. t.size) (λ t. t.number) hs curr next target m) where
  abbrev inner : List (Table K)
  inner = contained cmp (λ t. t.range) curr next m.next

  -- the tables that the window contains are the stretch that was picked
  covered_is : tables_of m.curr curr ≡ inner
  unfolding merging
  covered_is =
      ap (λ k. take k (drop m.curr.start curr)) law.count ∙ ap (λ k. take (length inner) (drop k curr)) law.place
      ∙ stretch_contained laws (λ t. t.range) curr next curr_ok next_ok (λ t. t.size) m.next law.window

  pub covered_within : m.curr.start + m.curr.len ≤ length curr
  covered_within =
      let short = length-take m.curr.len (drop m.curr.start curr) in
      let start = count_by-le-length (before_span cmp (λ t. t.range) (span_of cmp (λ t. t.range) (tables_of m.next next))) curr in
      omega (arith, ap length covered_is, short, length-drop m.curr.start curr, law.count, law.place, start)

-- ---- what is named on a tested sheet, stretch by stretch
module _ {K : Type 0} {cmp : K → K → Ordering} (laws : Laws cmp) (s : Settings) (ts : List (Table K)) (hs : List ℕ) (ok : tables_ok cmp ts ≡ true) where
  -- level 0, then what meets it in the level
  pub zero_named : (l : ℕ) → 1 ≤ l → (xs ys : List (Table K)) → xs ≡ level_of 0 ts → ys ≡ filter (met cmp s ts hs l) ts → filter (zero_and cmp s ts hs l) ts ≡ xs ++ ys
  zero_named l h xs ys e f = (stretches_tested laws s ts hs ok).zero l h ∙ ap (λ us. us ++ filter (met cmp s ts hs l) ts) (sym e) ∙ ap (λ us. xs ++ us) (sym f)

  -- a window of the level
  pub window_named : (n : ℕ) (w : Window) (curr xs : List (Table K)) → curr ≡ level_of n ts → xs ≡ tables_of w curr → filter (moved cmp s ts hs n w) ts ≡ xs ++ []
  window_named n w curr xs e f = (stretches_tested laws s ts hs ok).window n w ∙ ap (tables_of w) (sym e) ∙ sym f ∙ sym (append-nil xs)

  -- what a window of the next level contains, then the window
  pub merge_named : (n : ℕ) (m : Merging) (curr next xs ys : List (Table K)) → curr ≡ level_of n ts → next ≡ level_of (n + 1) ts
      → sorted cmp (λ t. t.range) curr ≡ true → sorted cmp (λ t. t.range) next ≡ true → Merges cmp (λ t. t.range) (λ t. t.size) (λ t. t.number) hs curr next s.target_size m
      → xs ≡ tables_of m.curr curr → ys ≡ tables_of m.next next → filter (merged cmp s ts hs n m.next) ts ≡ xs ++ ys
  merge_named n m curr next xs ys e f curr_ok next_ok law i j =
      let h = covered_is laws hs curr next s.target_size m curr_ok next_ok law in
      (stretches_tested laws s ts hs ok).both n m.next
      ∙ ap (λ us. contained cmp (λ t. t.range) us (level_of (suc n) ts) m.next ++ tables_of m.next (level_of (suc n) ts)) (sym e)
      ∙ ap (λ us. contained cmp (λ t. t.range) curr us m.next ++ tables_of m.next us) (ap (λ k. level_of k ts) (sym (add-one n)) ∙ sym f)
      ∙ ap (λ us. us ++ tables_of m.next next) (sym h ∙ sym i)
      ∙ ap (λ us. xs ++ us) (sym j)

-- ---- the pick, by the two levels that were looked at
module _ {K : Type 0} (cmp : K → K → Ordering) (s : Settings) (ts : List (Table K)) (hs : List ℕ) (l n : ℕ)
    (curr next : List (Table K)) (is_curr : curr ≡ level_of n ts) (is_next : next ≡ level_of (n + 1) ts) (r : Option Pick)
    (picks : r ≡ pick cmp (λ t. t.range) (λ t. t.size) (λ t. t.number) hs curr next s.target_size) where
  pick_is : r ≡ pick_for cmp s ts hs n
  pick_is =
      picks ∙ ap (λ us. pick cmp (λ t. t.range) (λ t. t.size) (λ t. t.number) hs us next s.target_size) is_curr
      ∙ ap (λ us. pick cmp (λ t. t.range) (λ t. t.size) (λ t. t.number) hs (level_of n ts) us s.target_size) (is_next ∙ ap (λ k. level_of k ts) (add-one n))

  pub picked_move : (w : Window) → Some (P.Move w) ≡ r → naming Move (n + 1) (n + 1 - (l - 1)) s.target_size (moved cmp s ts hs n w) ts ≡ picked cmp s ts hs l n (pick_for cmp s ts hs n)
  picked_move w e = ap (λ k. naming Move k (k - (l - 1)) s.target_size (moved cmp s ts hs n w) ts) (add-one n) ∙ ap (picked cmp s ts hs l n) (e ∙ pick_is)

  pub picked_merge : (m : Merging) → Some (P.Merge m) ≡ r
      → naming Merge (n + 1) (n + 1 - (l - 1)) s.target_size (merged cmp s ts hs n m.next) ts ≡ picked cmp s ts hs l n (pick_for cmp s ts hs n)
  picked_merge m e = ap (λ k. naming Merge k (k - (l - 1)) s.target_size (merged cmp s ts hs n m.next) ts) (add-one n) ∙ ap (picked cmp s ts hs l n) (e ∙ pick_is)

  pub picked_nothing : None ≡ r → nothing ≡ picked cmp s ts hs l n (pick_for cmp s ts hs n)
  picked_nothing e = ap (picked cmp s ts hs l n) (e ∙ pick_is)
