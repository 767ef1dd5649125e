-- Levels are stretches of a sheet that ascends by level, and what is asked of one is asked of its stretch.
use Rattle.std.proofs.Common.{◌||◌, ◌≡◌, ℕ, zero, suc, ◌+◌, ◌-◌, ◌<◌, ◌≤◌, max, Bool, true, false, cond, not, ◌&&◌, eqb, ltb, List, [], ◌∷◌, length, get_or, take, drop, count_by, filter, sym, refl, ap, ◌∙◌, subst, inl, inr, arith}
use Rattle.std.proofs.lemmas.List.Elements.{filter_more}
use Rattle.std.proofs.lemmas.List.Filters.{sum_by-filter_both}
use Rattle.std.proofs.lemmas.List.{nil_from_length}
use Rattle.std.proofs.lemmas.List.Sums.{sum_by-append}
use Rattle.std.proofs.lemmas.Bool.{cases_Bool, ltb-false, lt-ltb, le-ltb, eqb-true, eqb-false}
use Rattle.std.proofs.lemmas.Bool.Decides.{nat_tests}
use Rattle.runs.specs.declared.table.Table.{Table}
use Rattle.runs.proofs.Falls.{Falls, count_yes, count_no, kept_between}
use Rattle.runs.proofs.Sorteds.{drop_read}
use Rattle.sheets.specs.Level.{size_of, in_level, level_of, count_of, filled, runs, Stacked}
use Rattle.sheets.specs.Members.{In, here, later, Every, Pairs, none, more}
use Rattle.sheets.specs.Sound.{counts_on}
use Rattle.sheets.specs.Tables.{named, unnamed, without}
use Rattle.sheets.proofs.Each.{none_in, in_cases, in_kept, kept_pairs, pairs_weaker}

-- two tests that agree keep the same
pub kept_like : {X : Type 0} (p q : X → Bool) → ((x : X) → p x ≡ q x) → (xs : List X) → filter p xs ≡ filter q xs
kept_like p q f [] = refl
kept_like p q f (x ∷ xs) = rw (f x, kept_like p q f xs)

pub get_or_in : {X : Type 0} (xs : List X) (i : ℕ) (d : X) → i < length xs → In (get_or xs i d) xs
get_or_in [] i d h = absurd (omega arith)
get_or_in (x ∷ xs) zero d h = here refl
get_or_in (x ∷ xs) (suc i) d h = later (get_or_in xs i d (omega arith))

-- not before n, and before the next
between : (n l : ℕ) → (not (ltb l n) && ltb l (n + 1)) ≡ eqb l n
between n l = grind (arith, nat_tests)

module _ {K : Type 0} where
  -- in a level before n
  abbrev before : ℕ → Table K → Bool
  before n t = ltb t.level n

  none_before : (n : ℕ) (ts : List (Table K)) → Every (λ t. n ≤ t.level) ts → count_by (before n) ts ≡ 0
  none_before n [] f = refl
  none_before n (t ∷ ts) f = count_no (before n) t ts (le-ltb t.level n (f t (here refl))) ∙ none_before n ts (λ u m. f u (later m))

  pub stacked_falls : (n : ℕ) {ts : List (Table K)} → Stacked ts → Falls (before n) ts
  stacked_falls n none = tt
  stacked_falls n (more {x = t} {xs = ts} h ps) = (λ e. none_before n ts (λ u m. omega (arith, ltb-false t.level n e, (h u m).0)), stacked_falls n ps)

  pub before_less : (n : ℕ) (ts : List (Table K)) → count_by (before n) ts ≤ count_by (before (n + 1)) ts
  before_less n [] = omega arith
  before_less n (t ∷ ts) =
      let rest = before_less n ts in
      elim (cases_Bool (before n t)) [
        | inl e ↦ let f : before (n + 1) t ≡ true = grind (arith, nat_tests) in omega (arith, count_yes (before n) t ts e, count_yes (before (n + 1)) t ts f)
        | inr e ↦ elim (cases_Bool (before (n + 1) t)) [ inl f ↦ omega (arith, count_no (before n) t ts e, count_yes (before (n + 1)) t ts f) | inr f ↦ omega (arith, count_no (before n) t ts e, count_no (before (n + 1)) t ts f) ]
      ]

  -- the stretch from the end of the levels before to the end of this one
  pub level_between : (n : ℕ) {ts : List (Table K)} → Stacked ts → take (count_by (before (n + 1)) ts - count_by (before n) ts) (drop (count_by (before n) ts) ts) ≡ level_of n ts
  level_between n {ts} s = sym (kept_between (before n) (before (n + 1)) ts (stacked_falls n s) (stacked_falls (n + 1) s)) ∙ kept_like _ (in_level n) (λ t. between n t.level) ts

  -- ---- the runs of level 0
  runs_kept : (ts : List (Table K)) → runs (level_of 0 ts) ≡ runs ts
  runs_kept [] = refl
  runs_kept (t ∷ ts) =
      let rest = runs_kept ts in
      elim (eqb t.level 0) as (λ b. eqb t.level 0 ≡ b → runs (cond b (t ∷ level_of 0 ts) (level_of 0 ts)) ≡ cond b (max (suc t.run) (runs ts)) (runs ts)) [
        | true ↦ λ e. rw (e, rest)
        | false ↦ λ e. rest
      ] refl

  runs_last : (us : List (Table K)) → Every (λ u. in_level 0 u ≡ true) us → Pairs (λ u v. u.run ≤ v.run) us → (d : Table K) → 0 < length us → runs us ≡ suc (get_or us (length us - 1) d).run
  runs_last [] f ps d h = absurd (omega arith)
  runs_last (u ∷ []) f ps d h = let e = f u (here refl) in rw e (omega arith)
  runs_last (u ∷ v ∷ vs) f (more g ps) d h =
      let e = f u (here refl) in
      let k = length (v ∷ vs) - 1 in
      let rest = runs_last (v ∷ vs) (λ w m. f w (later m)) ps d (omega arith) in
      let last : u.run ≤ (get_or (v ∷ vs) k d).run = g (get_or (v ∷ vs) k d) (get_or_in (v ∷ vs) k d (omega arith)) in
      let at : get_or (u ∷ v ∷ vs) (length (u ∷ v ∷ vs) - 1) d ≡ get_or (v ∷ vs) k d = ap (λ j. get_or (u ∷ v ∷ vs) j d) (let q : length (u ∷ v ∷ vs) - 1 ≡ suc k = omega arith in q) in
      ap (λ b. cond b (max (suc u.run) (runs (v ∷ vs))) (runs (v ∷ vs))) e ∙ omega (arith, rest, last) ∙ ap (λ w. suc w.run) (sym at)

  -- the last table of level 0 is of its last run
  pub runs_is : {ts : List (Table K)} → Stacked ts → (us : List (Table K)) → us ≡ level_of 0 ts → (d : Table K) → 0 < length us → runs ts ≡ suc (get_or us (length us - 1) d).run
  runs_is {ts} s us e d h =
      sym (runs_kept ts) ∙ ap runs (sym e)
      ∙ runs_last us (λ u m. (in_kept (in_level 0) ts u (subst (In u) e m)).1)
      (subst (Pairs (λ u v. u.run ≤ v.run)) (sym e) (pairs_weaker _ _ (λ u v m n k. k.1 (one u v m n)) (kept_pairs _ (in_level 0) s))) d h
    where
      one : (u v : Table K) → In u (level_of 0 ts) → In v (level_of 0 ts) → u.level ≡ v.level
      one u v m n = eqb-true u.level 0 (in_kept (in_level 0) ts u m).1 ∙ sym (eqb-true v.level 0 (in_kept (in_level 0) ts v n).1)

  pub runs_none : (ts us : List (Table K)) → us ≡ level_of 0 ts → length us ≡ 0 → runs ts ≡ 0
  runs_none ts us e h = sym (runs_kept ts) ∙ ap runs (sym e ∙ nil_from_length us h)

  -- ---- bytes
  pub without_less : (hs : List ℕ) (ts : List (Table K)) → size_of (without hs ts) ≤ size_of ts
  without_less hs ts = omega (arith, sum_by-filter_both (unnamed hs) (named hs) (λ t. sym (not_not (named hs t))) (λ t. t.size) ts)
    where
      not_not : (b : Bool) → not (not b) ≡ b
      not_not true = refl
      not_not false = refl

  -- one table further
  pub free_more : (hs : List ℕ) (ts : List (Table K)) (i : ℕ) (t : Table K) → i < length ts → t ≡ get_or ts i t → (b : Bool) → named hs t ≡ b
      → size_of (without hs (take (i + 1) ts)) ≡ size_of (without hs (take i ts)) + cond b 0 t.size
  free_more hs ts i t h e b q =
      ap size_of (filter_more (unnamed hs) ts i t h)
      ∙ sum_by-append (λ u. u.size) (without hs (take i ts)) (cond (unnamed hs (get_or ts i t)) (get_or ts i t ∷ []) [])
      ∙ ap (λ u. size_of (without hs (take i ts)) + size_of (cond (unnamed hs u) (u ∷ []) [])) (sym e)
      ∙ ap (λ c. size_of (without hs (take i ts)) + size_of (cond (not c) (t ∷ []) [])) q
      ∙ ap (λ n. size_of (without hs (take i ts)) + n) (one b)
    where
      one : (c : Bool) → size_of (cond (not c) (t ∷ []) []) ≡ cond c 0 t.size
      one true = refl
      one false = omega arith

  -- a level weighs no more than the sheet
  pub level_less : (n : ℕ) (ts : List (Table K)) → size_of (level_of n ts) ≤ size_of ts
  level_less n ts = omega (arith, sum_by-filter_both (in_level n) (λ t. not (in_level n t)) (λ t. refl) (λ t. t.size) ts)

  -- ---- the same of the whole sheet
  pub filled_is : (n : ℕ) (ts : List (Table K)) → filled ts n ≡ ltb 0 (count_of ts n)
  filled_is n [] = refl
  filled_is n (t ∷ ts) =
      let rest = filled_is n ts in
      elim (in_level n t) as (λ b. (b || filled ts n) ≡ ltb 0 (length (cond b (t ∷ level_of n ts) (level_of n ts)))) [ true ↦ sym (lt-ltb 0 (suc (count_of ts n)) (omega arith)) | false ↦ rest ]

-- ---- runs
module _ {K : Type 0} where
  -- a table of level 0 is in one of its runs
  pub runs_above : (ts : List (Table K)) (t : Table K) → In t ts → t.level ≡ 0 → t.run < runs ts
  runs_above [] t m e = absurd (none_in m)
  runs_above (u ∷ us) t m e =
      elim (in_level 0 u) as (λ b. in_level 0 u ≡ b → t.run < cond b (max (suc u.run) (runs us)) (runs us)) [
        | true ↦ λ z. elim (in_cases m) [ inl q ↦ omega (arith, ap (λ (x : Table K). x.run) q) | inr n ↦ omega (arith, runs_above us t n e) ]
        | false ↦ λ z. elim (in_cases m) [ inl q ↦ absurd (eqb-false u.level 0 z (sym (ap (λ (x : Table K). x.level) q) ∙ e)) | inr n ↦ runs_above us t n e ]
      ] refl

-- the runs, one table further
pub counts_at : {K : Type 0} (n : ℕ) (ts : List (Table K)) (i : ℕ) (t : Table K) → i < length ts → t ≡ get_or ts i t
    → counts_on n (drop i ts) ≡ cond (eqb t.level 0) (cond (eqb t.run n) (counts_on (suc n) (drop (i + 1) ts)) (eqb (suc t.run) n && counts_on n (drop (i + 1) ts))) (eqb t.run 0 && counts_on n (drop (i + 1) ts))
counts_at n ts i t h e = ap (counts_on n) (drop_read ts i t h e)
