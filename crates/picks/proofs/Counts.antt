-- Counts and sums over fronts of a run, and over what lies between two places.
use Rattle.std.proofs.Common.{◌≡◌, ℕ, ◌+◌, ◌-◌, ◌≤◌, Bool, true, false, cond, not, ◌&&◌, List, [], ◌∷◌, map, length, take, drop, sum_by, count_by, sym, refl, ap, ◌∙◌, inl, inr, arith}
use Rattle.std.proofs.lemmas.List.{take-take, take-map, length-take, length-drop}
use Rattle.std.proofs.lemmas.List.Sums.{sum_by-cons, count_by-le-length, length-filter}
use Rattle.std.proofs.lemmas.Bool.{cases_lt, cases_Bool}
use Rattle.sheets.specs.Tables.{memb}
use Rattle.picks.specs.Marks.{hidden_among, Marked}
use Rattle.runs.proofs.Falls.{Falls, count_yes, count_no, kept_between}
use Rattle.windows.proofs.WindowSums.{sum_more}

module _ {T : Type 0} (f : T → ℕ) (ts : List T) where
  pub sum_window : (s len : ℕ) → sum_by f (take len (drop s ts)) ≡ sum_by f (take (s + len) ts) - sum_by f (take s ts)
  sum_window s len = omega (arith, sum_more f ts s len)

  pub sum_mono : (a b : ℕ) → a ≤ b → sum_by f (take a ts) ≤ sum_by f (take b ts)
  sum_mono a b h =
      let e = ap (λ k. sum_by f (take k ts)) (let q : a + (b - a) ≡ b = omega arith in q) in
      omega (arith, sum_more f ts a (b - a), e)

  pub sum_between : (a b : ℕ) → sum_by f (take (b - a) (drop a ts)) ≡ sum_by f (take b ts) - sum_by f (take a ts)
  sum_between a b = elim (cases_lt a b) [
    | inl h ↦ sum_window a (b - a) ∙ ap (λ k. sum_by f (take k ts) - sum_by f (take a ts)) (let q : a + (b - a) ≡ b = omega arith in q)
    | inr h ↦
        let z = ap (λ k. sum_by f (take k (drop a ts))) (let q : b - a ≡ 0 = omega arith in q) in
        omega (arith, z, sum_mono b a h)
  ]

  -- what stands before a place, and what lies from there to another
  pub sum_reach : (a b s part : ℕ) → a ≤ b → s ≡ sum_by f (take a ts) → part ≡ sum_by f (take (b - a) (drop a ts)) → s + part ≡ sum_by f (take b ts)
  sum_reach a b s part h e p = omega (arith, sum_between a b, sum_mono a b h)

module _ {T : Type 0} where
  pub at_le : (p q : T → Bool) (t : T) (ts : List T) (b : Bool) → p t ≡ b → (p t ≡ true → q t ≡ true) → count_by p ts ≤ count_by q ts → count_by p (t ∷ ts) ≤ count_by q (t ∷ ts)
  at_le p q t ts true e f h = omega (arith, count_yes p t ts e, count_yes q t ts (f e))
  at_le p q t ts false e f h = elim (cases_Bool (q t)) [
    | inl g ↦ omega (arith, count_no p t ts e, count_yes q t ts g)
    | inr g ↦ omega (arith, count_no p t ts e, count_no q t ts g)
  ]

  pub count_le : (p q : T → Bool) (ts : List T) → ((t : T) → p t ≡ true → q t ≡ true) → count_by p ts ≤ count_by q ts
  count_le p q [] f = omega arith
  count_le p q (t ∷ ts) f = at_le p q t ts (p t) refl (f t) (count_le p q ts f)

  pub count_between : (p q : T → Bool) (ts : List T) → Falls p ts → Falls q ts → count_by (λ x. not (p x) && q x) ts ≡ count_by q ts - count_by p ts
  count_between p q ts fp fq =
      let e = length-filter (λ x. not (p x) && q x) ts in
      let k = ap length (kept_between p q ts fp fq) in
      let l = length-take (count_by q ts - count_by p ts) (drop (count_by p ts) ts) in
      omega (arith, e, k, l, length-drop (count_by p ts) ts, count_by-le-length q ts, count_by-le-length p ts)

-- the marks of the first k tables count the hidden ones among them
count_map : {T : Type 0} (f : T → Bool) (ts : List T) → count_by (λ m. m) (map f ts) ≡ count_by f ts
count_map f [] = refl
count_map f (t ∷ ts) = sum_by-cons (λ m. cond m 1 0) (f t) (map f ts) ∙ ap (λ n. cond (f t) 1 0 + n) (count_map f ts) ∙ sym (sum_by-cons (λ u. cond (f u) 1 0) t ts)

-- how many of the first k marks are set
abbrev pub marked_at : List Bool → ℕ → ℕ
marked_at marks k = count_by (λ m. m) (take k marks)

pub marked_mono : (marks : List Bool) (i j : ℕ) → i ≤ j → marked_at marks i ≤ marked_at marks j
marked_mono marks i j h = sum_mono (λ m. cond m 1 0) marks i j h

module _ {T : Type 0} (named : T → ℕ) (hs : List ℕ) (ts : List T) (marks : List Bool) (marked : Marked named hs ts marks) where
  pub marks_count : (k : ℕ) → k ≤ length ts → hidden_among named hs (take k ts) ≡ marked_at marks k
  marks_count k h =
      sym (count_map (λ t. memb (named t) hs) (take k ts)) ∙ ap (count_by (λ m. m)) (sym (take-map (λ t. memb (named t) hs) k ts) ∙ ap (take k) (sym marked) ∙ take-take k (length ts) marks h)

  pub marks_window : (s len : ℕ) → s + len ≤ length ts → hidden_among named hs (take len (drop s ts)) ≡ marked_at marks (s + len) - marked_at marks s
  marks_window s len h = omega (arith, sum_window (λ t. cond (memb (named t) hs) 1 0) ts s len, marks_count (s + len) h, marks_count s (omega arith))

  pub marks_between : (a b : ℕ) → a ≤ length ts → b ≤ length ts → hidden_among named hs (take (b - a) (drop a ts)) ≡ marked_at marks b - marked_at marks a
  marks_between a b h k = omega (arith, sum_between (λ t. cond (memb (named t) hs) 1 0) ts a b, marks_count a h, marks_count b k)
