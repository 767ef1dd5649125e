-- The lists of windows: each window once, and what is read behind a window.
use Rattle.std.proofs.Common.{◌≡◌, ℕ, zero, suc, ◌+◌, ◌-◌, ◌<◌, ◌≤◌, ◌⊎◌, List, [], ◌∷◌, ◌++◌, sym, refl, ap, ◌∙◌, inl, inr, arith}
use Rattle.std.specs.List.{AllByRecursion}
use Rattle.std.proofs.ByRecursion.{All-append, All-weaker, has_append_left, has_append_right}
use Rattle.std.proofs.lemmas.Bool.{cases_lt}
use Rattle.windows.specs.declared.slice_windows.Window.{Window}
use Rattle.windows.specs.SliceWindows.{win, from_left, growing_from, growing, shrinking_from, shrinking, Within, Shorter, Longer, Ascends, EachOnce}

-- a window is where it starts and how long it is
pub same_window : (v w : Window) → v.start ≡ w.start → v.len ≡ w.len → v ≡ w
same_window v w e f = ap (λ s. win s v.len) e ∙ ap (win w.start) f

-- what ascends goes on ascending behind what is before all of it
ascends_append : {X : Type 0} (R : X → X → Type 0) (P Q : X → Type 0) (xs ys : List X) → ((x y : X) → P x → Q y → R x y) → AllByRecursion P xs → AllByRecursion Q ys → Ascends R xs → Ascends R ys → Ascends R (xs ++ ys)
ascends_append R P Q [] ys f p q a b = b
ascends_append R P Q (x ∷ xs) ys f p q a b =
    (All-append (R x) xs ys a.0 (All-weaker Q (R x) (λ y h. f x y p.0 h) ys q), ascends_append R P Q xs ys f p.1 q a.1 b)

-- one kind of windows is read before another
module _ (R Q S : Window → Type 0) (Before : Window → Window → Type 0) (left : (v : Window) → Q v → R v) (right : (v : Window) → S v → R v) (split : (v : Window) → R v → Q v ⊎ S v) (order : (v w : Window) → Q v → S w → Before v w) where
  both_once : (xs ys : List Window) → EachOnce Q Before xs → EachOnce S Before ys → EachOnce R Before (xs ++ ys)
  both_once xs ys a b = record {
    only = All-append R xs ys (All-weaker Q R left xs a.only) (All-weaker S R right ys b.only);
    every = λ w r. elim (split w r) [ inl q ↦ has_append_left xs ys w (a.every w q) | inr s ↦ has_append_right xs ys w (b.every w s) ];
    ascends = ascends_append Before Q S xs ys order a.only b.only a.ascends b.ascends;
  }

-- an equal kind
same_kind : (R Q : Window → Type 0) (Before : Window → Window → Type 0) → ((v : Window) → Q v → R v) → ((v : Window) → R v → Q v) → (ws : List Window) → EachOnce Q Before ws → EachOnce R Before ws
same_kind R Q Before f g ws a = record { only = All-weaker Q R f ws a.only; every = λ w r. a.every w (g w r); ascends = a.ascends }

none_once : (R : Window → Type 0) (Before : Window → Window → Type 0) → ((v : Window) → R v → ⊥) → EachOnce R Before []
none_once R Before f = record { only = tt; every = λ w r. absurd (f w r); ascends = tt }

-- windows of one length, k of them from s on
abbrev Row : ℕ → ℕ → ℕ → Window → Type 0
Row len s k v = (v.len ≡ len) × (s ≤ v.start) × (v.start < s + k)

module _ (Before : Window → Window → Type 0) (before : (v w : Window) → v.len ≡ w.len → v.start < w.start → Before v w) where
  one_once : (len s : ℕ) → EachOnce (Row len s 1) Before (win s len ∷ [])
  one_once len s = record {
    only = ((refl, omega arith, omega arith), tt);
    every = λ w r. (0, omega arith, λ d. same_window (win s len) w (omega arith) (sym r.0));
    ascends = (tt, tt);
  }

  row_once : (len s k : ℕ) → EachOnce (Row len s k) Before (from_left len s k)
  unfolding from_left
  row_once len s zero = none_once (Row len s 0) Before (λ v r. omega arith)
  row_once len s (suc k) =
      both_once (Row len s (suc k)) (Row len s 1) (Row len (suc s) k) Before
      (λ v r. (r.0, omega arith, omega arith)) (λ v r. (r.0, omega arith, omega arith))
      (λ v r. elim (cases_lt v.start (suc s)) [ inl l ↦ inl (r.0, omega arith, omega arith) | inr l ↦ inr (r.0, l, omega arith) ])
      (λ v w a b. before v w (a.0 ∙ sym b.0) (omega arith))
      _ _ (one_once len s) (row_once len (suc s) k)

-- windows of k lengths from len on
abbrev Grows : ℕ → ℕ → ℕ → Window → Type 0
Grows n len k v = Within n v × (len ≤ v.len) × (v.len < len + k)

grows : (n len k : ℕ) → 0 < len → EachOnce (Grows n len k) Shorter (growing_from n len k)
unfolding growing_from
grows n len zero h = none_once (Grows n len 0) Shorter (λ v r. omega arith)
grows n len (suc k) h =
    both_once (Grows n len (suc k)) (Row len 0 (suc n - len)) (Grows n (suc len) k) Shorter
    (λ v r. (record { some = omega arith; ends = omega arith }, omega arith, omega arith)) (λ v r. (r.0, omega arith, omega arith))
    (λ v r. elim (cases_lt len v.len) [ inl l ↦ inr (r.0, l, omega arith) | inr l ↦ inl (omega arith, omega arith, omega arith) ])
    (λ v w a b. inl (omega arith))
    _ _ (row_once Shorter (λ v w e l. inr (e, l)) len 0 (suc n - len)) (grows n (suc len) k (omega arith))

pub growing_once : (n : ℕ) → EachOnce (Within n) Shorter (growing n)
growing_once n = same_kind (Within n) (Grows n 1 n) Shorter (λ v r. r.0) (λ v r. (r, omega arith, omega arith)) _ (grows n 1 n (omega arith))

-- windows of the lengths from k down
abbrev Shrinks : ℕ → ℕ → Window → Type 0
Shrinks n k v = Within n v × (v.len ≤ k)

shrinks : (n k : ℕ) → EachOnce (Shrinks n k) Longer (shrinking_from n k)
unfolding shrinking_from
shrinks n zero = none_once (Shrinks n 0) Longer (λ v r. omega arith)
shrinks n (suc k) =
    both_once (Shrinks n (suc k)) (Row (suc k) 0 (suc n - suc k)) (Shrinks n k) Longer
    (λ v r. (record { some = omega arith; ends = omega arith }, omega arith)) (λ v r. (r.0, omega arith))
    (λ v r. elim (cases_lt k v.len) [ inl l ↦ inl (omega arith, omega arith, omega arith) | inr l ↦ inr (r.0, l) ])
    (λ v w a b. inl (omega arith))
    _ _ (row_once Longer (λ v w e l. inr (e, l)) (suc k) 0 (suc n - suc k)) (shrinks n k)

pub shrinking_once : (n : ℕ) → EachOnce (Within n) Longer (shrinking n)
shrinking_once n = same_kind (Within n) (Shrinks n n) Longer (λ v r. r.0) (λ v r. (r, omega arith)) _ (shrinks n n)
