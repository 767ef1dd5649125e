-- The sums of a window, one step on.
use Rattle.std.proofs.Common.{◌≡◌, ℕ, ◌+◌, ◌^◌, ◌<◌, ◌≤◌, leb, List, length, get_or, take, drop, Ok, sum_by, sym, ap, ◌∙◌, arith}
use Rattle.std.proofs.lemmas.List.{take-take, drop-take}
use Rattle.std.proofs.lemmas.List.Sums.{sum_by_more, sum_by-take-drop, sum_by-take-le}
use Rattle.std.proofs.lemmas.Bool.{cond-true, le-leb}
use Rattle.windows.specs.declared.slice_windows.Window.{Window}
use Rattle.windows.specs.Cursor.{readable}

module _ {T : Type 0} (f : T → ℕ) (ts : List T) where
  -- a window's sum is what a longer front has more
  pub sum_more : (s len : ℕ) → sum_by f (take s ts) + sum_by f (take len (drop s ts)) ≡ sum_by f (take (s + len) ts)
  sum_more s len =
      ap (λ us. sum_by f us + sum_by f (take len (drop s ts))) (sym (take-take s (s + len) ts (omega arith)))
      ∙ ap (λ us. sum_by f (take s (take (s + len) ts)) + sum_by f us) (sym (drop-take s len ts))
      ∙ sum_by-take-drop f (take (s + len) ts) s

  -- one table more at the end of a front
  sum_read : (i : ℕ) (t : T) → i < length ts → t ≡ get_or ts i t → sum_by f (take (i + 1) ts) ≡ sum_by f (take i ts) + f t
  sum_read i t h e = sum_by_more f ts i t h ∙ ap (λ u. sum_by f (take i ts) + f u) (sym e)

  -- one table comes in at the end
  pub sum_grown : (s len b : ℕ) (x : T) → s + len < length ts → x ≡ get_or ts (s + len) x → b ≡ sum_by f (take len (drop s ts)) → b + f x ≤ sum_by f ts
  sum_grown s len b x h at_end old = omega (arith, sum_more s len, sum_read (s + len) x h at_end, sum_by-take-le f ts (s + len + 1))

  -- and one goes at the start
  pub sum_moved : (s len b : ℕ) (x y : T) → s + len < length ts → x ≡ get_or ts (s + len) x → y ≡ get_or ts s y → b ≡ sum_by f (take len (drop s ts))
      → b + f x ≡ f y + sum_by f (take len (drop (s + 1) ts))
  sum_moved s len b x y h at_end at_start old =
      let more = sum_read (s + len) x h at_end in
      let less = sum_read s y (omega arith) at_start in
      let up = ap (λ k. sum_by f (take k ts)) (let q : s + 1 + len ≡ s + len + 1 = omega arith in q) in
      omega (arith, sum_more s len, sum_more (s + 1) len, more, less, up)

  -- the windows of tables that are not too large
  pub opens : (vs ws : List Window) → sum_by f ts ≤ 2 ^ 53 → vs ≡ ws → Ok (record { tables = ts; windows = vs }) ≡ readable f ws ts
  opens vs ws small e = ap (λ us. Ok (record { tables = ts; windows = us })) e ∙ sym (cond-true (leb (sum_by f ts) (2 ^ 53)) _ _ (le-leb _ _ small))
