-- What is read behind a window, one step on.
use Rattle.std.proofs.Common.{◌≡◌, ℕ, zero, suc, ◌+◌, ◌-◌, ◌<◌, ◌≤◌, eqb, [], ◌∷◌, ◌++◌, Some, sym, refl, ap, ◌∙◌, arith}
use Rattle.std.proofs.lemmas.Bool.{cond-false, ne_eqb}
use Rattle.windows.specs.declared.slice_windows.Window.{Window}
use Rattle.windows.specs.declared.slice_windows.Order.{Order}
use Rattle.windows.specs.declared.slice_windows.Order.TheVariants.{Growing, Shrinking}
use Rattle.windows.specs.SliceWindows.{win, from_left, of_length, growing_from, shrinking_from}
use Rattle.windows.specs.Cursor.{next_lengths, behind, standing, first_window}

row_more : (len s k j : ℕ) → k ≡ suc j → from_left len s k ≡ win s len ∷ from_left len (suc s) j
unfolding from_left
row_more len s k j e = ap (from_left len s) e

-- one table further
pub behind_further : (order : Order) (n s len : ℕ) → s + len < n → win (s + 1) len ∷ behind order n (win (s + 1) len) ≡ behind order n (win s len)
behind_further order n s len h =
    ap (λ k. win k len ∷ (from_left len (suc k) (n - (s + 1 + len)) ++ next_lengths order n len)) (let q : s + 1 ≡ suc s = omega arith in q)
    ∙ ap (λ ws. ws ++ next_lengths order n len) (sym (row_more len (suc s) (n - (s + len)) (n - (s + 1 + len)) (omega arith)))

-- behind the rightmost window of a length come the next lengths
pub behind_rightmost : (order : Order) (n : ℕ) (w : Window) → n ≤ w.start + w.len → behind order n w ≡ next_lengths order n w.len
unfolding from_left
behind_rightmost order n w h =
    ap (λ k. from_left w.len (suc w.start) k ++ next_lengths order n w.len) (let q : n - (w.start + w.len) ≡ 0 = omega arith in q)

-- all windows of a length: the leftmost, and those of its length further right
row_first : (n len : ℕ) → len ≤ n → of_length n len ≡ win 0 len ∷ from_left len 1 (n - (0 + len))
row_first n len h = row_more len 0 (suc n - len) (n - (0 + len)) (omega arith)

first_some : (len b : ℕ) → 0 < len → first_window len b ≡ Some (record { window = win 0 len; bytes = b; front = b })
first_some len b h = cond-false (eqb len 0) _ _ (ne_eqb len 0 (λ e. omega arith))

-- the next lengths, from the leftmost window on
pub standing_growing : (n len b : ℕ) → len < n → standing Growing n (first_window (len + 1) b) ≡ growing_from n (len + 1) (n - len)
unfolding growing_from
standing_growing n len b h =
    ap (standing Growing n) (first_some (len + 1) b (omega arith))
    ∙ ap (λ ws. ws ++ growing_from n (len + 1 + 1) (n - (len + 1))) (sym (row_first n (len + 1) (omega arith)))
    ∙ ap (λ k. of_length n (len + 1) ++ growing_from n k (n - (len + 1))) (let q : len + 1 + 1 ≡ suc (len + 1) = omega arith in q)
    ∙ ap (growing_from n (len + 1)) (let q : suc (n - (len + 1)) ≡ n - len = omega arith in q)

pub growing_end : (n len : ℕ) → n ≤ len → growing_from n (len + 1) (n - len) ≡ []
unfolding growing_from
growing_end n len h = ap (growing_from n (len + 1)) (let q : n - len ≡ 0 = omega arith in q)

pub standing_shrinking : (n len b : ℕ) → len ≤ n → standing Shrinking n (first_window len b) ≡ shrinking_from n len
unfolding shrinking_from
standing_shrinking n zero b h = refl
standing_shrinking n (suc k) b h =
    ap (standing Shrinking n) (first_some (suc k) b (omega arith))
    ∙ ap (λ ws. ws ++ shrinking_from n (suc k - 1)) (sym (row_first n (suc k) h))
    ∙ ap (λ j. of_length n (suc k) ++ shrinking_from n j) (let q : suc k - 1 ≡ k = omega arith in q)
