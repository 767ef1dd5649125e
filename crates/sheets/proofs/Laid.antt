-- Lists after an edit: what was laid over the front, and what is kept behind it.
use Rattle.std.proofs.Common.{◌≡◌, ℕ, zero, suc, ◌+◌, ◌-◌, ◌<◌, ◌≤◌, Bool, true, false, cond, List, [], ◌∷◌, ◌++◌, length, get_or, take, drop, set, sym, refl, ap, ◌∙◌, arith, rules}
use lib.Seq.{paste}
use borrow.Rule.Slice.PartMut.{put_mid, mid_of}
use Rattle.std.specs.List.{insert, remove}
use Rattle.std.proofs.lemmas.List.Edits.{length-insert, length-remove}
use Rattle.std.proofs.lemmas.List.{same_lists, places, append_assoc, drop-set, drop-drop, drop_at, take_at, set-append_right, get_or-append_right, get_or-drop, get_or-set_same, length-drop, length_push, length-take-le, take-append-drop, take-take, take_more}
use Rattle.std.proofs.lemmas.Slice.{between_is}
use Rattle.std.proofs.lemmas.Bool.{cases_eq}
use Rattle.runs.proofs.Sorteds.{drop_read}
use Rattle.sheets.specs.Edits.{laid, changed}

module _ {X : Type 0} where
  pub length_cond : (b : Bool) (xs ys : List X) (n : ℕ) → length xs ≡ n → length ys ≡ n → length (cond b xs ys) ≡ n
  length_cond true xs ys n h j = h
  length_cond false xs ys n h j = j

  -- ---- reading the front and the rest off what was laid
  pub take_laid : (f s : List X) (n : ℕ) → n ≡ length f → take n (laid f s) ≡ f
  take_laid f s n e = take_at f (drop (length f) s) n (sym e)

  pub drop_laid : (f s : List X) (m : ℕ) → length f ≤ m → drop m (laid f s) ≡ drop m s
  drop_laid f s m le =
      let n : length f + (m - length f) ≡ m = omega arith in
      ap (λ j. drop j (laid f s)) (sym n) ∙ sym (drop-drop (m - length f) (length f) (laid f s))
      ∙ ap (drop (m - length f)) (drop_at f (drop (length f) s) (length f) refl) ∙ drop-drop (m - length f) (length f) s ∙ ap (λ j. drop j s) n

  pub get_or_laid : (f s : List X) (i : ℕ) (d : X) → length f ≤ i → get_or (laid f s) i d ≡ get_or s i d
  get_or_laid f s i d le =
      let n : length f + (i - length f) ≡ i = omega arith in
      get_or-append_right f (drop (length f) s) (length f) i d refl le ∙ get_or-drop (length f) s (i - length f) d ∙ ap (λ j. get_or s j d) n

  -- the longer of two laid over one another is what is left
  pub laid_laid : (f g s : List X) → length f ≤ length g → laid g (laid f s) ≡ laid g s
  laid_laid f g s le = ap (λ l. g ++ l) (drop_laid f s (length g) le)

  -- a second edit of what was laid, which leaves no less
  pub relaid : (f : List X → List X) (xs s s' s'' : List X) (n : ℕ) → s' ≡ laid xs s → n ≡ length xs → length xs ≤ length (f xs) → s'' ≡ laid (f (take n s')) s' → s'' ≡ laid (f xs) s
  relaid f xs s s' s'' n is e le is' =
      let front : take n s' ≡ xs = ap (take n) is ∙ take_laid xs s n e in
      is' ∙ ap (λ l. laid (f l) s') front ∙ ap (laid (f xs)) is ∙ laid_laid xs (f xs) s le

  -- a front laid over itself
  pub laid_front : (s : List X) (n : ℕ) → n ≤ length s → laid (take n s) s ≡ s
  laid_front s n le = ap (λ j. take n s ++ drop j s) (length-take-le n s le) ∙ take-append-drop n s

  -- one more that stood there anyway
  pub laid_same : (f s : List X) (x : X) → length f < length s → x ≡ get_or s (length f) x → laid (f ++ x ∷ []) s ≡ laid f s
  laid_same f s x lt e =
      let one : length (f ++ x ∷ []) ≡ length f + 1 = length_push f x in
      append_assoc f (x ∷ []) (drop (length (f ++ x ∷ [])) s) ∙ ap (λ j. f ++ x ∷ drop j s) one ∙ ap (λ l. f ++ l) (sym (drop_read s (length f) x lt e))

  -- one more laid over the front
  pub laid_push : (f s : List X) (k : ℕ) (x : X) → k ≡ length f → k < length s → set (laid f s) k x ≡ laid (f ++ x ∷ []) s
  laid_push f s k x e lt =
      let e' : length f ≡ k = sym e in
      let z : k - k ≡ 0 = omega arith in
      let some : 0 < length (drop k s) = omega (arith, length-drop k s) in
      let one : k + 1 ≡ length (f ++ x ∷ []) = omega (arith, length_push f x) in
      let inner : set (drop (length f) s) (k - k) x ≡ x ∷ drop (length (f ++ x ∷ [])) s =
      ap (λ n. set (drop n s) (k - k) x) e' ∙ ap (λ j. set (drop k s) j x) z ∙ drop-set (drop k s) 0 x some ∙ ap (λ l. x ∷ l) (drop-drop 1 k s ∙ ap (λ n. drop n s) one) in
      set-append_right f (drop (length f) s) k k x e' (omega arith) ∙ ap (λ l. f ++ l) inner ∙ sym (append_assoc f (x ∷ []) (drop (length (f ++ x ∷ [])) s))

  -- ---- a shift by one to the right and a write
  shift_right : (s : List X) (at count : ℕ) (t : X) → at ≤ count → count < length s →
      set (paste s (at + 1) (drop at s) (count - at)) at t ≡ insert (take count s) at t ++ drop (count + 1) s
  shift_right s at count t le lt = same_lists _ _ (search (rules, places)) (λ k d h. grind (arith, places, get_or-set_same, cases_eq k at))

  pub put_in : (s : List X) (at count : ℕ) (t : X) → at ≤ count → count < length s →
      set (paste s (at + 1) (drop at s) (count - at)) at t ≡ laid (insert (take count s) at t) s
  put_in s at count t le lt =
      let n = length-take-le count s (omega arith) in
      let m : count + 1 ≡ length (insert (take count s) at t) = omega (arith, length-insert (take count s) at t (omega arith)) in
      shift_right s at count t le lt ∙ ap (λ j. insert (take count s) at t ++ drop j s) m

  -- ---- the part from `at` to i turned by one to the right: what stood last of it is put in before it
  pub turned_in : (s ys : List X) (at i k : ℕ) (x : X) → at ≤ i → i < length s → k ≡ i + 1 - at → x ≡ get_or s i x
      → ys ≡ drop (length (mid_of at k s) - 1) (mid_of at k s) ++ take (length (mid_of at k s) - 1) (mid_of at k s) → put_mid at k s ys ≡ laid (insert (take i s) at x) s
  turned_in s ys at i k x le lt n e is =
      let a : List X = take (i - at) (drop at s) in
      let m : List X = take k (drop at s) in
      let long = length-drop at s in
      let short : length a ≡ i - at = length-take-le (i - at) (drop at s) (omega (arith, long)) in
      let up : k ≡ (i - at) + 1 = omega arith in
      let there : at + (i - at) ≡ i = omega arith in
      let last : get_or (drop at s) (i - at) x ≡ x = get_or-drop at s (i - at) x ∙ ap (λ j. get_or s j x) there ∙ sym e in
      let all : m ≡ a ++ x ∷ [] = ap (λ j. take j (drop at s)) up ∙ take_more (drop at s) (i - at) x (omega (arith, long)) ∙ ap (λ y. a ++ y ∷ []) last in
      let one : length m - 1 ≡ i - at = omega (arith, ap length all, length_push a x, short) in
      let turned : ys ≡ x ∷ a =
      is ∙ ap (λ j. drop j m ++ take j m) one ∙ ap (λ l. drop (i - at) l ++ take (i - at) l) all
      ∙ ap (λ l. l ++ take (i - at) (a ++ x ∷ [])) (drop_at a (x ∷ []) (i - at) short) ∙ ap (λ l. x ∷ l) (take_at a (x ∷ []) (i - at) short) in
      let end : at + k ≡ i + 1 = omega arith in
      let rest : drop k (drop at s) ≡ drop (i + 1) s = drop-drop k at s ∙ ap (λ j. drop j s) end in
      let front : insert (take i s) at x ≡ take at s ++ x ∷ a =
      ap (λ l. l ++ x ∷ drop at (take i s)) (take-take at i s le) ∙ ap (λ l. take at s ++ x ∷ l) (sym (between_is s at i)) in
      let size : i + 1 ≡ length (insert (take i s) at x) = omega (arith, length-insert (take i s) at x (omega (arith, length-take-le i s (omega arith))), length-take-le i s (omega arith)) in
      ap (λ l. take at s ++ (l ++ drop k (drop at s))) turned ∙ ap (λ l. take at s ++ (x ∷ a ++ l)) (rest ∙ ap (λ j. drop j s) size)
      ∙ sym (append_assoc (take at s) (x ∷ a) (drop (length (insert (take i s) at x)) s)) ∙ ap (λ l. l ++ drop (length (insert (take i s) at x)) s) (sym front)

  -- ---- a shift by one to the left
  shift_left : (s : List X) (at count : ℕ) → at < count → count ≤ length s →
      paste s at (drop (at + 1) s) (count - (at + 1)) ≡ remove (take count s) at ++ drop (count - 1) s
  shift_left s at count lt le = same_lists _ _ (search (rules, places)) (λ k d h. grind (arith, places))

  pub take_out : (s : List X) (at count : ℕ) → at < count → count ≤ length s →
      paste s at (drop (at + 1) s) (count - (at + 1)) ≡ laid (remove (take count s) at) s
  take_out s at count lt le =
      let n = length-take-le count s le in
      let m : count - 1 ≡ length (remove (take count s) at) = omega (arith, length-remove (take count s) at (omega arith)) in
      shift_left s at count lt le ∙ ap (λ j. remove (take count s) at ++ drop j s) m

  -- ---- a write of f of what stood there
  pub changed_read : (f : X → X) (s : List X) (i : ℕ) (d : X) → set s i (f (get_or s i d)) ≡ changed f s i
  changed_read f [] i d = refl
  changed_read f (x ∷ s) zero d = refl
  changed_read f (x ∷ s) (suc i) d = ap (λ l. x ∷ l) (changed_read f s i d)

  pub changed_is : (f : X → X) (s : List X) (i : ℕ) (x : X) → x ≡ get_or s i x → set s i (f x) ≡ changed f s i
  changed_is f s i x e = ap (λ y. set s i (f y)) e ∙ changed_read f s i x
