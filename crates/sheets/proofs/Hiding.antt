-- Steps through a list of numbers that are hidden, or asked for.
use Rattle.std.proofs.Common.{◌≡◌, ℕ, ◌+◌, ◌<◌, ◌≤◌, Bool, true, false, cond, ◌||◌, eqb, leb, List, [], ◌∷◌, ◌++◌, length, get_or, take, drop, sym, refl, ap, ◌∙◌, arith}
use Rattle.std.proofs.lemmas.List.{at_drop_more, length_push, take_at, take_all, take-take}
use Rattle.std.proofs.lemmas.Bool.{lt-leb, eqb-true}
use Rattle.sheets.specs.HiddenSet.{hiding}
use Rattle.sheets.specs.Tables.{memb}

module _ (hs xs : List ℕ) (i : ℕ) (within : i < length xs) where
  pub hiding_new : memb (get_or xs i 0) hs ≡ false → hiding hs (drop i xs) ≡ hiding (hs ++ get_or xs i 0 ∷ []) (drop (i + 1) xs)
  hiding_new e = at_drop_more (hiding hs) xs i 0 within ∙ ap (λ b. hiding (cond b hs (hs ++ get_or xs i 0 ∷ [])) (drop (i + 1) xs)) e

-- what one number adds
more_long : (b : Bool) (hs : List ℕ) (n : ℕ) → length hs ≤ length (cond b hs (hs ++ n ∷ []))
more_long true hs n = omega arith
more_long false hs n = rw length_push (omega arith)

more_short : (b : Bool) (hs : List ℕ) (n : ℕ) → length (cond b hs (hs ++ n ∷ [])) ≤ length hs + 1
more_short true hs n = omega arith
more_short false hs n = rw length_push (omega arith)

more_front : (b : Bool) (hs : List ℕ) (n : ℕ) → take (length hs) (cond b hs (hs ++ n ∷ [])) ≡ hs
more_front true hs n = take_all (length hs) hs (omega arith)
more_front false hs n = take_at hs (n ∷ []) (length hs) refl

pub hiding_long : (hs ns : List ℕ) → length hs ≤ length (hiding hs ns)
hiding_long hs [] = omega arith
hiding_long hs (n ∷ ns) = omega (arith, more_long (memb n hs) hs n, hiding_long (cond (memb n hs) hs (hs ++ n ∷ [])) ns)

pub hiding_short : (hs ns : List ℕ) → length (hiding hs ns) ≤ length hs + length ns
hiding_short hs [] = omega arith
hiding_short hs (n ∷ ns) = omega (arith, more_short (memb n hs) hs n, hiding_short (cond (memb n hs) hs (hs ++ n ∷ [])) ns)

-- what was hidden before stays in front
pub hiding_front : (hs ns : List ℕ) → take (length hs) (hiding hs ns) ≡ hs
hiding_front hs [] = take_all (length hs) hs (omega arith)
hiding_front hs (n ∷ ns) =
    let next : List ℕ = cond (memb n hs) hs (hs ++ n ∷ []) in
    sym (take-take (length hs) (length next) (hiding next ns) (more_long (memb n hs) hs n))
    ∙ ap (take (length hs)) (hiding_front next ns) ∙ more_front (memb n hs) hs n

-- a full set and a number that is not hidden yet
pub hiding_full : (all hs xs : List ℕ) (i : ℕ) → i < length xs → all ≡ hiding hs (drop i xs) → memb (get_or xs i 0) hs ≡ false → 1024 ≤ length hs → false ≡ leb (length all) 1024
hiding_full all hs xs i h e n l =
    let q : length all ≡ length (hiding (hs ++ get_or xs i 0 ∷ []) (drop (i + 1) xs)) = ap length (e ∙ hiding_new hs xs i h n) in
    sym (lt-leb (length all) 1024 (omega (arith, hiding_long (hs ++ get_or xs i 0 ∷ []) (drop (i + 1) xs), length_push hs (get_or xs i 0))))

-- ---- what is hidden afterwards
memb_append : (n : ℕ) (xs ys : List ℕ) → memb n (xs ++ ys) ≡ (memb n xs || memb n ys)
memb_append n [] ys = refl
memb_append n (x ∷ xs) ys = elim (eqb x n) as (λ b. (b || memb n (xs ++ ys)) ≡ ((b || memb n xs) || memb n ys)) [ true ↦ refl | false ↦ memb_append n xs ys ]

or_false : (b : Bool) → (b || false) ≡ b
or_false true = refl
or_false false = refl

memb_more : (n m : ℕ) (hs : List ℕ) (b e : Bool) → memb m hs ≡ b → eqb m n ≡ e → memb n (cond b hs (hs ++ m ∷ [])) ≡ (memb n hs || e)
memb_more n m hs true true p q = let there : memb n hs ≡ true = ap (λ k. memb k hs) (sym (eqb-true m n q)) ∙ p in rw there
memb_more n m hs true false p q = sym (or_false (memb n hs))
memb_more n m hs false true p q = memb_append n hs (m ∷ []) ∙ rw q
memb_more n m hs false false p q = memb_append n hs (m ∷ []) ∙ rw q

or_step : (a e c : Bool) → ((a || e) || c) ≡ (a || (e || c))
or_step true e c = refl
or_step false true c = refl
or_step false false c = refl

-- what was hidden, and what is hidden now
pub memb_hiding : (n : ℕ) (hs ns : List ℕ) → memb n (hiding hs ns) ≡ (memb n hs || memb n ns)
memb_hiding n hs [] = sym (or_false (memb n hs))
memb_hiding n hs (m ∷ ms) =
    memb_hiding n (cond (memb m hs) hs (hs ++ m ∷ [])) ms
    ∙ ap (λ b. b || memb n ms) (memb_more n m hs (memb m hs) (eqb m n) refl refl) ∙ or_step (memb n hs) (eqb m n) (memb n ms)
