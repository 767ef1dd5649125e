-- One pair of hex digits further.
use Rattle.std.proofs.Common.{◌≡◌, ℕ, zero, suc, ◌+◌, ◌*◌, ◌/◌, ◌%◌, ◌<◌, List, [], ◌∷◌, ◌++◌, length, get_or, drop, Some, None, Option, Result, Ok, Err, MatchResult, IsOk, sym, refl, ap, ◌∙◌, append_assoc, arith}
use Rattle.std.specs.Option.{option_map}
use Rattle.std.specs.Simd.{first_chunks}
use Rattle.std.specs.Char.{digit_char}
use Rattle.std.specs.Str.{IsAscii}
use Rattle.std.proofs.lemmas.Grind.{flat_map-append}
use Rattle.std.proofs.lemmas.Str.Ascii.{IsAscii-nil, IsAscii-cons}
use Rattle.texts.specs.Hex.{digit_of, byte_of, before, bytes_of, hexed}

joined : (xs : List ℕ) (b : ℕ) (m : Option ℕ) (o : Option (List ℕ)) → m ≡ Some b → option_map (λ t. (xs ++ (b ∷ [])) ++ t) o ≡ option_map (λ t. xs ++ t) (before m o)
joined xs b m None e = rw e refl
joined xs b m (Some t) e = rw e (ap Some (append_assoc xs (b ∷ []) t))

-- the bytes of pairs that are cut already
abbrev pub pairs_bytes : List (List ℕ) → Option (List ℕ)
pairs_bytes [] = Some []
pairs_bytes (p ∷ ps) = before (byte_of (digit_of (get_or p 0 0)) (digit_of (get_or p 1 0))) (pairs_bytes ps)

before_none : (m : Option ℕ) → before m None ≡ None
before_none None = refl
before_none (Some b) = refl

pub even_bytes : (n : ℕ) (text : List ℕ) → length text ≡ 2 * n → pairs_bytes (first_chunks 2 n text) ≡ bytes_of text
even_bytes zero [] e = refl
even_bytes zero (c ∷ cs) e = absurd (omega arith)
even_bytes (suc n) [] e = absurd (omega arith)
even_bytes (suc n) (c ∷ []) e = absurd (omega arith)
even_bytes (suc n) (c ∷ d ∷ cs) e = ap (before (byte_of (digit_of c) (digit_of d))) (even_bytes n cs (omega arith))

with_none : (o : Option (List ℕ)) → option_map (λ t. [] ++ t) o ≡ o
with_none None = refl
with_none (Some t) = refl

pub bytes_start : (xs word text : List ℕ) (pairs : List (List ℕ)) (n : ℕ) → xs ≡ [] → text ≡ word → pairs ≡ first_chunks 2 n text → length text % 2 ≡ 0 → n ≡ length text / 2 → option_map (λ t. xs ++ t) (pairs_bytes (drop 0 pairs)) ≡ bytes_of word
bytes_start xs word text pairs n none same cut even half = rw (none, cut) (with_none (pairs_bytes (first_chunks 2 n text)) ∙ (even_bytes n text (omega arith) ∙ ap bytes_of same))

pub odd_bytes : (n : ℕ) (text : List ℕ) → length text ≡ 2 * n + 1 → bytes_of text ≡ None
odd_bytes n [] e = absurd (omega arith)
odd_bytes n (c ∷ []) e = refl
odd_bytes zero (c ∷ d ∷ cs) e = absurd (omega arith)
odd_bytes (suc n) (c ∷ d ∷ cs) e = ap (before (byte_of (digit_of c) (digit_of d))) (odd_bytes n cs (omega arith)) ∙ before_none (byte_of (digit_of c) (digit_of d))

-- the bytes so far, xs, and the pairs that are left behind the first i
module _ (whole : Option (List ℕ)) (xs : List ℕ) (pairs : List (List ℕ)) (i : ℕ) (p : List ℕ) (m : Option ℕ) (here : drop i pairs ≡ p ∷ drop (i + 1) pairs)
    (is : m ≡ byte_of (digit_of (get_or p 0 0)) (digit_of (get_or p 1 0))) (inv : option_map (λ t. xs ++ t) (pairs_bytes (drop i pairs)) ≡ whole) where
  step : option_map (λ t. xs ++ t) (before m (pairs_bytes (drop (i + 1) pairs))) ≡ whole
  step = rw is (ap (λ ps. option_map (λ t. xs ++ t) (pairs_bytes ps)) (sym here) ∙ inv)

  pub bytes_more : (ys : List ℕ) (b : ℕ) → m ≡ Some b → ys ≡ xs ++ (b ∷ []) → option_map (λ t. ys ++ t) (pairs_bytes (drop (i + 1) pairs)) ≡ whole
  bytes_more ys b e push = rw push (joined xs b m (pairs_bytes (drop (i + 1) pairs)) e ∙ step)

-- the digits of bytes are ASCII
pub hexed_ascii : (bs : List ℕ) → ((i : ℕ) → get_or bs i 0 < 256) → IsAscii (hexed bs)
hexed_ascii [] h = IsAscii-nil
hexed_ascii (b ∷ bs) h =
    let fits : b < 256 = h 0 in
    IsAscii-cons (digit_char (b / 16)) (digit_char (b % 16) ∷ hexed bs) (grind arith)
    (IsAscii-cons (digit_char (b % 16)) (hexed bs) (grind arith) (hexed_ascii bs (λ i. h (suc i))))

-- bytes in front of others are written first
pub hexed_cut : (bs front behind done : List ℕ) (all : List ℕ) → bs ≡ front ++ behind → done ++ hexed bs ≡ all → (done ++ hexed front) ++ hexed behind ≡ all
hexed_cut bs front behind done all parts inv =
    append_assoc done (hexed front) (hexed behind)
    ∙ (ap (λ t. done ++ t) (sym (flat_map-append (λ b. digit_char (b / 16) ∷ digit_char (b % 16) ∷ []) front behind)) ∙ (ap (λ t. done ++ hexed t) (sym parts) ∙ inv))

-- no error comes where it is ruled out
pub none_fails : {T E U : Type 0} (P : T → Type 0) (Q : E → Type 0) (r : Result T E) → MatchResult r P (λ e. (U → ⊥) × Q e) → U → IsOk r
none_fails P Q (Ok t) h u = refl
none_fails P Q (Err e) h u = absurd (h.0 u)
