-- The words of a text, taken off its front one by one.
use Rattle.std.proofs.Common.{◌≡◌, ℕ, ◌<◌, Bool, true, false, List, [], ◌∷◌, ◌++◌, append-nil, length, length-append, map, filter, nat_lt, cond, sym, refl, ap, ◌∙◌, subst, append_assoc, arith, Bor, Some, None, Option}
use Rattle.std.specs.Char.{is_whitespace, is_not_whitespace}
use Rattle.std.specs.List.{All, AllByRecursion, slice_split}
use Rattle.std.specs.Str.{chars, IsUtf8, NoCharPasses, NonePass, EmptyOrStartsWithPassing}
use Rattle.std.specs.Str.Iter.{split_whitespace_rest, split_whitespace_steps}
use Rattle.std.specs.declared.str.SplitWhitespace.{SplitWhitespace}
use Rattle.std.specs.Iterator.{YieldsFirstRef, MakesProgress, item_count}
use Rattle.std.proofs.Math.Utf8.{scalars, encode, encodes}
use Rattle.std.proofs.lemmas.Str.{cons_from_encodes, encode_same, chars-encodes, chars_from_encodes, length-encode, len_utf8_bounds}
use Rattle.std.proofs.lemmas.Bool.{and_parts, not-false, lt-ltb}
use Rattle.std.proofs.lemmas.List.Elements.{All-from_recursion}
use Rattle.std.proofs.lemmas.List.Splits.{slice_split_none, slice_split_at, slice_split-cons_yes}
use Rattle.texts.specs.Words.{between_spaces, words_in}

none_pass : (p : ℕ → Bool) (cs : List ℕ) → NonePass p cs → All (λ c. p c ≡ false) cs
none_pass p cs h = All-from_recursion (λ c. p c ≡ false) cs (each cs h)
  where
    each : (cs : List ℕ) → NonePass p cs → AllByRecursion (λ c. p c ≡ false) cs
    each [] h = h
    each (c ∷ cs) h = (h.0, each cs h.1)

-- white space before the words
spaces_skipped : (gs cs : List ℕ) → NonePass is_not_whitespace gs → between_spaces (gs ++ cs) ≡ between_spaces cs
spaces_skipped [] cs h = refl
spaces_skipped (g ∷ gs) cs h = ap (filter (λ w. nat_lt 0 (length w))) (slice_split-cons_yes is_whitespace g (gs ++ cs) (not-false (is_whitespace g) h.0)) ∙ spaces_skipped gs cs h.1

kept : (w : List ℕ) (ws : List (List ℕ)) → 0 < length w → filter (λ w. nat_lt 0 (length w)) (w ∷ ws) ≡ w ∷ filter (λ w. nat_lt 0 (length w)) ws
kept w ws h = ap (λ b. cond b (w ∷ filter (λ w. nat_lt 0 (length w)) ws) (filter (λ w. nat_lt 0 (length w)) ws)) (lt-ltb 0 (length w) h)

-- a word, then nothing or white space
first_word : (x : ℕ) (xs ts : List ℕ) → NonePass is_whitespace (x ∷ xs) → ((t : ℕ) (rest : List ℕ) → ts ≡ t ∷ rest → is_whitespace t ≡ true) → between_spaces ((x ∷ xs) ++ ts) ≡ (x ∷ xs) ∷ between_spaces ts
first_word x xs [] h w =
    ap between_spaces (append-nil (x ∷ xs)) ∙ ap (filter (λ w. nat_lt 0 (length w))) (slice_split_none is_whitespace (x ∷ xs) (none_pass is_whitespace (x ∷ xs) h)) ∙ kept (x ∷ xs) [] (omega arith)
first_word x xs (t ∷ ts) h w =
    let white = w t ts refl in
    ap (filter (λ w. nat_lt 0 (length w))) (slice_split_at is_whitespace (x ∷ xs) t ts (none_pass is_whitespace (x ∷ xs) h) white)
    ∙ kept (x ∷ xs) (slice_split is_whitespace ts) (omega arith)
    ∙ ap (λ ws. (x ∷ xs) ∷ filter (λ w. nat_lt 0 (length w)) ws) (sym (slice_split-cons_yes is_whitespace t ts white))

-- what is left of characters behind those that were taken
left_behind : (cs ss t : List ℕ) → encodes ss ≡ encodes cs ++ t → scalars ss ≡ true → (ts : List ℕ) × (ss ≡ cs ++ ts) × (encodes ts ≡ t) × (scalars ts ≡ true)
left_behind [] ss t e k = (ss, refl, e, k)
left_behind (c ∷ cs) ss t e k =
    let taken = cons_from_encodes ss (encodes cs ++ t) c (e ∙ append_assoc (encode c) (encodes cs) t) in
    let ok : scalars (c ∷ taken.0) ≡ true = ap scalars (sym taken.1) ∙ k in
    let rest = left_behind cs taken.0 t taken.2 (and_parts _ (scalars taken.0) ok).1 in
    (rest.0, taken.1 ∙ ap (λ es. c ∷ es) rest.1, rest.2, rest.3)

white_first : (ts t rest : List ℕ) → encodes ts ≡ t → EmptyOrStartsWithPassing is_whitespace t rest → (c : ℕ) (cs : List ℕ) → ts ≡ c ∷ cs → is_whitespace c ≡ true
white_first ts t rest e h c cs is =
    let spelt : t ≡ encode c ++ encodes cs = sym e ∙ ap encodes is in
    let first = h (omega (arith, ap length spelt, length-append (encode c) (encodes cs), length-encode c, (len_utf8_bounds c).0)) in
    let same = encode_same c first.0 (encodes cs) rest (sym spelt ∙ first.2) in
    subst (λ d. is_whitespace d ≡ true) (sym same.0) first.1

-- a word off the front, with the white space before it
taken : (bs gap word t : List ℕ) → IsUtf8 bs → bs ≡ gap ++ (word ++ t) → 0 < length word → NoCharPasses is_not_whitespace gap → NoCharPasses is_whitespace word → (rest : List ℕ) × EmptyOrStartsWithPassing is_whitespace t rest → (words_in bs ≡ word ∷ words_in t) × IsUtf8 t
taken bs gap word t u whole long gap_white ([], spells_word, none_word) ends = absurd (omega (arith, ap length spells_word))
taken bs gap word t (ss, (ok, spells)) whole long (gs, spells_gap, none_gap) (x ∷ xs, spells_word, none_word) (rest, ends) =
    let behind = left_behind gs ss (word ++ t) (spells ∙ whole ∙ ap (λ g. g ++ (word ++ t)) (sym spells_gap)) ok in
    let rest_of = left_behind (x ∷ xs) behind.0 t (behind.2 ∙ ap (λ w. w ++ t) (sym spells_word)) behind.3 in
    let ts = rest_of.0 in
    let all : chars bs ≡ gs ++ ((x ∷ xs) ++ ts) = ap chars (sym spells) ∙ chars-encodes ss ok ∙ behind.1 ∙ ap (λ cs. gs ++ cs) rest_of.1 in
    let left : chars t ≡ ts = ap chars (sym rest_of.2) ∙ chars-encodes ts rest_of.3 in
    let cut = spaces_skipped gs ((x ∷ xs) ++ ts) none_gap ∙ first_word x xs ts none_word (white_first ts t rest rest_of.2 ends) in
    (ap (λ cs. map encodes (between_spaces cs)) all ∙ ap (map encodes) cut ∙ ap (λ w. w ∷ map encodes (between_spaces ts)) spells_word ∙ ap (λ cs. word ∷ map encodes (between_spaces cs)) (sym left), (ts, (rest_of.3, rest_of.2)))

none_left : (bs : List ℕ) → IsUtf8 bs → NoCharPasses is_not_whitespace bs → words_in bs ≡ []
none_left bs u (cs, spells, none) = ap (λ ds. map encodes (between_spaces ds)) (sym (chars_from_encodes cs bs u spells) ∙ sym (append-nil cs)) ∙ ap (map encodes) (spaces_skipped cs [] none)

-- a step from s to t, which may have given a word
pub steps : (s : SplitWhitespace) (r : Option (Bor (List ℕ))) (t : SplitWhitespace) → IsUtf8 (split_whitespace_rest s) → split_whitespace_steps s r t
    → YieldsFirstRef {S = SplitWhitespace} (λ s. words_in (split_whitespace_rest s)) s r t × IsUtf8 (split_whitespace_rest t)
steps s None t u h =
    let none = none_left (split_whitespace_rest s) u h.1 in
    ((none, ap (λ s. words_in (split_whitespace_rest s)) h.0 ∙ none), subst (λ s. IsUtf8 (split_whitespace_rest s)) (sym h.0) u)
steps s (Some x) t u (gap, whole, long, gap_white, word_plain, ends) = taken (split_whitespace_rest s) gap x.now (split_whitespace_rest t) u whole long gap_white word_plain ends

-- with a word, one less is left
pub goes : (can : List (List ℕ) → Type 0) → ((ws : List (List ℕ)) → can ws) → (s : List (List ℕ)) (r : Option (Bor (List ℕ))) (t : List (List ℕ)) → YieldsFirstRef (λ ws. ws) s r t → MakesProgress can (item_count (λ ws. ws)) s r t
goes can all s None t h = record { on = λ _. tt; keeps = tt; rests = λ _. tt }
goes can all s (Some x) t h = record { on = λ _. (all t, tt, omega (arith, ap length h)); keeps = all t; rests = λ _. tt }
