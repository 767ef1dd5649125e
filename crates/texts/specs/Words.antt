-- The words of a line, and what a word says as a number.
use Rattle.std.specs.Prelude.{◌≡◌, ℕ, cond, ◌&&◌, List, ◌∷◌, map, filter, length, Some, None, Option, ◌==◌, nat_le, nat_lt}
use Rattle.std.specs.Char.{is_whitespace}
use Rattle.std.specs.List.{before_first, slice_split}
use Rattle.std.specs.Str.Parse.{digits_value}
use Rattle.std.specs.Str.{all_ascii_digits, chars, encode_utf8_all}

-- one decimal digit or more, and nothing else, that write a number of at most `most`
abbrev pub decimal_of : ℕ → List ℕ → Option ℕ
decimal_of most ds = cond (all_ascii_digits ds && (nat_lt 0 (length ds) && nat_le (digits_value 10 ds) most)) (Some (digits_value 10 ds)) None

-- a comment begins at the first #
abbrev pub uncommented : List ℕ → List ℕ
uncommented line = before_first (λ c. c == 35) line

-- the characters between white space
abbrev pub between_spaces : List ℕ → List (List ℕ)
between_spaces cs = filter (λ w. nat_lt 0 (length w)) (slice_split is_whitespace cs)

-- the words of a text
abbrev pub words_in : List ℕ → List (List ℕ)
words_in text = map encode_utf8_all (between_spaces (chars text))

-- the words of a line, without its comment
abbrev pub words_of : List ℕ → List (List ℕ)
words_of line = words_in (uncommented line)

-- the next word says t, and others are left
pub record Next {T : Type 0} (says : List ℕ → T → Type 0) (before : List (List ℕ)) (t : T) (after : List (List ℕ)) : Type 0 where
  pub word : List ℕ
  pub next : before ≡ word ∷ after
  pub said : says word t

-- the next word writes the number n
abbrev pub NextNumber : ℕ → List (List ℕ) → ℕ → List (List ℕ) → Type 0
NextNumber most before n after = Next (λ word n. decimal_of most word ≡ Some n) before n after
