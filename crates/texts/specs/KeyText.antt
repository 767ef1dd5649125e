-- What a word says as a key, and how a key is written.
use Rattle.std.specs.Prelude.{◌≡◌, ℕ, ◌-◌, ◌^◌, cond, List, [], ◌∷◌, ◌++◌, length, Some, None, Ok, Err, decimal, Option, Result, ◌==◌, nat_lt}
use Rattle.refusals.specs.declared.refusal.Refusal.{Refusal}
use Rattle.refusals.specs.declared.refusal.Refusal.TheVariants.{KeyTooLong}
use Rattle.keys.specs.declared.byte_key.ByteKey.{ByteKey}
use Rattle.keys.specs.declared.stop_key.StopKey.{StopKey}
use Rattle.texts.specs.Hex.{bytes_of, hexed}
use Rattle.texts.specs.Words.{decimal_of}

-- a tour and a stop in decimal digits, each below 2^32, with a colon between them
pub record StopWord (w : List ℕ) (r : Result StopKey Refusal) : Type 0 where
  pub before : List ℕ
  pub after : List ℕ
  pub key : StopKey
  pub whole : w ≡ before ++ (58 ∷ after)
  pub tour : decimal_of (2 ^ 32 - 1) before ≡ Some key.tour
  pub stop : decimal_of (2 ^ 32 - 1) after ≡ Some key.stop
  pub is : r ≡ Ok key

-- tour and stop in decimal digits, with a colon between them
abbrev pub stop_text : StopKey → List ℕ
stop_text k = decimal k.tour ++ (58 ∷ decimal k.stop)

-- the bytes of a word: `-` has none, and any other word is pairs of hex digits
abbrev pub word_bytes : List ℕ → Option (List ℕ)
word_bytes [] = None
word_bytes (c ∷ []) = cond (c == 45) (Some []) None
word_bytes (c ∷ d ∷ cs) = bytes_of (c ∷ d ∷ cs)

-- a key of at most 32 bytes, or the refusal
pub record ByteWord (w : List ℕ) (r : Result ByteKey Refusal) : Type 0 where
  pub bytes : List ℕ
  pub whole : word_bytes w ≡ Some bytes
  pub is : r ≡ cond (nat_lt 32 (length bytes)) (Err KeyTooLong) (Ok bytes)

-- two hex digits for each byte, and `-` for none
abbrev pub bytes_text : List ℕ → List ℕ
bytes_text [] = 45 ∷ []
bytes_text (b ∷ bs) = hexed (b ∷ bs)

-- a byte key is written by its bytes
abbrev pub byte_text : ByteKey → List ℕ
byte_text = bytes_text
