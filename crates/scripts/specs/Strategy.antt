-- What the words of a line say as a strategy and its settings.
use Rattle.std.specs.Prelude.{◌≡◌, ◌≢◌, ℕ, ◌≤◌, List, [], ◌∷◌, ◌++◌, length, Some, Ok, Err, codes, from_bits, Float, Result, Vec, ◌⊎◌, ⊤}
use Rattle.std.specs.Float.{binary32}
use Rattle.std.specs.Float.Parse.{parse_float}
use Rattle.std.specs.Str.Parse.{IsNumeral, digits_value}
use Rattle.std.specs.declared.ops.Bound.{Bound}
use Rattle.std.specs.declared.ops.Bound.TheVariants.{Unbounded, Included, Excluded}
use Rattle.refusals.specs.declared.refusal.Refusal.{Refusal}
use Rattle.keys.specs.declared.bounds.OwnedBounds.{OwnedBounds}
use Rattle.texts.specs.declared.fault.Fault.{Fault}
use Rattle.texts.specs.declared.field.Field.TheVariants as F
use Rattle.texts.specs.Field.{most_of}
use Rattle.texts.specs.Reading.{made_of_both}
use Rattle.texts.specs.Words.{Next, NextNumber}
use Rattle.levels.specs.declared.settings.Settings.{Settings as LeveledSettings}
use Rattle.levels.specs.Settings.{places}
use Rattle.strategies.specs.declared.fifo.FifoSettings.{FifoSettings}
use Rattle.strategies.specs.declared.major.MajorSettings.{MajorSettings}
use Rattle.standard.specs.declared.standard.Settings.{Settings}
use Rattle.standard.specs.declared.standard.Settings.TheVariants.{Leveled, Fifo, Major, DropRange}

-- the bits of an f32, one to eight hex digits behind `0x`
pub record BitsWord (w : List ℕ) (x : Float) : Type 0 where
  pub digits : List ℕ
  pub whole : w ≡ codes "0x" ++ digits
  pub hex : IsNumeral 16 digits
  pub few : length digits ≤ 8
  pub is : x ≡ from_bits binary32 (digits_value 16 digits)

-- a decimal
pub record DecimalWord (w : List ℕ) (x : Float) : Type 0 where
  pub plain : (digits : List ℕ) → w ≢ codes "0x" ++ digits
  pub reads : parse_float binary32 w ≡ Some x

-- a word says a ratio
abbrev pub RatioWord : List ℕ → Float → Type 0
RatioWord w x = BitsWord w x ⊎ DecimalWord w x

-- each word says a ratio
abbrev pub SaysRatios : List (List ℕ) → List Float → Type 0
SaysRatios [] [] = ⊤
SaysRatios [] (x ∷ xs) = ⊥
SaysRatios (w ∷ ws) [] = ⊥
SaysRatios (w ∷ ws) (x ∷ xs) = RatioWord w x × SaysRatios ws xs

-- what came of reading, where a vector is its list
abbrev pub listed : {X A : Type 0} → Result (Vec X A) Fault → Result (List X) Fault
listed (Ok v) = Ok v.items
listed (Err fault) = Err fault

-- a target, a threshold, and ratios, which are all counted: the first five are kept
pub record SaysLeveled (words : List (List ℕ)) (s : LeveledSettings) : Type 0 where
  pub between : List (List ℕ)
  pub after : List (List ℕ)
  pub given : List Float
  pub target : NextNumber (most_of F.Target) words s.target_size between
  pub threshold : NextNumber (most_of F.Threshold) between s.threshold after
  pub ratios : SaysRatios after given
  pub count : s.given ≡ length given
  pub kept : s.ratios ≡ places given

-- a limit and a time to live, and then nothing
pub record SaysFifo (words : List (List ℕ)) (s : FifoSettings) : Type 0 where
  pub between : List (List ℕ)
  pub limit : NextNumber (most_of F.Limit) words s.limit between
  pub ttl : NextNumber (most_of F.Ttl) between s.ttl_seconds []

-- a target, and then nothing
abbrev pub SaysMajor : List (List ℕ) → MajorSettings → Type 0
SaysMajor words s = NextNumber (most_of F.Target) words s.target_size []

-- how a strategy is spelt: only a range drop has keys, which may be refused
abbrev pub strategy_name : {K : Type 0} → Result (Settings K) Refusal → List ℕ
strategy_name (Ok (Leveled s)) = codes "leveled"
strategy_name (Ok (Fifo s)) = codes "fifo"
strategy_name (Ok (Major s)) = codes "major"
strategy_name (Ok (DropRange bounds)) = codes "drop-range"
strategy_name (Err refusal) = codes "drop-range"

module _ {K : Type 0} (says : List ℕ → Result K Refusal → Type 0) where
  -- a key behind a mark
  abbrev pub KeyBehind : List ℕ → List ℕ → Result K Refusal → Type 0
  KeyBehind mark w r = (text : List ℕ) × (w ≡ mark ++ text) × says text r

  -- `*`, or a key behind `[` where it is included and behind `(` where it is not
  abbrev pub BoundWord : List ℕ → Result (Bound K) Refusal → Type 0
  BoundWord w (Ok Unbounded) = w ≡ codes "*"
  BoundWord w (Ok (Included key)) = KeyBehind (codes "[") w (Ok key)
  BoundWord w (Ok (Excluded key)) = KeyBehind (codes "(") w (Ok key)
  BoundWord w (Err refusal) = KeyBehind (codes "[") w (Err refusal) ⊎ KeyBehind (codes "(") w (Err refusal)

  -- two bounds, and then nothing
  pub record SaysBounds (words : List (List ℕ)) (r : Result (OwnedBounds K) Refusal) : Type 0 where
    pub start : Result (Bound K) Refusal
    pub last : Result (Bound K) Refusal
    pub between : List (List ℕ)
    pub next_start : Next BoundWord words start between
    pub next_last : Next BoundWord between last []
    pub is : r ≡ made_of_both (λ start last. record { start = start; end = last }) start last

  -- a strategy's settings, to the end of the line
  abbrev pub SaysSettings : List (List ℕ) → Result (Settings K) Refusal → Type 0
  SaysSettings words (Ok (Leveled s)) = SaysLeveled words s
  SaysSettings words (Ok (Fifo s)) = SaysFifo words s
  SaysSettings words (Ok (Major s)) = SaysMajor words s
  SaysSettings words (Ok (DropRange bounds)) = SaysBounds words (Ok bounds)
  SaysSettings words (Err refusal) = SaysBounds words (Err refusal)

  -- a strategy's name, and behind it its settings
  pub record SaysStrategy (words : List (List ℕ)) (r : Result (Settings K) Refusal) : Type 0 where
    pub behind : List (List ℕ)
    pub spelt : words ≡ strategy_name r ∷ behind
    pub settings : SaysSettings behind r
