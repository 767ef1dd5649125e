-- What each line of a script lacks where it is malformed: the first word that is not as it should be decides.
use Rattle.std.specs.Prelude.{◌≡◌, ◌≢◌, ℕ, cond, ◌||◌, List, [], ◌∷◌, ◌++◌, Float, Result, codes, ◌==◌}
use Rattle.refusals.specs.declared.refusal.Refusal.{Refusal}
use Rattle.texts.specs.declared.fault.Expected.{Expected}
use Rattle.texts.specs.declared.fault.Expected.TheVariants as X
use Rattle.texts.specs.declared.field.Field.{Field}
use Rattle.texts.specs.declared.field.Field.TheVariants as F
use Rattle.texts.specs.Lacking.{Missing, Further, ThenWord, ThenNumber}
use Rattle.scripts.specs.declared.command.Word.{Word}
use Rattle.scripts.specs.declared.command.Word.TheVariants.{Sheet, Ids, Table, Open, Land, Propose, LookAhead, Book, Output, Close, GiveUp, Show}
use Rattle.scripts.specs.Command.{name_of, key_name_of}
use Rattle.scripts.specs.Strategy.{RatioWord, SaysRatios, BoundWord}

-- `keys` and then a kind; or a first word
pub data LacksLine (words : List (List ℕ)) (lacking : Expected) : Type 0 where
  of_keys : (behind : List (List ℕ)) → words ≡ codes "keys" ∷ behind → ThenWord X.KeyName (λ word kind. word ≡ key_name_of kind) (λ _. X.KeyName) Further behind lacking → LacksLine words lacking
  no_first_word : (word : List ℕ) (behind : List (List ℕ)) → words ≡ word ∷ behind → word ≢ codes "keys" → ((name : Word) → word ≢ name_of name) → lacking ≡ X.Word → LacksLine words lacking

-- a number, and then nothing
abbrev pub LacksNumber : Field → List (List ℕ) → Expected → Type 0
LacksNumber field = ThenNumber field Further

-- ratios up to a word that says none
pub record LacksRatio (words : List (List ℕ)) (lacking : Expected) : Type 0 where
  pub done : List (List ℕ)
  pub given : List Float
  pub word : List ℕ
  pub after : List (List ℕ)
  pub whole : words ≡ done ++ (word ∷ after)
  pub said : SaysRatios done given
  pub says_none : (x : Float) → RatioWord word x → ⊥
  pub is : lacking ≡ X.Ratio

-- a target, a threshold, and ratios
abbrev pub LacksLeveled : List (List ℕ) → Expected → Type 0
LacksLeveled = ThenNumber F.Target (ThenNumber F.Threshold LacksRatio)

-- a limit and a time to live, and then nothing
abbrev pub LacksFifo : List (List ℕ) → Expected → Type 0
LacksFifo = ThenNumber F.Limit (LacksNumber F.Ttl)

-- three numbers, and then nothing
abbrev pub LacksSizes : List (List ℕ) → Expected → Type 0
LacksSizes = ThenNumber F.Size (ThenNumber F.Created (LacksNumber F.Linked))

-- a key behind a mark, else a bound
abbrev pub bound_wanted : Expected → List ℕ → Expected
bound_wanted key [] = X.Bound
bound_wanted key (c ∷ _) = cond (c == 91 || c == 40) key X.Bound

-- with what is lacking where a word says no key
module _ {K : Type 0} (says : List ℕ → Result K Refusal → Type 0) (wanted : Expected) where
  -- a bound, and then the rest
  abbrev pub ThenBound : (List (List ℕ) → Expected → Type 0) → List (List ℕ) → Expected → Type 0
  ThenBound rest = ThenWord X.Bound (BoundWord says) (bound_wanted wanted) rest

  -- a key, and then the rest
  abbrev pub ThenKey : (List (List ℕ) → Expected → Type 0) → List (List ℕ) → Expected → Type 0
  ThenKey rest = ThenWord X.Key says (λ _. wanted) rest

  -- two bounds, and then nothing
  abbrev pub LacksBounds : List (List ℕ) → Expected → Type 0
  LacksBounds = ThenBound (ThenBound Further)

  -- a strategy's name, and its settings behind it
  pub data LacksStrategy (words : List (List ℕ)) (lacking : Expected) : Type 0 where
    no_word : Missing X.Strategy words lacking → LacksStrategy words lacking
    of_leveled : (behind : List (List ℕ)) → words ≡ codes "leveled" ∷ behind → LacksLeveled behind lacking → LacksStrategy words lacking
    of_fifo : (behind : List (List ℕ)) → words ≡ codes "fifo" ∷ behind → LacksFifo behind lacking → LacksStrategy words lacking
    of_major : (behind : List (List ℕ)) → words ≡ codes "major" ∷ behind → LacksNumber F.Target behind lacking → LacksStrategy words lacking
    of_drop_range : (behind : List (List ℕ)) → words ≡ codes "drop-range" ∷ behind → LacksBounds behind lacking → LacksStrategy words lacking
    no_strategy : (word : List ℕ) (behind : List (List ℕ)) → words ≡ word ∷ behind → word ≢ codes "leveled" → word ≢ codes "fifo" → word ≢ codes "major" → word ≢ codes "drop-range" → lacking ≡ X.Strategy → LacksStrategy words lacking

  -- a clock and a strategy
  abbrev pub LacksQuestion : List (List ℕ) → Expected → Type 0
  LacksQuestion = ThenNumber F.Clock LacksStrategy

  -- two keys and three numbers, and then nothing
  abbrev pub LacksBody : List (List ℕ) → Expected → Type 0
  LacksBody = ThenKey (ThenKey LacksSizes)

  -- a number, and what stands behind the numbers of a table
  abbrev pub LacksFresh : List (List ℕ) → Expected → Type 0
  LacksFresh = ThenNumber F.Number LacksBody

  -- a number, a level and a run, and what stands behind the numbers of a table
  abbrev pub LacksTable : List (List ℕ) → Expected → Type 0
  LacksTable = ThenNumber F.Number (ThenNumber F.Level (ThenNumber F.Run LacksBody))

  -- what stands behind a first word
  abbrev pub LacksCall : Word → List (List ℕ) → Expected → Type 0
  LacksCall Sheet = LacksNumber F.Places
  LacksCall Ids = LacksNumber F.Places
  LacksCall Table = LacksTable
  LacksCall Open = LacksNumber F.Blob
  LacksCall Land = LacksFresh
  LacksCall Propose = LacksQuestion
  LacksCall LookAhead = LacksQuestion
  LacksCall Book = LacksQuestion
  LacksCall Output = LacksFresh
  LacksCall Close = LacksNumber F.Ticket
  LacksCall GiveUp = LacksNumber F.Ticket
  LacksCall Show = Further
