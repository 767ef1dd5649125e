-- The lines of a script: their first words, and what stands behind them.
use Rattle.std.specs.Prelude.{◌≡◌, ◌≢◌, ℕ, List, [], ◌∷◌, Ok, Err, Result, codes}
use Rattle.refusals.specs.declared.refusal.Refusal.{Refusal}
use Rattle.runs.specs.declared.fresh.Fresh.{Fresh}
use Rattle.runs.specs.declared.table.Table.{Table as StandingTable}
use Rattle.runs.specs.Fresh.{settled}
use Rattle.texts.specs.declared.fault.Expected.{Expected}
use Rattle.texts.specs.declared.fault.Fault.{Fault}
use Rattle.texts.specs.declared.fault.Fault.TheVariants.{Malformed}
use Rattle.scripts.specs.declared.command.KeyName.{KeyName}
use Rattle.scripts.specs.declared.command.KeyName.TheVariants.{Stop, Bytes}
use Rattle.texts.specs.declared.field.Field.{Field}
use Rattle.texts.specs.declared.field.Field.TheVariants as F
use Rattle.texts.specs.Field.{most_of}
use Rattle.texts.specs.Reading.{Plain, By, made_of_both}
use Rattle.texts.specs.Words.{Next, NextNumber}
use Rattle.scripts.specs.declared.command.Command.{Command}
use Rattle.scripts.specs.declared.command.Command.TheVariants as C
use Rattle.scripts.specs.declared.command.Line.{Line}
use Rattle.scripts.specs.declared.command.Line.TheVariants as L
use Rattle.scripts.specs.declared.command.Question.{Question}
use Rattle.scripts.specs.declared.command.Word.{Word}
use Rattle.scripts.specs.declared.command.Word.TheVariants.{Sheet, Ids, Table, Open, Land, Propose, LookAhead, Book, Output, Close, GiveUp, Show}
use Rattle.scripts.specs.Strategy.{SaysStrategy}

-- how a first word is spelt
abbrev pub name_of : Word → List ℕ
name_of Sheet = codes "sheet"
name_of Ids = codes "ids"
name_of Table = codes "table"
name_of Open = codes "open"
name_of Land = codes "land"
name_of Propose = codes "propose"
name_of LookAhead = codes "look-ahead"
name_of Book = codes "book"
name_of Output = codes "output"
name_of Close = codes "close"
name_of GiveUp = codes "give-up"
name_of Show = codes "show"

-- how a kind of keys is spelt
abbrev pub key_name_of : KeyName → List ℕ
key_name_of Stop = codes "stop"
key_name_of Bytes = codes "bytes"

-- what came of reading a text by its name: a text that is no name is malformed
abbrev pub ReadsName : {T : Type 0} → (T → List ℕ) → Expected → List ℕ → Result T Fault → Type 0
ReadsName name expected text (Ok t) = text ≡ name t
ReadsName name expected text (Err fault) = (fault ≡ Malformed expected) × ((t : _) → text ≢ name t)

-- no word, or `keys` and a kind, or a first word
abbrev pub SaysLine : List (List ℕ) → Line → Type 0
SaysLine words L.Blank = words ≡ []
SaysLine words (L.Keys kind) = words ≡ codes "keys" ∷ key_name_of kind ∷ []
SaysLine words (L.Call word behind) = words ≡ name_of word ∷ behind

-- a number, and then nothing
abbrev pub SaysNumber : Field → List (List ℕ) → ℕ → Type 0
SaysNumber field words n = NextNumber (most_of field) words n []

module _ {K : Type 0} (says : List ℕ → Result K Refusal → Type 0) where
  -- two keys and three numbers, and then nothing; the table has the number that stood before them
  pub record SaysBody (number : ℕ) (words : List (List ℕ)) (r : Result (Fresh K) Refusal) : Type 0 where
    pub min : Result K Refusal
    pub max : Result K Refusal
    pub size : ℕ
    pub created : ℕ
    pub linked : ℕ
    pub a : List (List ℕ)
    pub b : List (List ℕ)
    pub c : List (List ℕ)
    pub d : List (List ℕ)
    pub next_min : Next says words min a
    pub next_max : Next says a max b
    pub next_size : NextNumber (most_of F.Size) b size c
    pub next_created : NextNumber (most_of F.Created) c created d
    pub next_linked : NextNumber (most_of F.Linked) d linked []
    pub is : r ≡ made_of_both (λ min max. record { number = number; range = record { min = min; max = max }; size = size; created = created; linked = linked }) min max

  -- a number, and what stands behind the numbers of a table
  pub record SaysFresh (words : List (List ℕ)) (r : Result (Fresh K) Refusal) : Type 0 where
    pub number : ℕ
    pub after : List (List ℕ)
    pub next_number : NextNumber (most_of F.Number) words number after
    pub body : SaysBody number after r

  -- a number, a level and a run, and what stands behind the numbers of a table
  pub record SaysTable (words : List (List ℕ)) (r : Result (StandingTable K) Refusal) : Type 0 where
    pub number : ℕ
    pub level : ℕ
    pub run : ℕ
    pub a : List (List ℕ)
    pub b : List (List ℕ)
    pub after : List (List ℕ)
    pub next_number : NextNumber (most_of F.Number) words number a
    pub next_level : NextNumber (most_of F.Level) a level b
    pub next_run : NextNumber (most_of F.Run) b run after
    pub body : By (settled level run) (SaysBody number after) r

  -- a clock and a strategy
  pub record SaysQuestion (words : List (List ℕ)) (r : Result (Question K) Refusal) : Type 0 where
    pub clock : ℕ
    pub after : List (List ℕ)
    pub next_clock : NextNumber (most_of F.Clock) words clock after
    pub strategy : By (λ settings. record { clock = clock; settings = settings }) (SaysStrategy says after) r

  -- what stands behind a first word
  abbrev pub SaysCall : Word → List (List ℕ) → Result (Command K) Refusal → Type 0
  SaysCall Sheet words = By C.Sheet (Plain (SaysNumber F.Places words))
  SaysCall Ids words = By C.Ids (Plain (SaysNumber F.Places words))
  SaysCall Table words = By C.Table (SaysTable words)
  SaysCall Open words = By C.Open (Plain (SaysNumber F.Blob words))
  SaysCall Land words = By C.Land (SaysFresh words)
  SaysCall Propose words = By C.Propose (SaysQuestion words)
  SaysCall LookAhead words = By C.LookAhead (SaysQuestion words)
  SaysCall Book words = By C.Book (SaysQuestion words)
  SaysCall Output words = By C.Output (SaysFresh words)
  SaysCall Close words = By C.Close (Plain (SaysNumber F.Ticket words))
  SaysCall GiveUp words = By C.GiveUp (Plain (SaysNumber F.Ticket words))
  SaysCall Show words = Plain (λ command. (words ≡ []) × (command ≡ C.Show))
