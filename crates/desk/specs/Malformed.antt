-- Why a line is malformed: as it stands, or where it stands.
use Rattle.std.specs.Prelude.{◌≡◌, ℕ, ◌<◌, List, length, Some, None, Ok, Err, Option, Result, IfErr, ◌⊎◌, ⊤}
use Rattle.refusals.specs.declared.refusal.Refusal.{Refusal}
use Rattle.texts.specs.KeyText.{StopWord, ByteWord}
use Rattle.texts.specs.declared.fault.Expected.{Expected}
use Rattle.texts.specs.declared.fault.Expected.TheVariants as E
use Rattle.texts.specs.declared.fault.Fault.{Fault}
use Rattle.texts.specs.declared.fault.Fault.TheVariants as F
use Rattle.texts.specs.Words.{words_of}
use Rattle.scripts.specs.declared.command.Command.{Command}
use Rattle.scripts.specs.declared.command.Command.TheVariants as C
use Rattle.scripts.specs.declared.command.Line.{Line}
use Rattle.scripts.specs.declared.command.Line.TheVariants as L
use Rattle.scripts.specs.declared.command.Word.{Word}
use Rattle.scripts.specs.Command.{SaysCall, SaysLine}
use Rattle.desk.specs.declared.desk.Desk.{Desk}
use Rattle.desk.specs.declared.desk.Desk.TheVariants.{Empty, Stops, Bytes}
use Rattle.desk.specs.declared.histories.History.{History}
use Rattle.desk.specs.declared.histories.Phase.{Phase}
use Rattle.desk.specs.declared.histories.Phase.TheVariants.{Filling}
use Rattle.desk.specs.History.{lacks, MayStand}

-- done where nothing is lacking
abbrev pub admitted : Option Expected → Result (Unit {0}) Fault
admitted None = Ok tt
admitted (Some expected) = Err (F.Malformed expected)

-- what can only fail for want of memory
abbrev pub OnlyMemory : Result (Unit {0}) Fault → Type 0
OnlyMemory result = IfErr result (λ e. e ≡ F.Memory)

-- what fails for want of memory, or of an open book
abbrev pub OnlyOpen : Phase → Result (Unit {0}) Fault → Type 0
OnlyOpen phase result = IfErr result (λ e. (e ≡ F.Memory) ⊎ ((e ≡ F.Malformed E.OpenBook) × (phase ≡ Filling)))

-- what holds where a line is malformed
abbrev pub OnMalformed : Result (Unit {0}) Fault → (Expected → Type 0) → Type 0
OnMalformed (Ok _) P = ⊤
OnMalformed (Err (F.Malformed expected)) P = P expected
OnMalformed (Err (F.Refused refusal)) P = ⊤
OnMalformed (Err F.Memory) P = ⊤

module _ {K : Type 0} (says : List ℕ → Result K Refusal → Type 0) where
  -- A first word and the words behind it: the word may not stand where the history is; or it may, and the words say nothing that it takes; or a sheet would have fewer places than tables.
  pub data MalformedCall (word : Word) (words : List (List ℕ)) (h : History K) (expected : Expected) : Type 0 where
    misplaced : lacks h word ≡ Some expected → MalformedCall word words h expected
    misread : MayStand h word → ((r : Result (Command K) Refusal) → SaysCall says word words r → ⊥) → MalformedCall word words h expected
    too_few_places : (places : ℕ) → MayStand h word → SaysCall says word words (Ok (C.Sheet places)) → places < length h.sheet.items → expected ≡ E.Place → MalformedCall word words h expected

-- a line that is malformed for the desk as it stands: no history has begun, or it is so in that history
abbrev pub MalformedLine : Line → Desk → Expected → Type 0
MalformedLine (L.Call word words) Empty expected = expected ≡ E.Keys
MalformedLine (L.Call word words) (Stops h) expected = MalformedCall StopWord word words h expected
MalformedLine (L.Call word words) (Bytes h) expected = MalformedCall ByteWord word words h expected
MalformedLine _ _ _ = ⊥

-- a text that says no line, or one that is malformed for the desk as it stands
pub data IsMalformed (line : List ℕ) (desk : Desk) (expected : Expected) : Type 0 where
  no_line : ((said : Line) → SaysLine (words_of line) said → ⊥) → IsMalformed line desk expected
  turned_down : (said : Line) → SaysLine (words_of line) said → MalformedLine said desk expected → IsMalformed line desk expected
