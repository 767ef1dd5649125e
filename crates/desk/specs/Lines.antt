-- A script answered line after line, where the bytes that its reader gives and its writer holds are known.
use Rattle.std.specs.Prelude.{◌≡◌, ℕ, ◌+◌, ◌<◌, List, [], ◌++◌, length, Option, ⊤}
use Rattle.std.specs.Io.BufRead.{first_line, drop_through}
use Rattle.std.specs.Io.Iter.{u64_saturate}
use Rattle.std.specs.Io.KnownBytes.{Appends}
use Rattle.texts.specs.declared.fault.Fault.{Fault}
use Rattle.texts.specs.declared.fault.Fault.TheVariants as F
use Rattle.desk.specs.declared.desk.Desk.{Desk}
use Rattle.desk.specs.declared.desk.Desk.TheVariants.{Empty}
use Rattle.desk.specs.declared.lines.Cause.{Cause}
use Rattle.desk.specs.declared.lines.Cause.TheVariants.{Line, Stream}
use Rattle.desk.specs.Carrying.{Answers}
use Rattle.desk.specs.Malformed.{IsMalformed}

-- a line is answered, and its answer is written behind what the writer holds
pub record WritesAnswer (line : List ℕ) (desk desk' : Desk) (before after : Option (List ℕ)) : Type 0 where
  pub text : List ℕ
  pub answers : Answers [] text line desk desk'
  pub written : Appends before after text

-- why a line is not carried out: it is malformed for the desk as it stands, or memory is wanting
abbrev pub IsAtFault : Fault → List ℕ → Desk → Type 0
IsAtFault (F.Malformed expected) line desk = IsMalformed line desk expected
IsAtFault (F.Refused refusal) line desk = ⊥
IsAtFault F.Memory line desk = ⊤

-- so many lines of a script are answered one after another, from an empty desk: the desk then, all their answers, and the bytes of the script that are left
pub data Answered (script : List ℕ) : ℕ → Desk → List ℕ → List ℕ → Type 0 where
  none : Answered script 0 Empty [] script
  one_more : {n : ℕ} {desk desk' : Desk} {texts text bytes : List ℕ} → Answered script n desk texts bytes → 0 < length bytes → Answers [] text (first_line bytes) desk desk' → Answered script (n + 1) desk' (texts ++ text) (drop_through 10 bytes)

-- all lines of a script are answered, and the answers are written behind what the writer holds
pub record AnswersAll (script : List ℕ) (before after : Option (List ℕ)) : Type 0 where
  pub lines : ℕ
  pub desk : Desk
  pub texts : List ℕ
  pub answered : Answered script lines desk texts []
  pub written : Appends before after texts

-- a script is given up at a line of this number, which is not carried out: the answers of the lines before it, and no more, are written
pub record GivesUpAt (number : ℕ) (fault : Fault) (script : List ℕ) (before after : Option (List ℕ)) : Type 0 where
  pub lines : ℕ
  pub desk : Desk
  pub texts : List ℕ
  pub bytes : List ℕ
  pub answered : Answered script lines desk texts bytes
  pub next : 0 < length bytes
  pub fails : IsAtFault fault (first_line bytes) desk
  pub counted : number ≡ u64_saturate (lines + 1)
  pub written : Appends before after texts

-- what holds of the fault of the line at which a script is given up; nothing is said of a script that could not be read, or of answers that could not be written
abbrev pub ForFault : Cause → (Fault → Type 0) → Type 0
ForFault (Line fault) P = P fault
ForFault (Stream e) P = ⊤
