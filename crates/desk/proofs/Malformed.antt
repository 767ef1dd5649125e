-- Where a line fails: for want of memory alone, or for what it lacks.
use Rattle.std.proofs.Common.{◌≡◌, ℕ, Bool, List, Some, None, Ok, Err, Option, Result, sym, refl, ap, ◌∙◌, subst, inl, inr}
use Rattle.std.specs.Result.{IsErrAnd, MatchResult}
use Rattle.refusals.specs.declared.refusal.Refusal.{Refusal}
use Rattle.texts.specs.declared.fault.Expected.{Expected}
use Rattle.texts.specs.declared.fault.Expected.TheVariants as E
use Rattle.texts.specs.declared.fault.Fault.{Fault}
use Rattle.texts.specs.declared.fault.Fault.TheVariants as F
use Rattle.texts.specs.Reading.{Reads, Plain, By, made}
use Rattle.texts.specs.Words.{words_of}
use Rattle.scripts.specs.declared.command.Command.{Command}
use Rattle.scripts.specs.declared.command.Command.TheVariants as C
use Rattle.scripts.specs.declared.command.Word.{Word}
use Rattle.scripts.specs.declared.command.Word.TheVariants as W
use Rattle.scripts.specs.declared.command.Line.{Line}
use Rattle.scripts.specs.Command.{SaysCall, SaysLine}
use Rattle.desk.specs.declared.desk.Desk.{Desk}
use Rattle.desk.specs.declared.histories.History.{History}
use Rattle.desk.specs.declared.histories.Phase.{Phase}
use Rattle.desk.specs.declared.histories.Phase.TheVariants.{Filling}
use Rattle.desk.specs.Carrying.{OnRefused}
use Rattle.desk.specs.History.{lacks, lacks_in}
use Rattle.desk.specs.Malformed.{admitted, OnlyMemory, OnlyOpen, OnMalformed, MalformedCall, IsMalformed, misread, no_line}

-- nothing is lacking where all is done
pub stands : (lack : Option Expected) → Ok tt ≡ admitted lack → lack ≡ None
stands None e = refl
stands (Some expected) e = absurd (let z : ◌≡◌ {A = Result (Unit {0}) Fault} (Ok tt) (Err (F.Malformed expected)) = e in cc)

-- what is lacking
pub lacking : (lack : Option Expected) (fault : Fault) → Err fault ≡ admitted lack → (expected : Expected) × (fault ≡ F.Malformed expected) × (lack ≡ Some expected)
lacking None fault e = absurd (let z : ◌≡◌ {A = Result (Unit {0}) Fault} (Err fault) (Ok tt) = e in cc)
lacking (Some expected) fault e = let z : ◌≡◌ {A = Result (Unit {0}) Fault} (Err fault) (Err (F.Malformed expected)) = e in (expected, cc, refl)

-- what fails for want of memory alone is neither refused nor malformed
pub unrefused : (r : Result (Unit {0}) Fault) (P : Refusal → Type 0) → OnlyMemory r → OnRefused r P
unrefused (Ok _) P h = tt
unrefused (Err (F.Malformed expected)) P h = tt
unrefused (Err (F.Refused refusal)) P h = absurd (let z : ◌≡◌ {A = Fault} (F.Refused refusal) F.Memory = h in cc)
unrefused (Err F.Memory) P h = tt

pub well_formed : (r : Result (Unit {0}) Fault) (P : Expected → Type 0) → OnlyMemory r → OnMalformed r P
well_formed (Ok _) P h = tt
well_formed (Err (F.Malformed expected)) P h = absurd (let z : ◌≡◌ {A = Fault} (F.Malformed expected) F.Memory = h in cc)
well_formed (Err (F.Refused refusal)) P h = tt
well_formed (Err F.Memory) P h = tt

pub malformed_weaker : (r : Result (Unit {0}) Fault) (P Q : Expected → Type 0) → ((expected : Expected) → P expected → Q expected) → OnMalformed r P → OnMalformed r Q
malformed_weaker (Ok _) P Q f h = tt
malformed_weaker (Err (F.Malformed expected)) P Q f h = f expected h
malformed_weaker (Err (F.Refused refusal)) P Q f h = tt
malformed_weaker (Err F.Memory) P Q f h = tt

-- a fault that `?` handed on
pub refused_for : (r : Result (Unit {0}) Fault) (f : Fault) (P : Refusal → Type 0) → IsErrAnd r (λ g. g ≡ f) → OnRefused (Err f) P → OnRefused r P
refused_for (Ok _) f P h e = absurd h
refused_for (Err g) f P h e = subst (λ g. OnRefused (Err g) P) (sym h) e

pub malformed_for : (r : Result (Unit {0}) Fault) (f : Fault) (P : Expected → Type 0) → IsErrAnd r (λ g. g ≡ f) → OnMalformed (Err f) P → OnMalformed r P
malformed_for (Ok _) f P h e = absurd h
malformed_for (Err g) f P h e = subst (λ g. OnMalformed (Err g) P) (sym h) e

pub malformed_as : (r : Result (Unit {0}) Fault) (P : Unit {0} → Type 0) (Q : Fault → Type 0) (R : Expected → Type 0) → MatchResult r P Q → ((expected : Expected) → Q (F.Malformed expected) → R expected) → OnMalformed r R
malformed_as (Ok _) P Q R h f = tt
malformed_as (Err (F.Malformed expected)) P Q R h f = f expected h
malformed_as (Err (F.Refused refusal)) P Q R h f = tt
malformed_as (Err F.Memory) P Q R h f = tt

-- a text that was read as no line
pub unread : (line out : List ℕ) (desk : Desk) (r : Result (Unit {0}) Fault) (f : Fault) → IsErrAnd r (λ g. g ≡ f) → Reads {T = Line} (Plain (SaysLine (words_of line))) (Err f) → OnMalformed r (λ expected. (desk ≡ desk) × (out ≡ out) × IsMalformed line desk expected)
unread line out desk r f h e = malformed_for r f (λ expected. (desk ≡ desk) × (out ≡ out) × IsMalformed line desk expected) h (of f e)
  where
    of : (f : Fault) → Reads {T = Line} (Plain (SaysLine (words_of line))) (Err f) → OnMalformed (Err f) (λ expected. (desk ≡ desk) × (out ≡ out) × IsMalformed line desk expected)
    of (F.Malformed expected) e = (refl, refl, no_line (λ said s. e (Ok said) s))
    of (F.Refused refusal) e = tt
    of F.Memory e = tt

-- words that were read as no call
pub unread_call : {K : Type 0} (says : List ℕ → Result K Refusal → Type 0) (word : Word) (words : List (List ℕ)) (h : History K) (out : List ℕ) (r : Result (Unit {0}) Fault) (f : Fault)
    → IsErrAnd r (λ g. g ≡ f) → lacks h word ≡ None → Reads {T = Command K} (SaysCall says word words) (Err f)
    → OnMalformed r (λ expected. (h ≡ h) × (out ≡ out) × MalformedCall says word words h expected)
unread_call {K} says word words h out r f e stands reads = malformed_for r f (λ expected. (h ≡ h) × (out ≡ out) × MalformedCall says word words h expected) e (of f reads)
  where
    of : (f : Fault) → Reads {T = Command K} (SaysCall says word words) (Err f) → OnMalformed (Err f) (λ expected. (h ≡ h) × (out ≡ out) × MalformedCall says word words h expected)
    of (F.Malformed expected) reads = (refl, refl, misread stands reads)
    of (F.Refused refusal) reads = tt
    of F.Memory reads = tt

-- a word that lacks an open book while the sheet is filled stands where the book is open
pub is_asked : (phase : Phase) (is_full : Bool) (word : Word) → lacks_in Filling is_full word ≡ Some E.OpenBook → lacks_in phase is_full word ≡ None → phase ≡ Filling → ⊥
is_asked phase is_full word e stands filling =
    let none : lacks_in Filling is_full word ≡ None = subst (λ p. lacks_in p is_full word ≡ None) filling stands in
    let z : ◌≡◌ {A = Option Expected} (Some E.OpenBook) None = sym e ∙ none in
    absurd cc

-- with an open book, what lacks memory or an open book lacks memory
pub with_book : (phase : Phase) (r : Result (Unit {0}) Fault) → (phase ≡ Filling → ⊥) → OnlyOpen phase r → OnlyMemory r
with_book phase (Ok _) h f = tt
with_book phase (Err e) h f = elim f [ inl m ↦ m | inr o ↦ absurd (h o.1) ]

-- the first word of a command
abbrev pub word_of : {K : Type 0} → Command K → Word
word_of (C.Sheet n) = W.Sheet
word_of (C.Ids n) = W.Ids
word_of (C.Table t) = W.Table
word_of (C.Open n) = W.Open
word_of (C.Land t) = W.Land
word_of (C.Propose q) = W.Propose
word_of (C.LookAhead q) = W.LookAhead
word_of (C.Book q) = W.Book
word_of (C.Output t) = W.Output
word_of (C.Close n) = W.Close
word_of (C.GiveUp n) = W.GiveUp
word_of C.Show = W.Show

module _ {K : Type 0} where
  by_word : {S : Type 0} (make : S → Command K) (word : Word) (says : Result S Refusal → Type 0) (command : Command K) → ((s : S) → word_of (make s) ≡ word) → By make says (Ok command) → word ≡ word_of command
  by_word {S} make word says command is b = of b.0 b.2
    where
      of : (s : Result S Refusal) → Ok command ≡ made make s → word ≡ word_of command
      of (Ok s) e = let z : ◌≡◌ {A = Result (Command K) Refusal} (Ok command) (Ok (make s)) = e in let same : command ≡ make s = cc in sym (ap word_of same ∙ is s)
      of (Err refusal) e = absurd (let z : ◌≡◌ {A = Result (Command K) Refusal} (Ok command) (Err refusal) = e in cc)

  module _ (says : List ℕ → Result K Refusal → Type 0) where
    -- words that say a command have its first word before them
    pub word_said : (word : Word) (words : List (List ℕ)) (command : Command K) → SaysCall says word words (Ok command) → word ≡ word_of command
    word_said W.Sheet words command s = by_word C.Sheet W.Sheet _ command (λ _. refl) s
    word_said W.Ids words command s = by_word C.Ids W.Ids _ command (λ _. refl) s
    word_said W.Table words command s = by_word C.Table W.Table _ command (λ _. refl) s
    word_said W.Open words command s = by_word C.Open W.Open _ command (λ _. refl) s
    word_said W.Land words command s = by_word C.Land W.Land _ command (λ _. refl) s
    word_said W.Propose words command s = by_word C.Propose W.Propose _ command (λ _. refl) s
    word_said W.LookAhead words command s = by_word C.LookAhead W.LookAhead _ command (λ _. refl) s
    word_said W.Book words command s = by_word C.Book W.Book _ command (λ _. refl) s
    word_said W.Output words command s = by_word C.Output W.Output _ command (λ _. refl) s
    word_said W.Close words command s = by_word C.Close W.Close _ command (λ _. refl) s
    word_said W.GiveUp words command s = by_word C.GiveUp W.GiveUp _ command (λ _. refl) s
    word_said W.Show words command s = sym (ap word_of s.1)

    -- where the book is asked, it is open
    pub asked_open : (word : Word) (words : List (List ℕ)) (command : Command K) (phase : Phase) (is_full : Bool) → SaysCall says word words (Ok command) → lacks_in Filling is_full (word_of command) ≡ Some E.OpenBook
        → lacks_in phase is_full word ≡ None → phase ≡ Filling → ⊥
    asked_open word words command phase is_full said e stands = is_asked phase is_full (word_of command) e (subst (λ w. lacks_in phase is_full w ≡ None) (word_said word words command said) stands)
