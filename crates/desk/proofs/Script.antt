-- A script answered as far as it was read.
use Rattle.std.proofs.Common.{◌≡◌, ℕ, ◌+◌, ◌<◌, List, [], ◌++◌, append-nil, append_assoc, length, Some, None, Option, Ok, Err, sym, refl, ap, ◌∙◌, subst, arith}
use Rattle.std.specs.Prelude.{Result, IfSome, IfOk, IfErr}
use Rattle.std.specs.Result.{IsOkAnd, IsErrAnd}
use Rattle.std.specs.Io.BufRead.{first_line, drop_through, DropsThrough}
use Rattle.std.specs.Io.Iter.{u64_saturate}
use Rattle.std.specs.Io.KnownBytes.{Appends, Keeps}
use Rattle.texts.specs.declared.fault.Fault.{Fault}
use Rattle.texts.specs.declared.fault.Fault.TheVariants as F
use Rattle.desk.specs.declared.desk.Desk.{Desk}
use Rattle.desk.specs.declared.desk.Desk.TheVariants.{Empty}
use Rattle.desk.specs.Carrying.{OnRefused, Answers}
use Rattle.desk.specs.Malformed.{OnMalformed, IsMalformed}
use Rattle.desk.specs.declared.lines.Cause.{Cause}
use Rattle.desk.specs.declared.lines.Cause.TheVariants.{Line, Stream}
use Rattle.desk.specs.Lines.{WritesAnswer, IsAtFault, Answered, none, one_more, GivesUpAt, ForFault}

pub nothing_yet : (held : Option (List ℕ)) → Appends held held []
nothing_yet None = tt
nothing_yet (Some xs) = sym (append-nil xs)

one_behind : (a b c : Option (List ℕ)) (xs ys : List ℕ) → Appends a b xs → Appends b c ys → Appends a c (xs ++ ys)
one_behind None b c xs ys e f = tt
one_behind (Some s) None c xs ys e f = absurd e
one_behind (Some s) (Some t) None xs ys e f = absurd f
one_behind (Some s) (Some t) (Some u) xs ys e f = f ∙ (ap (λ l. l ++ ys) e ∙ append_assoc s xs ys)

as_before : (a b c : Option (List ℕ)) (xs : List ℕ) → Appends a b xs → Keeps b c → Appends a c xs
as_before None b c xs e f = tt
as_before (Some s) None c xs e f = absurd e
as_before (Some s) (Some t) None xs e f = absurd f
as_before (Some s) (Some t) (Some u) xs e f = f ∙ e

-- so many lines are answered, their answers are written, and these bytes are left to be read
pub record SoFar (script : List ℕ) (desk : Desk) (before after : Option (List ℕ)) (left : Option (List ℕ)) (number : ℕ) : Type 0 where
  pub lines : ℕ
  pub texts : List ℕ
  pub bytes : List ℕ
  pub answered : Answered script lines desk texts bytes
  pub written : Appends before after texts
  pub rest : left ≡ Some bytes
  pub counted : number ≡ u64_saturate lines

pub begun : (known : Option (List ℕ)) (desk : Desk) (held left : Option (List ℕ)) → desk ≡ Empty → left ≡ known → IfSome known (λ script. SoFar script desk held held left 0)
begun None desk held left e f = tt
begun (Some script) desk held left e f =
    record { lines = 0; texts = []; bytes = script; answered = subst (λ d. Answered script 0 d [] script) (sym e) none; written = nothing_yet held; rest = f; counted = refl }

-- what the next line of the script is, and what is left behind it
abbrev pub IsNext : List ℕ → Option (List ℕ) → Option (List ℕ) → Type 0
IsNext line left left' = IfSome left (λ bytes. (0 < length bytes) × (line ≡ first_line bytes)) × DropsThrough left left' 10

counts : (n number number' : ℕ) → number ≡ u64_saturate n → number' ≡ u64_saturate (number + 1) → number' ≡ u64_saturate (n + 1)
counts n number number' e f = omega (arith, e, f)

module _ (desk : Desk) (before held held' left left' : Option (List ℕ)) (number number' : ℕ) (count : number' ≡ u64_saturate (number + 1)) where
  one_line : (script line : List ℕ) (desk' : Desk) → SoFar script desk before held left number → IsNext line left left' → WritesAnswer line desk desk' held held' → SoFar script desk' before held' left' number'
  one_line script line desk' so next w =
      let here : IsNext line (Some so.bytes) left' = subst (λ l. IsNext line l left') so.rest next in
      record {
        lines = so.lines + 1;
        texts = so.texts ++ w.text;
        bytes = drop_through 10 so.bytes;
        answered = one_more so.answered here.0.0 (subst (λ l. Answers [] w.text l desk desk') here.0.1 w.answers);
        written = one_behind before held held' so.texts w.text so.written w.written;
        rest = here.1;
        counted = counts so.lines number number' so.counted count;
      }

  gives_up : (script line : List ℕ) (fault : Fault) → SoFar script desk before held left number → IsNext line left left' → IsAtFault fault line desk → Keeps held held' → GivesUpAt number' fault script before held'
  gives_up script line fault so next fails kept =
      let here : IsNext line (Some so.bytes) left' = subst (λ l. IsNext line l left') so.rest next in
      record {
        lines = so.lines;
        desk = desk;
        texts = so.texts;
        bytes = so.bytes;
        answered = so.answered;
        next = here.0.0;
        fails = subst (λ l. IsAtFault fault l desk) here.0.1 fails;
        counted = counts so.lines number number' so.counted count;
        written = as_before before held held' so.texts so.written kept;
      }

  module _ {X E : Type 0} (bytes_of : X → List ℕ) where
    -- a line was read and answered
    pub goes_on : (known : Option (List ℕ)) (item : Result X E) (desk' : Desk) → IfSome known (λ script. SoFar script desk before held left number) → IfOk item (λ x. IsNext (bytes_of x) left left')
        → IsOkAnd item (λ x. WritesAnswer (bytes_of x) desk desk' held held') → IfSome known (λ script. SoFar script desk' before held' left' number')
    goes_on None item desk' so next w = tt
    goes_on (Some script) (Ok x) desk' so next w = one_line script (bytes_of x) desk' so next w
    goes_on (Some script) (Err e) desk' so next w = absurd w

    -- a line was read and not carried out
    pub stops : (known : Option (List ℕ)) (item : Result X E) (cause : Cause) → IfSome known (λ script. SoFar script desk before held left number) → IfOk item (λ x. IsNext (bytes_of x) left left')
        → ForFault cause (λ fault. IsOkAnd item (λ x. IsAtFault fault (bytes_of x) desk × Keeps held held')) → IfSome known (λ script. ForFault cause (λ fault. GivesUpAt number' fault script before held'))
    stops None item cause so next fails = tt
    stops (Some script) item (Stream e) so next fails = tt
    stops (Some script) (Ok x) (Line fault) so next fails = gives_up script (bytes_of x) fault so next fails.0 fails.1
    stops (Some script) (Err e) (Line fault) so next fails = absurd fails

-- what holds of a fault that `?` handed on
pub failed_for : (r : Result (Unit {0}) Cause) (f : Fault) (P : Fault → Type 0) → IsErrAnd r (λ c. c ≡ Line f) → P f → IfErr r (λ cause. ForFault cause P)
failed_for (Ok _) f P h p = absurd h
failed_for (Err c) f P h p = subst (λ c. ForFault c P) (sym h) p

-- a line that the desk has not carried out
pub at_fault : (f : Fault) (line : List ℕ) (desk : Desk) (A B : Type 0) → OnMalformed (Err f) (λ expected. A × B × IsMalformed line desk expected) → OnRefused (Err f) (λ _. ⊥) → IsAtFault f line desk
at_fault (F.Malformed expected) line desk A B h n = h.2
at_fault (F.Refused refusal) line desk A B h n = n
at_fault F.Memory line desk A B h n = tt

pub keeps : (held : Option (List ℕ)) → Keeps held held
keeps None = tt
keeps (Some xs) = refl
