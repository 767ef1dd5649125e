-- What came of reading words, where `says` is what the words say: a thing, or that it is refused.
use Rattle.std.specs.Prelude.{◌≡◌, List, ℕ, Ok, Err, Result, ⊤}
use Rattle.refusals.specs.declared.refusal.Refusal.{Refusal}
use Rattle.texts.specs.declared.fault.Fault.{Fault}
use Rattle.texts.specs.declared.fault.Fault.TheVariants.{Malformed, Refused, Memory}

-- what came of reading a word, before the rest of the line is read: a malformed word says nothing of the kind
abbrev pub Reading : {T : Type 0} → (List ℕ → Result T Refusal → Type 0) → List ℕ → Result (Result T Refusal) Fault → Type 0
Reading says w (Ok r) = says w r
Reading says w (Err (Malformed expected)) = (r : _) → says w r → ⊥
Reading says w (Err (Refused refusal)) = ⊥
Reading says w (Err Memory) = ⊤

-- what came of reading words to the end of their line: malformed words say nothing of the kind, and refused words say the refusal
abbrev pub Reads : {T : Type 0} → (Result T Refusal → Type 0) → Result T Fault → Type 0
Reads says (Ok t) = says (Ok t)
Reads says (Err (Malformed expected)) = (r : _) → says r → ⊥
Reads says (Err (Refused refusal)) = says (Err refusal)
Reads says (Err Memory) = ⊤

-- nothing is refused
abbrev pub Plain : {T : Type 0} → (T → Type 0) → Result T Refusal → Type 0
Plain says (Ok t) = says t
Plain says (Err refusal) = ⊥

-- a thing made of another, or its refusal
abbrev pub made : {S T : Type 0} → (S → T) → Result S Refusal → Result T Refusal
made make (Ok s) = Ok (make s)
made make (Err refusal) = Err refusal

-- a thing made of two others, or the first refusal
abbrev pub made_of_both : {A B T : Type 0} → (A → B → T) → Result A Refusal → Result B Refusal → Result T Refusal
made_of_both make (Ok a) b = made (make a) b
made_of_both make (Err refusal) b = Err refusal

-- what is said by way of another thing, which `says` is about
abbrev pub By : {S T : Type 0} → (S → T) → (Result S Refusal → Type 0) → Result T Refusal → Type 0
By {S} make says r = (s : Result S Refusal) × says s × (r ≡ made make s)
