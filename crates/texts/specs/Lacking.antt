-- What a malformed line lacks: what the first word that is not as it should be should have been.
use Rattle.std.specs.Prelude.{◌≡◌, ◌≢◌, ℕ, List, [], ◌∷◌, Some, ◌⊎◌, ⊤}
use Rattle.texts.specs.declared.fault.Expected.{Expected}
use Rattle.texts.specs.declared.fault.Expected.TheVariants.{Number, End}
use Rattle.texts.specs.declared.fault.Fault.{Fault}
use Rattle.texts.specs.declared.fault.Fault.TheVariants.{Malformed, Refused, Memory}
use Rattle.texts.specs.declared.field.Field.{Field}
use Rattle.texts.specs.Field.{most_of}
use Rattle.texts.specs.Words.{Next, NextNumber, decimal_of}

-- a fault names what is lacking, if it is that of a malformed line
abbrev pub Names : (Expected → Type 0) → Fault → Type 0
Names lacks (Malformed expected) = lacks expected
Names lacks (Refused refusal) = ⊤
Names lacks Memory = ⊤

-- a fault is that of a malformed line, and names what is lacking
abbrev pub OnlyNames : (Expected → Type 0) → Fault → Type 0
OnlyNames lacks (Malformed expected) = lacks expected
OnlyNames lacks (Refused refusal) = ⊥
OnlyNames lacks Memory = ⊥

-- no word is left, and this is lacking
abbrev pub Missing : Expected → List (List ℕ) → Expected → Type 0
Missing wanted words lacking = (words ≡ []) × (lacking ≡ wanted)

-- a word is left, and the end is lacking
abbrev pub Further : List (List ℕ) → Expected → Type 0
Further words lacking = (words ≢ []) × (lacking ≡ End)

-- the next word is no number of its width
abbrev pub NoNumber : Field → List (List ℕ) → Expected → Type 0
NoNumber field words lacking = ((n : ℕ) (after : List (List ℕ)) → NextNumber (most_of field) words n after → ⊥) × (lacking ≡ Number field)

-- the next word says nothing of the kind, and what is lacking follows from the word
pub record Unsaid {T : Type 0} (says : List ℕ → T → Type 0) (wanted : List ℕ → Expected) (words : List (List ℕ)) (lacking : Expected) : Type 0 where
  pub word : List ℕ
  pub after : List (List ℕ)
  pub next : words ≡ word ∷ after
  pub says_none : (t : T) → says word t → ⊥
  pub is : lacking ≡ wanted word

-- the next word is as it should be, and something is lacking behind it
pub record Behind {T : Type 0} (says : List ℕ → T → Type 0) (lacks : List (List ℕ) → Expected → Type 0) (words : List (List ℕ)) (lacking : Expected) : Type 0 where
  pub thing : T
  pub after : List (List ℕ)
  pub reads : Next says words thing after
  pub is : lacks after lacking

-- a word of a kind, and then the rest: `none` is lacking where no word is left
abbrev pub ThenWord : {T : Type 0} → Expected → (List ℕ → T → Type 0) → (List ℕ → Expected) → (List (List ℕ) → Expected → Type 0) → List (List ℕ) → Expected → Type 0
ThenWord none says wanted rest words lacking = Missing none words lacking ⊎ (Unsaid says wanted words lacking ⊎ Behind says rest words lacking)

-- a number, and then the rest
abbrev pub ThenNumber : Field → (List (List ℕ) → Expected → Type 0) → List (List ℕ) → Expected → Type 0
ThenNumber field rest words lacking = NoNumber field words lacking ⊎ Behind (λ word n. decimal_of (most_of field) word ≡ Some n) rest words lacking
