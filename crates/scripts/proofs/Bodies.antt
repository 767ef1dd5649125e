-- The words of a table behind its numbers, read one by one.
use Rattle.std.proofs.Common.{◌≡◌, ℕ, List, [], ◌∷◌, Result, refl, subst}
use Rattle.refusals.specs.declared.refusal.Refusal.{Refusal}
use Rattle.runs.specs.declared.fresh.Fresh.{Fresh}
use Rattle.texts.specs.declared.field.Field.TheVariants as F
use Rattle.texts.specs.Field.{most_of}
use Rattle.texts.specs.Reading.{made_of_both}
use Rattle.texts.specs.Words.{NextNumber}
use Rattle.scripts.specs.Command.{SaysBody}
use Rattle.scripts.proofs.Readers.{HasNumber, number_at, behind}

-- the two words of the keys are read
module _ {K : Type 0} (says : List ℕ → Result K Refusal → Type 0) (number : ℕ) (ws : List (List ℕ)) {w v : List ℕ} {a b : List (List ℕ)} (first : ws ≡ w ∷ a) (second : a ≡ v ∷ b) where
  -- the body that was read, so far
  pub body : (min max : Result K Refusal) (size created linked : ℕ) (c d e : List (List ℕ)) → says w min → says v max
      → NextNumber (most_of F.Size) b size c → NextNumber (most_of F.Created) c created d → NextNumber (most_of F.Linked) d linked e → e ≡ []
      → (r : Result (Fresh K) Refusal) → r ≡ made_of_both (λ min max. record { number = number; range = record { min = min; max = max }; size = size; created = created; linked = linked }) min max
      → SaysBody says number ws r
  body min max size created linked c d e m n s t l end r is = record {
    min = min;
    max = max;
    size = size;
    created = created;
    linked = linked;
    a = a;
    b = b;
    c = c;
    d = d;
    next_min = record { word = w; next = first; said = m };
    next_max = record { word = v; next = second; said = n };
    next_size = s;
    next_created = t;
    next_linked = subst (λ e. NextNumber (most_of F.Linked) d linked e) end l;
    is = is;
  }

  module _ (r : Result (Fresh K) Refusal) (said : SaysBody says number ws r) where
    keys : b ≡ said.b
    keys = behind (behind refl first said.next_min) second said.next_max

    pub size_there : HasNumber (most_of F.Size) b
    size_there = number_at _ keys said.next_size

    module _ {c : List (List ℕ)} {size : ℕ} (third : NextNumber (most_of F.Size) b size c) where
      pub created_there : HasNumber (most_of F.Created) c
      created_there = number_at _ (behind keys third.next said.next_size) said.next_created

      pub linked_there : {d : List (List ℕ)} {created : ℕ} → NextNumber (most_of F.Created) c created d → HasNumber (most_of F.Linked) d
      linked_there fourth = number_at _ (behind (behind keys third.next said.next_size) fourth.next said.next_created) said.next_linked
