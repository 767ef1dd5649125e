-- The bounds of a range drop, read one by one.
use Rattle.std.proofs.Common.{◌≡◌, ◌≢◌, ℕ, List, [], ◌∷◌, ◌++◌, Ok, Err, Result, codes, subst, inl, inr}
use Rattle.std.specs.declared.ops.Bound.{Bound}
use Rattle.std.specs.declared.ops.Bound.TheVariants.{Unbounded, Included, Excluded}
use Rattle.refusals.specs.declared.refusal.Refusal.{Refusal}
use Rattle.keys.specs.declared.bounds.OwnedBounds.{OwnedBounds}
use Rattle.texts.specs.Reading.{made_of_both}
use Rattle.texts.specs.Words.{Next}
use Rattle.scripts.specs.Strategy.{BoundWord, SaysBounds}

module _ {K : Type 0} (says : List ℕ → Result K Refusal → Type 0) where
  -- a word that is no star and has no mark
  pub no_bound : (w : List ℕ) → w ≢ codes "*" → ((rest : List ℕ) → w ≢ codes "[" ++ rest) → ((rest : List ℕ) → w ≢ codes "(" ++ rest) → (r : Result (Bound K) Refusal) → BoundWord says w r → ⊥
  no_bound w star included excluded (Ok Unbounded) h = star h
  no_bound w star included excluded (Ok (Included key)) h = included h.0 h.1
  no_bound w star included excluded (Ok (Excluded key)) h = excluded h.0 h.1
  no_bound w star included excluded (Err refusal) (inl h) = included h.0 h.1
  no_bound w star included excluded (Err refusal) (inr h) = excluded h.0 h.1

  -- two words, and then nothing
  pub bounds : (ws : List (List ℕ)) {w v : List ℕ} {a b : List (List ℕ)} (start last : Result (Bound K) Refusal) → ws ≡ w ∷ a → a ≡ v ∷ b → b ≡ [] → BoundWord says w start → BoundWord says v last
      → (r : Result (OwnedBounds K) Refusal) → r ≡ made_of_both (λ start last. record { start = start; end = last }) start last → SaysBounds says ws r
  bounds ws {w} {v} {a} {b} start last first second end m n r is = record {
    start = start;
    last = last;
    between = a;
    next_start = record { word = w; next = first; said = m };
    next_last = subst (Next (BoundWord says) a last) end (record { word = v; next = second; said = n });
    is = is;
  }
