-- Ratios to the end of a line, read one by one.
use Rattle.std.proofs.Common.{◌≡◌, ℕ, List, [], ◌∷◌, ◌++◌, append_assoc, Float, Ok, Err, Result, Vec, sym, ap, ◌∙◌, subst}
use Rattle.std.specs.Result.{IsErrAnd}
use Rattle.texts.specs.declared.fault.Fault.{Fault}
use Rattle.scripts.specs.Strategy.{RatioWord, SaysRatios, listed}

-- the ratios xs were read, and words are left
pub record Read (words left : List (List ℕ)) (xs : List Float) : Type 0 where
  pub done : List (List ℕ)
  pub whole : words ≡ done ++ left
  pub said : SaysRatios done xs

one_more : (done : List (List ℕ)) (xs : List Float) (w : List ℕ) (x : Float) → SaysRatios done xs → RatioWord w x → SaysRatios (done ++ (w ∷ [])) (xs ++ (x ∷ []))
one_more [] [] w x h r = (r, tt)
one_more [] (y ∷ xs) w x h r = absurd h
one_more (v ∷ done) [] w x h r = absurd h
one_more (v ∷ done) (y ∷ xs) w x h r = (h.0, one_more done xs w x h.1 r)

-- one ratio more
pub read_more : {words left after : List (List ℕ)} {xs : List Float} (w : List ℕ) (x : Float) → Read words left xs → left ≡ w ∷ after → RatioWord w x → (ys : List Float) → ys ≡ xs ++ (x ∷ []) → Read words after ys
read_more {after = after} {xs = xs} w x read e r ys f = record {
  done = read.done ++ (w ∷ []);
  whole = read.whole ∙ ap (λ l. read.done ++ l) e ∙ sym (append_assoc read.done (w ∷ []) after);
  said = subst (SaysRatios (read.done ++ (w ∷ []))) (sym f) (one_more read.done xs w x read.said r);
}

behind_done : (done : List (List ℕ)) (w : List ℕ) (after : List (List ℕ)) (xs : List Float) → SaysRatios (done ++ (w ∷ after)) xs → (x : Float) × RatioWord w x
behind_done [] w after [] h = absurd h
behind_done [] w after (x ∷ xs) h = (x, h.0)
behind_done (v ∷ done) w after [] h = absurd h
behind_done (v ∷ done) w after (x ∷ xs) h = behind_done done w after xs h.1

-- the next word is no ratio
pub no_ratio : {words left after : List (List ℕ)} {xs : List Float} (w : List ℕ) → Read words left xs → left ≡ w ∷ after → ((x : Float) → RatioWord w x → ⊥) → (ys : List Float) → SaysRatios words ys → ⊥
no_ratio {after = after} w read e never ys h =
    let found = behind_done read.done w after ys (subst (λ ws. SaysRatios ws ys) (read.whole ∙ ap (λ l. read.done ++ l) e) h) in
    never found.0 found.1

-- an error, where what is read is taken as a list
pub listed_error : {X A : Type 0} (P : Fault → Type 0) (r : Result (Vec X A) Fault) → IsErrAnd r P → IsErrAnd (listed r) P
listed_error P (Ok v) h = absurd h
listed_error P (Err fault) h = h
