-- What a malformed line lacks, found part by part.
use Rattle.std.proofs.Common.{◌≡◌, ◌≢◌, ◌⊎◌, ℕ, ◌||◌, nat_eq, List, [], ◌∷◌, ◌++◌, Float, Ok, Err, Result, MatchResult, IsOkAnd, IfErr, sym, refl, ap, ◌∙◌, subst, inl, inr}
use Rattle.std.specs.declared.ops.Bound.{Bound}
use Rattle.std.proofs.lemmas.Bool.{cond_both, or_cases, eqb-true}
use Rattle.refusals.specs.declared.refusal.Refusal.{Refusal}
use Rattle.texts.specs.declared.fault.Expected.{Expected}
use Rattle.texts.specs.declared.fault.Expected.TheVariants as X
use Rattle.texts.specs.declared.fault.Fault.{Fault}
use Rattle.texts.specs.declared.fault.Fault.TheVariants.{Malformed, Refused, Memory}
use Rattle.texts.specs.declared.field.Field.{Field}
use Rattle.texts.specs.declared.field.Field.TheVariants as F
use Rattle.texts.specs.Field.{most_of}
use Rattle.texts.specs.Lacking.{Names, OnlyNames, Further, ThenWord, ThenNumber}
use Rattle.texts.specs.Reading.{Reading}
use Rattle.texts.specs.Words.{NextNumber}
use Rattle.texts.proofs.Readings.{named}
use Rattle.scripts.specs.Strategy.{RatioWord, BoundWord}
use Rattle.scripts.specs.Lacking.{LacksNumber, LacksSizes, bound_wanted, ThenKey, ThenBound, LacksBounds, LacksBody, LacksTable, LacksRatio, LacksLeveled}
use Rattle.scripts.proofs.Lines.{Read}

-- a word, and then the rest
module _ {T : Type 0} (none : Expected) (says : List ℕ → T → Type 0) (wanted : List ℕ → Expected) (rest : List (List ℕ) → Expected → Type 0) (ws : List (List ℕ)) where
  pub word_missing : (f : Fault) → (f ≡ Malformed none) × (ws ≡ []) → OnlyNames (ThenWord none says wanted rest ws) f
  word_missing f h = named (ThenWord none says wanted rest ws) f none h.0 (inl (h.1, refl))

  module _ {w : List ℕ} {after : List (List ℕ)} (next : ws ≡ w ∷ after) where
    pub word_unsaid : ((t : T) → says w t → ⊥) → (x : Expected) → x ≡ wanted w → ThenWord none says wanted rest ws x
    word_unsaid never x e = inr (inl (record { word = w; after = after; next = next; says_none = never; is = e }))

    pub behind_word : {t : T} → says w t → (x : Expected) → rest after x → ThenWord none says wanted rest ws x
    behind_word {t} said x h = inr (inr (record { thing = t; after = after; reads = record { word = w; next = next; said = said }; is = h }))

-- a number, and then the rest
module _ (field : Field) (rest : List (List ℕ) → Expected → Type 0) (ws : List (List ℕ)) where
  pub number_missing : (f : Fault) → (f ≡ Malformed (X.Number field)) × ((n : ℕ) (after : List (List ℕ)) → NextNumber (most_of field) ws n after → ⊥) → OnlyNames (ThenNumber field rest ws) f
  number_missing f h = named (ThenNumber field rest ws) f (X.Number field) h.0 (inl (h.1, refl))

  pub behind_number : {n : ℕ} {after : List (List ℕ)} → NextNumber (most_of field) ws n after → (x : Expected) → rest after x → ThenNumber field rest ws x
  behind_number {n} {after} next x h = inr (record { thing = n; after = after; reads = next; is = h })

-- more words
pub further_left : (ws : List (List ℕ)) (f : Fault) → (f ≡ Malformed X.End) × (ws ≢ []) → OnlyNames (Further ws) f
further_left ws f h = named (Further ws) f X.End h.0 (h.1, refl)

-- a word that says nothing of the kind
pub unsaid : {K : Type 0} (says : List ℕ → Result K Refusal → Type 0) (wanted : Expected) (w : List ℕ) (lacks : Expected → Type 0) → (((r : Result K Refusal) → says w r → ⊥) → (x : Expected) → x ≡ wanted → lacks x)
    → (f : Fault) → Reading says w (Err f) → Names (λ lacking. lacking ≡ wanted) f → Names lacks f
unsaid says wanted w lacks found (Malformed x) r e = found r x e
unsaid says wanted w lacks found (Refused refusal) r e = tt
unsaid says wanted w lacks found Memory r e = tt

-- what is mapped lacks the same
pub mapped_lacks : {S T : Type 0} (P : Fault → Type 0) (post : S → T → Type 0) (r : Result S Fault) (m : Result T Fault) → MatchResult r (λ s. IsOkAnd m (post s)) (λ f. m ≡ Err f) → IfErr r P → IfErr m P
mapped_lacks P post (Ok s) (Ok t) h e = tt
mapped_lacks P post (Ok s) (Err f) h e = absurd h
mapped_lacks P post (Err f) m h e = subst (λ m. IfErr m P) (sym h) e

-- ---- a table behind its numbers
-- behind its keys
module _ {K : Type 0} (says : List ℕ → Result K Refusal → Type 0) (wanted : Expected) (ws : List (List ℕ)) {w : List ℕ} {a : List (List ℕ)} (first : ws ≡ w ∷ a) {min : Result K Refusal} (m : says w min) where
  pub behind_min : (x : Expected) → ThenKey says wanted LacksSizes a x → LacksBody says wanted ws x
  behind_min x h = behind_word X.Key says (λ _. wanted) (ThenKey says wanted LacksSizes) ws first m x h

  pub behind_keys : {v : List ℕ} {b : List (List ℕ)} → a ≡ v ∷ b → {max : Result K Refusal} → says v max → (x : Expected) → LacksSizes b x → LacksBody says wanted ws x
  behind_keys second n x h = behind_min x (behind_word X.Key says (λ _. wanted) LacksSizes a second n x h)

-- behind its sizes
module _ (b : List (List ℕ)) {size : ℕ} {c : List (List ℕ)} (third : NextNumber (most_of F.Size) b size c) where
  pub behind_size : (x : Expected) → ThenNumber F.Created (LacksNumber F.Linked) c x → LacksSizes b x
  behind_size x h = behind_number F.Size (ThenNumber F.Created (LacksNumber F.Linked)) b third x h

  pub behind_created : {created : ℕ} {d : List (List ℕ)} → NextNumber (most_of F.Created) c created d → (x : Expected) → LacksNumber F.Linked d x → LacksSizes b x
  behind_created {created} {d} fourth x h = behind_size x (behind_number F.Created (LacksNumber F.Linked) c fourth x h)

  pub behind_linked : {created linked : ℕ} {d e : List (List ℕ)} → NextNumber (most_of F.Created) c created d → NextNumber (most_of F.Linked) d linked e → (x : Expected) → Further e x → LacksSizes b x
  behind_linked {d = d} fourth fifth x h = behind_created fourth x (behind_number F.Linked Further d fifth x h)

-- ---- a table's numbers
module _ {K : Type 0} (says : List ℕ → Result K Refusal → Type 0) (wanted : Expected) (ws : List (List ℕ)) {n : ℕ} {a : List (List ℕ)} (first : NextNumber (most_of F.Number) ws n a) where
  pub behind_table : (x : Expected) → ThenNumber F.Level (ThenNumber F.Run (LacksBody says wanted)) a x → LacksTable says wanted ws x
  behind_table x h = behind_number F.Number (ThenNumber F.Level (ThenNumber F.Run (LacksBody says wanted))) ws first x h

  pub behind_level : {l : ℕ} {b : List (List ℕ)} → NextNumber (most_of F.Level) a l b → (x : Expected) → ThenNumber F.Run (LacksBody says wanted) b x → LacksTable says wanted ws x
  behind_level second x h = behind_table x (behind_number F.Level (ThenNumber F.Run (LacksBody says wanted)) a second x h)

  pub behind_run : {l m : ℕ} {b c : List (List ℕ)} → NextNumber (most_of F.Level) a l b → NextNumber (most_of F.Run) b m c → (x : Expected) → LacksBody says wanted c x → LacksTable says wanted ws x
  behind_run {b = b} second third x h = behind_level second x (behind_number F.Run (LacksBody says wanted) b third x h)

-- ---- a range drop
-- a word behind a mark, and one that has none
pub key_wanted : (key : Expected) (w text : List ℕ) → (w ≡ 91 ∷ text) ⊎ (w ≡ 40 ∷ text) → bound_wanted key w ≡ key
key_wanted key w text (inl e) = rw e refl
key_wanted key w text (inr e) = rw e refl

pub no_mark : (key : Expected) (w : List ℕ) → ((text : List ℕ) → w ≢ 91 ∷ text) → ((text : List ℕ) → w ≢ 40 ∷ text) → bound_wanted key w ≡ X.Bound
no_mark key [] included excluded = refl
no_mark key (c ∷ w) included excluded =
    cond_both (nat_eq c 91 || nat_eq c 40) key X.Bound (λ x. x ≡ X.Bound)
    (λ b. absurd (elim (or_cases (nat_eq c 91) (nat_eq c 40) b) [
      | inl e ↦ included w (ap (λ d. d ∷ w) (eqb-true c 91 e))
      | inr e ↦ excluded w (ap (λ d. d ∷ w) (eqb-true c 40 e))
    ]))
    (λ b. refl)

module _ {K : Type 0} (says : List ℕ → Result K Refusal → Type 0) (wanted : Expected) (ws : List (List ℕ)) {w : List ℕ} {a : List (List ℕ)} (first : ws ≡ w ∷ a) (start : Result (Bound K) Refusal) (m : BoundWord says w start) where
  pub behind_start : (x : Expected) → ThenBound says wanted Further a x → LacksBounds says wanted ws x
  behind_start x h = behind_word X.Bound (BoundWord says) (bound_wanted wanted) (ThenBound says wanted Further) ws first {t = start} m x h

  pub behind_end : {v : List ℕ} {b : List (List ℕ)} → a ≡ v ∷ b → (last : Result (Bound K) Refusal) → BoundWord says v last → (x : Expected) → Further b x → LacksBounds says wanted ws x
  behind_end second last n x h = behind_start x (behind_word X.Bound (BoundWord says) (bound_wanted wanted) Further a second {t = last} n x h)

-- ---- leveled
-- a word that is no ratio, behind those that were read
pub lacks_ratio : {words left after : List (List ℕ)} {xs : List Float} (w : List ℕ) → Read words left xs → left ≡ w ∷ after → ((x : Float) → RatioWord w x → ⊥) → (f : Fault) → f ≡ Malformed X.Ratio → OnlyNames (LacksRatio words) f
lacks_ratio {words} {after = after} {xs = xs} w read e never f h =
    named (LacksRatio words) f X.Ratio h
    (record { done = read.done; given = xs; word = w; after = after; whole = read.whole ∙ ap (λ l. read.done ++ l) e; said = read.said; says_none = never; is = refl })

-- behind a target, and behind a threshold
module _ (ws : List (List ℕ)) {t : ℕ} {a : List (List ℕ)} (first : NextNumber (most_of F.Target) ws t a) where
  pub behind_target : (x : Expected) → ThenNumber F.Threshold LacksRatio a x → LacksLeveled ws x
  behind_target x h = behind_number F.Target (ThenNumber F.Threshold LacksRatio) ws first x h

  pub behind_threshold : {n : ℕ} {b : List (List ℕ)} → NextNumber (most_of F.Threshold) a n b → (x : Expected) → LacksRatio b x → LacksLeveled ws x
  behind_threshold second x h = behind_target x (behind_number F.Threshold LacksRatio a second x h)
