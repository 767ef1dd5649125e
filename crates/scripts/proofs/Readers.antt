-- What a reader answers where a part of its line was turned away or refused.
use Rattle.std.proofs.Common.{◌≡◌, ℕ, List, ◌∷◌, Some, Ok, Err, Result, sym, refl, ap, subst}
use Rattle.std.specs.Result.{IsErrAnd, IsOkAnd, MatchResult}
use Rattle.refusals.specs.declared.refusal.Refusal.{Refusal}
use Rattle.texts.specs.declared.fault.Expected.{Expected}
use Rattle.texts.specs.declared.fault.Fault.{Fault}
use Rattle.texts.specs.declared.fault.Fault.TheVariants.{Malformed, Refused, Memory}
use Rattle.texts.specs.Reading.{Reads, Plain, By, made_of_both}
use Rattle.texts.specs.Words.{Next, NextNumber, decimal_of}

-- an error that `?` handed on
pub handed : {T : Type 0} (says : Result T Refusal → Type 0) (r : Result T Fault) (f : Fault) → IsErrAnd r (λ g. g ≡ f) → Reads says (Err f) → Reads says r
handed says (Ok t) f h e = absurd h
handed says (Err g) f h e = subst (λ g. Reads says (Err g)) (sym h) e

-- a line that has no such part
pub turned_away : {T : Type 0} (says : Result T Refusal → Type 0) (r : Result T Fault) (f : Fault) (x : Expected) → IsErrAnd r (λ g. g ≡ f) → f ≡ Malformed x → ((t : Result T Refusal) → says t → ⊥) → Reads says r
turned_away says r f x h e never = handed says r f h (subst (λ g. Reads says (Err g)) (sym e) never)

-- the error of a part of the line, where each thing that is said has such a part
pub through : {S T : Type 0} (part : Result S Refusal → Type 0) (says : Result T Refusal → Type 0) (r : Result T Fault) (f : Fault) → IsErrAnd r (λ g. g ≡ f) → Reads part (Err f)
    → ((t : Result T Refusal) → says t → (s : Result S Refusal) × part s) → ((refusal : Refusal) → part (Err refusal) → says (Err refusal)) → Reads says r
through part says r (Malformed x) h e has refused = handed says r (Malformed x) h (λ t s. let p = has t s in e p.0 p.1)
through part says r (Refused refusal) h e has refused = handed says r (Refused refusal) h (refused refusal e)
through part says r Memory h e has refused = handed says r Memory h tt

-- what came of the rest of a line, where the line says what its rest says
pub whole : {T : Type 0} (part says : Result T Refusal → Type 0) (r : Result T Fault) → Reads part r → ((t : Result T Refusal) → part t → says t) → ((t : Result T Refusal) → says t → part t) → Reads says r
whole part says (Ok t) e f g = f (Ok t) e
whole part says (Err (Malformed x)) e f g = λ t s. e t (g t s)
whole part says (Err (Refused refusal)) e f g = f (Err refusal) e
whole part says (Err Memory) e f g = tt

-- what came of a thing that was made of what was read
pub mapped : {S T : Type 0} (make : S → T) {post : S → T → Type 0} (says : Result S Refusal → Type 0) (r : Result S Fault) (m : Result T Fault) → MatchResult r (λ s. IsOkAnd m (post s)) (λ f. m ≡ Err f) → ((s : S) (t : T) → post s t → t ≡ make s)
    → Reads says r → Reads (By make says) m
mapped make says (Ok s) (Ok t) h is e = (Ok s, e, ap Ok (is s t h))
mapped make says (Ok s) (Err f) h is e = absurd h
mapped make says (Err f) m h is e = subst (Reads (By make says)) (sym h) (made_error f e)
  where
    made_error : (f : Fault) → Reads says (Err f) → Reads (By make says) (Err f)
    made_error (Malformed x) e = λ t s. e s.0 s.1
    made_error (Refused refusal) e = (Err refusal, e, refl)
    made_error Memory e = e

-- what is said where nothing is refused
pub plainly : {S P : Type 0} (says : S → Type 0) → ((s : S) → says s → P) → (t : Result S Refusal) → Plain says t → P
plainly says f (Ok s) h = f s h
plainly says f (Err refusal) h = absurd h

-- the words behind the next one, which was read as w
pub behind : {T : Type 0} {says : List ℕ → T → Type 0} {read said after : List (List ℕ)} {t : T} {w : List ℕ} {rest : List (List ℕ)} → read ≡ said → read ≡ w ∷ rest → Next says said t after → rest ≡ after
behind same is n = cc (same, is, n.next)

-- what the next word says, which was read as w
pub here : {T : Type 0} (says : List ℕ → T → Type 0) {read said after : List (List ℕ)} {t : T} {w : List ℕ} {rest : List (List ℕ)} → read ≡ said → read ≡ w ∷ rest → Next says said t after → says w t
here says {t = t} {w = w} same is n =
    let word : n.word ≡ w = cc (same, is, n.next) in
    subst (λ v. says v t) word n.said

-- whether the next word writes a number
abbrev pub HasNumber : ℕ → List (List ℕ) → Type 0
HasNumber most ws = (n : ℕ) × (after : List (List ℕ)) × NextNumber most ws n after

pub number_at : (most : ℕ) {read said after : List (List ℕ)} {n : ℕ} → read ≡ said → NextNumber most said n after → HasNumber most read
number_at most {after = after} {n = n} same h = (n, after, subst (λ ws. NextNumber most ws n after) (sym same) h)

-- a line that has no number there
pub no_number : {T : Type 0} (most : ℕ) (ws : List (List ℕ)) (says : Result T Refusal → Type 0) (r : Result T Fault) (f : Fault) (x : Expected) → IsErrAnd r (λ g. g ≡ f)
    → (f ≡ Malformed x) × ((n : ℕ) (after : List (List ℕ)) → NextNumber most ws n after → ⊥) → ((t : Result T Refusal) → says t → HasNumber most ws) → Reads says r
no_number most ws says r f x h e has = turned_away says r f x h e.0 (λ t s. let p = has t s in e.1 p.0 p.1 p.2)

-- the number that is said is the one that was read
pub same_number : (most : ℕ) {read said a b : List (List ℕ)} {n m : ℕ} → read ≡ said → NextNumber most read n a → NextNumber most said m b → n ≡ m
same_number most same x y =
    let is = here (λ word n. decimal_of most word ≡ Some n) same x.next y in
    cc (x.said, is)

-- of two things, neither is refused, or the first, or the second alone
module _ {A B T : Type 0} (make : A → B → T) where
  pub neither_refused : (x : Result A Refusal) (y : Result B Refusal) {a : A} {b : B} → x ≡ Ok a → y ≡ Ok b → Ok (make a b) ≡ made_of_both make x y
  neither_refused x y e f = rw (e, f) refl

  pub first_refused : (x : Result A Refusal) (y : Result B Refusal) {refusal : Refusal} → x ≡ Err refusal → Err refusal ≡ made_of_both make x y
  first_refused x y e = rw e refl

  pub second_refused : (x : Result A Refusal) (y : Result B Refusal) {a : A} {refusal : Refusal} → x ≡ Ok a → y ≡ Err refusal → Err refusal ≡ made_of_both make x y
  second_refused x y e f = rw (e, f) refl
