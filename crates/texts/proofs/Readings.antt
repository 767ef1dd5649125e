-- A word that is malformed.
use Rattle.std.proofs.Common.{◌≡◌, ℕ, List, None, Some, Option, Ok, Err, Result, IfErr, sym, ◌∙◌, subst}
use Rattle.std.specs.Option.{ok_or}
use Rattle.std.specs.Result.{IsErrAnd}
use Rattle.refusals.specs.declared.refusal.Refusal.{Refusal}
use Rattle.texts.specs.declared.fault.Fault.{Fault}
use Rattle.texts.specs.declared.fault.Fault.TheVariants.{Malformed, Refused, Memory}
use Rattle.texts.specs.declared.fault.Expected.{Expected}
use Rattle.texts.specs.Lacking.{Names, OnlyNames}
use Rattle.texts.specs.Reading.{Reading}

-- what stands for a thing that is missing
pub missing : {X : Type 0} (o : Option X) (f : Fault) (x : Expected) → o ≡ None → Err f ≡ ok_or o (Malformed x) → f ≡ Malformed x
missing None f x none e = cc
missing (Some y) f x none e = cc

-- what `?` gave of an option that was empty
pub malformed : {K X : Type 0} (says : List ℕ → Result K Refusal → Type 0) (w : List ℕ) (r : Result (Result K Refusal) Fault) (o : Option X) (f : Fault) (x : Expected) → IsErrAnd r (λ g. g ≡ f) → o ≡ None → Err f ≡ ok_or o (Malformed x) → ((k : Result K Refusal) → says w k → ⊥) → Reading says w r
malformed says w (Ok k) o f x h none e never = absurd h
malformed says w (Err g) o f x h none e never = subst (λ g. Reading says w (Err g)) (sym (h ∙ missing o f x none e)) never

-- ---- what is lacking
-- an error that `?` handed on
handed_on : {T : Type 0} (P : Fault → Type 0) (r : Result T Fault) (f : Fault) → IsErrAnd r (λ g. g ≡ f) → P f → IfErr r P
handed_on P (Ok t) f h e = absurd h
handed_on P (Err g) f h e = subst P (sym h) e

-- a malformed line, and what it lacks
pub named : (lacks : Expected → Type 0) (f : Fault) (x : Expected) → f ≡ Malformed x → lacks x → OnlyNames lacks f
named lacks f x e is = subst (OnlyNames lacks) (sym e) is

-- what is named alone is named
pub alone : (lacks : Expected → Type 0) (f : Fault) → OnlyNames lacks f → Names lacks f
alone lacks (Malformed x) e = e
alone lacks (Refused refusal) e = tt
alone lacks Memory e = tt

-- the whole lacks what a part does
module _ (part lacks : Expected → Type 0) (weaker : (x : Expected) → part x → lacks x) where
  pub named_by : (f : Fault) → Names part f → Names lacks f
  named_by (Malformed x) e = weaker x e
  named_by (Refused refusal) e = tt
  named_by Memory e = tt

  named_alone_by : (f : Fault) → OnlyNames part f → OnlyNames lacks f
  named_alone_by (Malformed x) e = weaker x e
  named_alone_by (Refused refusal) e = absurd e
  named_alone_by Memory e = absurd e

  module _ {T : Type 0} (r : Result T Fault) (f : Fault) (h : IsErrAnd r (λ g. g ≡ f)) where
    -- a part that may be refused, one that may not, and one in a whole that may not
    pub part_lacks : Names part f → IfErr r (Names lacks)
    part_lacks e = handed_on (Names lacks) r f h (named_by f e)

    pub plain_part_lacks : OnlyNames part f → IfErr r (Names lacks)
    plain_part_lacks e = part_lacks (alone part f e)

    pub plain_lacks : OnlyNames part f → IfErr r (OnlyNames lacks)
    plain_lacks e = handed_on (OnlyNames lacks) r f h (named_alone_by f e)
