-- What an option holds, said in weaker words.
use Rattle.std.proofs.Common.{Some, None, Option, MatchOption}
use Rattle.std.specs.Option.{IsSomeAnd}

pub MatchOption-weaker : {X : Type 0} (o : Option X) {P P' : Type 0} {Q Q' : X → Type 0} → (P → P') → ((x : X) → Q x → Q' x) → MatchOption o P Q → MatchOption o P' Q'
MatchOption-weaker None p q h = p h
MatchOption-weaker (Some x) p q h = q x h

pub IsSomeAnd-weaker : {X : Type 0} (o : Option X) {P Q : X → Type 0} → ((x : X) → P x → Q x) → IsSomeAnd o P → IsSomeAnd o Q
IsSomeAnd-weaker None p h = h
IsSomeAnd-weaker (Some x) p h = p x h
