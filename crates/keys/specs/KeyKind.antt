-- What makes a three-way answer a total order.
use Rattle.std.specs.Prelude.{◌≡◌}
use Rattle.std.specs.declared.cmp.Ordering.TheVariants.{Less, Equal}
use Rattle.std.specs.declared.cmp.Ordering.{Ordering}
use Rattle.std.specs.Ordering.{ordering_reverse}
use Rattle.std.specs.Cmp.{IsTotalOrder}

-- Two keys are equal or exactly one is before the other, before passes along a chain, and equal keys compare alike with every key.
pub record Laws {K : Type 0} (cmp : K → K → Ordering) : Type 0 where
  pub flips : (a b : K) → cmp b a ≡ ordering_reverse (cmp a b)
  pub chains : (a b c : K) → cmp a b ≡ Less → cmp b c ≡ Less → cmp a c ≡ Less
  pub alike : (a b c : K) → cmp a b ≡ Equal → cmp a c ≡ cmp b c

-- a total order of the library has these laws
pub laws_of : {K : Type 0} {cmp : K → K → Ordering} → IsTotalOrder cmp → Laws cmp
laws_of o = record { flips = λ a b. o.antisymm b a; chains = o.trans; alike = o.congr }
