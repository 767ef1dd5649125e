-- How often a call is made.
use Rattle.std.specs.Prelude.{ℕ, Bool, ◌&&◌, ◌||◌, nat_lt}
use Rattle.bench.specs.declared.turns.Turns.{Turns}
use Rattle.bench.specs.declared.turns.Turns.TheVariants.{Fitting, Exactly}

-- whether one turn more is made, after so many that took so many nanoseconds: as said, or at least 11 and then as many as fit 0.2 seconds, at most 100,000
abbrev pub goes_on : Turns → ℕ → ℕ → Bool
goes_on Fitting made nanos = nat_lt made 11 || (nat_lt made 100_000 && nat_lt nanos 200_000_000)
goes_on (Exactly turns) made nanos = nat_lt made turns
