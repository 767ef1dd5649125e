-- On tables that are equal but for keys, a test that comes out alike names alike.
use Rattle.std.proofs.Common.{◌≡◌, ℕ, Bool, List, filter}
use Rattle.keys.specs.Pairing.{Both}
use Rattle.keys.proofs.Alike.{kept_alike}
use Rattle.runs.specs.declared.table.Table.{Table}
use Rattle.runs.specs.Pairing.{Twin}
use Rattle.sheets.proofs.AlikeLevels.{numbers_alike, size_alike}
use Rattle.strategies.specs.Naming.{named, written}

module _ {A B : Type 0} (R : A → B → Type 0) where
  module _ (p : Table A → Bool) (q : Table B → Bool) (same : (t : Table A) (u : Table B) → Twin R t u → p t ≡ q u) {ts : List (Table A)} {us : List (Table B)} (w : Both (Twin R) ts us) where
    kept : Both (Twin R) (filter p ts) (filter q us)
    kept = kept_alike (Twin R) p q same w

    pub named_alike : (places : ℕ) → named p ts places ≡ named q us places
    named_alike places = rw (size_alike R w, numbers_alike R kept, size_alike R kept)

    pub written_alike : (ids : List ℕ) → written p ts ids ≡ written q us ids
    written_alike ids = rw (size_alike R w, numbers_alike R kept)
