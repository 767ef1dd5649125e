-- Settings and tables that are equal but for keys that compare alike get one answer.
use Rattle.std.proofs.Common.{◌≡◌, ℕ, List, Ordering}
use Rattle.keys.specs.Pairing.{Both, CompareAlike}
use Rattle.runs.specs.declared.table.Table.{Table}
use Rattle.runs.specs.Pairing.{Twin}
use Rattle.strategies.proofs.AlikePlain.{major_alike, drop_range_alike, fifo_alike}
use Rattle.leveled.proofs.Alike.{leveled_alike}
use Rattle.standard.specs.declared.standard.Settings.{Settings}
use Rattle.standard.specs.Standard.{standard, SameSettings, leveleds, fifos, majors, drops}

module _ {A B : Type 0} (cmp_a : A → A → Ordering) (cmp_b : B → B → Ordering) (R : A → B → Type 0) (alike : CompareAlike cmp_a cmp_b R) where
  pub standard_alike : {s : Settings A} {r : Settings B} → SameSettings R s r → {ts : List (Table A)} {us : List (Table B)} → Both (Twin R) ts us → (hs : List ℕ) (blobs clock : ℕ)
      → standard cmp_a s ts hs blobs clock ≡ standard cmp_b r us hs blobs clock
  standard_alike (leveleds {s}) w hs blobs clock = leveled_alike cmp_a cmp_b R alike s hs w
  standard_alike (fifos {f}) w hs blobs clock = fifo_alike R f.limit f.ttl_seconds blobs clock w hs
  standard_alike (majors {m}) w hs blobs clock = major_alike R m.target_size w hs
  standard_alike (drops b) w hs blobs clock = drop_range_alike cmp_a cmp_b R alike b w hs
