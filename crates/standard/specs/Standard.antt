-- The strategies that come with the library, as one.
use Rattle.std.specs.Prelude.{ℕ, List}
use Rattle.std.specs.declared.cmp.Ordering.{Ordering}
use Rattle.keys.specs.declared.bounds.OwnedBounds.{OwnedBounds}
use Rattle.keys.specs.Pairing.{TwinBounds}
use Rattle.runs.specs.declared.table.Table.{Table}
use Rattle.levels.specs.declared.settings.Settings.{Settings as LeveledSettings}
use Rattle.leveled.specs.Leveled.{leveled}
use Rattle.strategies.specs.declared.fifo.FifoSettings.{FifoSettings}
use Rattle.strategies.specs.declared.major.MajorSettings.{MajorSettings}
use Rattle.strategies.specs.Answer.{Answer}
use Rattle.strategies.specs.DropRange.{drop_range}
use Rattle.strategies.specs.Fifo.{fifo}
use Rattle.strategies.specs.Major.{major}
use Rattle.standard.specs.declared.standard.Settings.{Settings}
use Rattle.standard.specs.declared.standard.Settings.TheVariants.{Leveled, Fifo, Major, DropRange}

-- what each chooses, from its settings, the standing tables, the hidden numbers, the blob total and the clock
abbrev pub standard : {K : Type 0} → (K → K → Ordering) → Settings K → List (Table K) → List ℕ → ℕ → ℕ → Answer
standard cmp (Leveled s) ts hs blobs clock = leveled cmp s ts hs
standard cmp (Fifo f) ts hs blobs clock = fifo f.limit f.ttl_seconds blobs clock ts hs
standard cmp (Major m) ts hs blobs clock = major m.target_size ts hs
standard cmp (DropRange bounds) ts hs blobs clock = drop_range cmp bounds ts hs

-- settings that are equal but for keys, which pair
pub data SameSettings {A B : Type 0} (R : A → B → Type 0) : Settings A → Settings B → Type 0 where
  leveleds : {s : LeveledSettings} → SameSettings R (Leveled s) (Leveled s)
  fifos : {f : FifoSettings} → SameSettings R (Fifo f) (Fifo f)
  majors : {m : MajorSettings} → SameSettings R (Major m) (Major m)
  drops : {b : OwnedBounds A} {c : OwnedBounds B} → TwinBounds R b c → SameSettings R (DropRange b) (DropRange c)
