-- Whichever strategy the settings are for keeps the law, and says of what it names what is so.
-- Lemmas for a law that an impl owes, whose term can cite specs/ alone: they are proved, and nothing here has to be believed.
use Rattle.std.specs.Prelude.{ℕ, List}
use Rattle.std.specs.declared.cmp.Ordering.{Ordering}
use Rattle.keys.specs.KeyKind.{Laws}
use Rattle.runs.specs.declared.table.Table.{Table}
use Rattle.sheets.specs.Sound.{Sound}
use Rattle.strategies.specs.Strategy.{Law}
use Rattle.strategies.specs.Laws.{major_lawful, drop_range_lawful, fifo_lawful, major_told, drop_range_told, fifo_told}
use Rattle.strategies.specs.NamingLaws.{ToldAnswer}
use Rattle.leveled.specs.Laws.{leveled_lawful, leveled_told}
use Rattle.standard.specs.declared.standard.Settings.{Settings}
use Rattle.standard.specs.declared.standard.Settings.TheVariants.{Leveled, Fifo, Major, DropRange}
use Rattle.standard.specs.Standard.{standard}

module _ {K : Type 0} {cmp : K → K → Ordering} (laws : Laws cmp) where
  pub standard_lawful : (s : Settings K) (blobs clock : ℕ) → Law cmp (λ ts hs. standard cmp s ts hs blobs clock)
  standard_lawful (Leveled s) blobs clock = leveled_lawful laws s
  standard_lawful (Fifo f) blobs clock = fifo_lawful cmp f.limit f.ttl_seconds blobs clock
  standard_lawful (Major m) blobs clock = major_lawful cmp m.target_size
  standard_lawful (DropRange bounds) blobs clock = drop_range_lawful cmp bounds

  pub standard_told : {room standing total : ℕ} {ts : List (Table K)} → Sound cmp room standing total ts → (hs : List ℕ) (s : Settings K) (blobs clock : ℕ) → ToldAnswer cmp ts (standard cmp s ts hs blobs clock)
  standard_told sound hs (Leveled s) blobs clock = leveled_told cmp s hs sound.ordered.numbers
  standard_told sound hs (Fifo f) blobs clock = fifo_told cmp sound f.limit f.ttl_seconds blobs clock hs
  standard_told sound hs (Major m) blobs clock = major_told cmp sound m.target_size hs
  standard_told sound hs (DropRange bounds) blobs clock = drop_range_told cmp sound bounds hs
