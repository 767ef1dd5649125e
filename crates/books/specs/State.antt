-- Book and sheet together.
use Rattle.std.specs.Prelude.{ℕ, List, Option}
use Rattle.runs.specs.declared.table.Table.{Table}
use Rattle.books.specs.Job.{Running}

-- the sheet's places, how many tables stand, the blob total, the standing tables, the hidden numbers, and the eight slots for jobs
pub record State (K : Type 0) : Type 0 where
  pub room : ℕ
  pub standing : ℕ
  pub blobs : ℕ
  pub tables : List (Table K)
  pub hidden : List ℕ
  pub slots : List (Option Running)

module _ {K : Type 0} (st : State K) where
  -- with other tables
  abbrev pub with_tables : ℕ → List (Table K) → State K
  with_tables n ts = record { room = st.room; standing = n; blobs = st.blobs; tables = ts; hidden = st.hidden; slots = st.slots }

  -- with other hidden numbers and slots
  abbrev pub with_jobs : List ℕ → List (Option Running) → State K
  with_jobs hs ss = record { room = st.room; standing = st.standing; blobs = st.blobs; tables = st.tables; hidden = hs; slots = ss }
