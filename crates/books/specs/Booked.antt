-- A book that is sound with its sheet: in words, and as a test.
use Rattle.std.specs.Prelude.{◌≡◌, ℕ, ◌<◌, ◌≤◌, Bool, true, false, not, ◌&&◌, ◌||◌, List, [], ◌∷◌, length, Option, ◌==◌, ◌≢◌, nat_le}
use Rattle.std.specs.List.{list_any, list_all}
use Rattle.std.specs.declared.cmp.Ordering.{Ordering}
use Rattle.keys.specs.KeyRange.{meets}
use Rattle.keys.specs.declared.key_range.KeyRange.{KeyRange}
use Rattle.runs.specs.declared.table.Table.{Table}
use Rattle.runs.specs.Run.{span_of}
use Rattle.picks.specs.Movable.{meets_span}
use Rattle.sheets.specs.Level.{numbers_of}
use Rattle.sheets.specs.Members.{In, Every, Pairs}
use Rattle.sheets.specs.Sound.{Sound, Differ, distinct, sheet_ok}
use Rattle.sheets.specs.Tables.{memb, named}
use Rattle.strategies.specs.declared.choice.Kind.{Kind}
use Rattle.strategies.specs.declared.choice.Kind.TheVariants.{Move, Merge, Drop}
use Rattle.strategies.specs.Strategy.{Goes, Stands, spans_meet}
use Rattle.books.specs.Job.{Running, running, held}
use Rattle.books.specs.State.{State}

-- no table is in two running jobs
abbrev pub Disjoint : Running → Running → Type 0
Disjoint j k = (n : ℕ) → memb n j.numbers ≡ true → memb n k.numbers ≢ true

-- each stands so to all behind it, as a test
abbrev pub pairs_by : {X : Type 0} → (X → X → Bool) → List X → Bool
pairs_by r [] = true
pairs_by r (x ∷ xs) = list_all (r x) xs && pairs_by r xs

-- a move or a merge
abbrev pub is_going : Kind → Bool
is_going Move = true
is_going Merge = true
is_going Drop = false

module _ {K : Type 0} (cmp : K → K → Ordering) where
  -- the span of a job's tables
  abbrev pub span_held : List (Table K) → Running → Option (KeyRange K)
  span_held ts j = span_of cmp (λ t. t.range) (held j ts)

  -- ---- in words
  module _ (ts : List (Table K)) where
    -- its span meets no table of its destination outside the job
    abbrev pub Clear : Running → Type 0
    Clear j = (u : Table K) → In u ts → u.level ≡ j.destination → named j.numbers u ≡ false → meets_span cmp (λ t. t.range) (span_held ts j) u ≡ false

    -- the spans of two moves or merges to one level do not meet
    abbrev pub Lanes : Running → Running → Type 0
    Lanes j k = Goes j.kind → Goes k.kind → j.destination ≡ k.destination → spans_meet cmp (span_held ts j) (span_held ts k) ≡ false

    -- the tables of a move do not meet each other
    abbrev pub UnmetHeld : Running → Type 0
    UnmetHeld j = (t u : Table K) → In t (held j ts) → In u (held j ts) → Differ t u → meets cmp t.range u.range ≡ false

  -- At most 256 numbers are hidden and 8 jobs run; each hidden number stands and belongs to exactly one running job, each job has a table and its tables are hidden;
  -- a move or merge has a destination from 1 to 6, and its span meets nothing there but its own, nor the span of another that goes there; tables of a move do not meet.
  pub record Booked (ts : List (Table K)) (hidden : List ℕ) (jobs : List Running) : Type 0 where
    pub few : (length hidden ≤ 256) × (length jobs ≤ 8)
    pub once : Pairs (λ m n. m ≢ n) hidden
    pub stands : Every (Stands ts) hidden
    pub owned : Every (λ n. (j : Running) × In j jobs × (memb n j.numbers ≡ true)) hidden
    pub hides : Every (λ j. Every (λ n. memb n hidden ≡ true) j.numbers) jobs
    pub disjoint : Pairs Disjoint jobs
    pub filled : Every (λ j. 0 < length j.numbers) jobs
    pub destined : Every (λ j. Goes j.kind → (1 ≤ j.destination) × (j.destination ≤ 6)) jobs
    pub clear : Every (λ j. Goes j.kind → Clear ts j) jobs
    pub lanes : Pairs (Lanes ts) jobs
    pub moves : Every (λ j. j.kind ≡ Move → UnmetHeld ts j) jobs

  -- book and sheet are sound
  pub record SoundState (st : State K) : Type 0 where
    pub whole : st.standing ≡ length st.tables
    pub eight : length st.slots ≡ 8
    pub sheet : Sound cmp st.room st.standing st.blobs st.tables
    pub book : Booked st.tables st.hidden (running st.slots)

  -- ---- as a test
  -- outside its destination, of the job, or clear of its span
  abbrev pub is_clear : List (Table K) → Running → Table K → Bool
  is_clear ts j u = not (u.level == j.destination) || (named j.numbers u || not (meets_span cmp (λ t. t.range) (span_held ts j) u))

  -- what a running job of a kind keeps
  abbrev pub kind_ok : List (Table K) → Running → Kind → Bool
  kind_ok ts j Move = nat_le 1 j.destination && (nat_le j.destination 6 && (list_all (is_clear ts j) ts && pairs_by (λ t u. not (meets cmp t.range u.range)) (held j ts)))
  kind_ok ts j Merge = nat_le 1 j.destination && (nat_le j.destination 6 && list_all (is_clear ts j) ts)
  kind_ok ts j Drop = true

  -- it has a table, its tables are hidden, and it keeps what its kind asks
  abbrev pub job_ok : List (Table K) → List ℕ → Running → Bool
  job_ok ts hidden j = nat_le 1 (length j.numbers) && (list_all (λ n. memb n hidden) j.numbers && kind_ok ts j j.kind)

  -- the spans of two moves or merges to one level meet
  abbrev pub crosses : List (Table K) → Running → Running → Bool
  crosses ts j k = is_going j.kind && (is_going k.kind && (j.destination == k.destination && spans_meet cmp (span_held ts j) (span_held ts k)))

  -- two jobs have no table in common, and do not cross
  abbrev pub jobs_apart : List (Table K) → Running → Running → Bool
  jobs_apart ts j k = not (list_any (λ n. memb n k.numbers) j.numbers) && not (crosses ts j k)

  -- hidden numbers and running jobs are sound with the standing tables
  abbrev pub book_ok : List (Table K) → List ℕ → List Running → Bool
  book_ok ts hidden jobs =
      (nat_le (length hidden) 256 && nat_le (length jobs) 8)
      && (distinct hidden
      && (list_all (λ n. memb n (numbers_of ts) && list_any (λ j. memb n j.numbers) jobs) hidden
      && (list_all (job_ok ts hidden) jobs && pairs_by (jobs_apart ts) jobs)))

  -- the test of book and sheet
  abbrev pub state_ok : State K → Bool
  state_ok st = sheet_ok cmp st.room st.standing st.blobs st.tables && book_ok st.tables st.hidden (running st.slots)
