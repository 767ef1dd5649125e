-- Words for the slots of a book, in the test whether it is sound.
use Rattle.std.specs.Prelude.{ℕ, Bool, true, false, cond, not, ◌&&◌, List, length, Some, None, Option, ◌==◌, nat_le}
use Rattle.std.specs.List.{list_any, list_all}
use Rattle.std.specs.declared.cmp.Ordering.{Ordering}
use Rattle.keys.specs.declared.key_range.KeyRange.{KeyRange}
use Rattle.runs.specs.declared.table.Table.{Table}
use Rattle.sheets.specs.Level.{numbers_of}
use Rattle.sheets.specs.Sound.{distinct}
use Rattle.sheets.specs.Tables.{memb}
use Rattle.strategies.specs.Strategy.{spans_meet}
use Rattle.books.specs.Booked.{is_going, span_held}
use Rattle.books.specs.Job.{Running}
use Rattle.slots.specs.declared.job.Job.{Job}
use Rattle.slots.specs.View.{slot, numbers_in}

-- the job of a slot, if any, passes
abbrev pub free_or : (Running → Bool) → Option Running → Bool
free_or p None = true
free_or p (Some j) = p j

-- the jobs of two slots, if any, stand so
abbrev pub free_or_so : (Running → Running → Bool) → Option Running → Option Running → Bool
free_or_so r None t = true
free_or_so r (Some j) t = free_or (r j) t

-- the level that takes the tables of the job in a slot, if it is a move or a merge
abbrev pub level_in : Option Running → Option ℕ
level_in None = None
level_in (Some j) = cond (is_going j.kind) (Some j.destination) None

-- two levels are one
abbrev pub same_level : Option ℕ → Option ℕ → Bool
same_level None l = false
same_level (Some m) None = false
same_level (Some m) (Some n) = m == n

-- a table of this number stands, and a slot's job has it
abbrev pub taken : {K : Type 0} → List (Table K) → List Job → ℕ → Bool
taken ts jobs n = memb n (numbers_of ts) && list_any (λ job. memb n (numbers_in (slot job))) jobs

-- the hidden numbers are at most 256, differ, and each stands and is a running job's
abbrev pub owned : {K : Type 0} → List (Table K) → List Job → List ℕ → Bool
owned ts jobs hs = nat_le (length hs) 256 && (distinct hs && list_all (taken ts jobs) hs)

-- the span of the tables of the job in a slot, if any
abbrev pub span_in : {K : Type 0} → (K → K → Ordering) → List (Table K) → Option Running → Option (KeyRange K)
span_in cmp ts None = None
span_in cmp ts (Some j) = span_held cmp ts j

-- the jobs of two slots have no table in common and do not cross, where this is the span of the first's tables
abbrev pub apart_by : {K : Type 0} → (K → K → Ordering) → List (Table K) → Option (KeyRange K) → Option Running → Option Running → Bool
apart_by cmp ts span a b = not (list_any (λ n. memb n (numbers_in b)) (numbers_in a)) && not (same_level (level_in a) (level_in b) && spans_meet cmp span (span_in cmp ts b))
