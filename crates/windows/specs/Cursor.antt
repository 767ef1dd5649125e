-- What a cursor over windows still has to read, and what its sums are.
use Rattle.std.specs.Prelude.{◌≡◌, ℕ, suc, ◌+◌, ◌-◌, ◌^◌, ◌≤◌, cond, List, [], ◌∷◌, ◌++◌, length, drop, Some, None, Ok, Err, IfSome, sum_by, Option, Result, ◌==◌, nat_le}
use Rattle.refusals.specs.declared.refusal.Refusal.{Refusal}
use Rattle.refusals.specs.declared.refusal.Refusal.TheVariants.{NotSound}
use Rattle.windows.specs.declared.slice_windows.Window.{Window}
use Rattle.windows.specs.declared.slice_windows.Order.{Order}
use Rattle.windows.specs.declared.slice_windows.Order.TheVariants.{Growing, Shrinking}
use Rattle.windows.specs.declared.slice_windows.Summed.{Summed}
use Rattle.windows.specs.declared.slice_windows.Windows.{Windows}
use Rattle.windows.specs.declared.slice_windows.Reading.{Reading}
use Rattle.windows.specs.SliceWindows.{win, tables_of, from_left, growing_from, growing, shrinking_from, shrinking, Right}

-- the windows of the lengths that are read behind a length
abbrev pub next_lengths : Order → ℕ → ℕ → List Window
next_lengths Growing n len = growing_from n (len + 1) (n - len)
next_lengths Shrinking n len = shrinking_from n (len - 1)

-- the windows of n tables that are read behind a window: those of its length further right, then the next lengths
abbrev pub behind : Order → ℕ → Window → List Window
behind order n w = from_left w.len (suc w.start) (n - (w.start + w.len)) ++ next_lengths order n w.len

-- a window, if any, and what is read behind it
abbrev pub standing : Order → ℕ → Option Summed → List Window
standing order n None = []
standing order n (Some s) = s.window ∷ behind order n s.window

-- the window of the first tables; of no tables there is none
abbrev pub first_window : ℕ → ℕ → Option Summed
first_window len bytes = cond (len == 0) None (Some (record { window = win 0 len; bytes = bytes; front = bytes }))

-- what a window was read as, with the tables in place of the loan
pub record Read (T : Type 0) : Type 0 where
  pub window : Window
  pub tables : List T

-- some tables, and windows of them that are to be read
pub record Readable (T : Type 0) : Type 0 where
  pub tables : List T
  pub windows : List Window

-- all windows of n tables, in the order of reading
abbrev pub in_order : Order → ℕ → List Window
in_order Growing n = growing n
in_order Shrinking n = shrinking n

-- the first of some windows, with its tables
abbrev pub first_read : {T : Type 0} → List T → List Window → Option (Read T)
first_read ts [] = None
first_read ts (w ∷ ws) = Some (record { window = w; tables = tables_of w ts })

-- what was read, but for its sum
abbrev pub seen : {T : Type 0} → Option (Reading T) → Option (Read T)
seen None = None
seen (Some r) = Some (record { window = r.window; tables = r.tables.now })

-- all these windows, unless the tables' sizes sum up to more than 2^53
abbrev pub readable : {T : Type 0} → (T → ℕ) → List Window → List T → Result (Readable T) Refusal
readable bytes ws ts = cond (nat_le (sum_by bytes ts) (2 ^ 53)) (Ok (record { tables = ts; windows = ws })) (Err NotSound)

-- the sum of what was read, if anything, is that of its tables
abbrev pub Told : {T : Type 0} → (T → ℕ) → Option (Reading T) → Type 0
Told bytes None = Unit {0}
Told bytes (Some r) = r.bytes ≡ sum_by bytes r.tables.now

module _ {T K : Type 0} {file : _} {ranged : _} {key : _} where
  -- the windows that a cursor still has to read
  abbrev pub left : Windows T K file ranged key → List Window
  left c = standing c.order (length c.tables.now) c.next

  -- what a cursor has to read, or why there is none
  abbrev pub opened : Result (Windows T K file ranged key) Refusal → Result (Readable T) Refusal
  opened (Ok c) = Ok (record { tables = c.tables.now; windows = left c })
  opened (Err e) = Err e

  module _ (bytes : T → ℕ) where
    -- the sums of a cursor are right
    pub record Weighed (c : Windows T K file ranged key) : Type 0 where
      pub small : sum_by bytes c.tables.now ≤ 2 ^ 53
      pub next : IfSome c.next (Right bytes c.tables.now)

    -- the first window is read, and the others are left
    pub record Reads (old : Windows T K file ranged key) (r : Option (Reading T)) (new : Windows T K file ranged key) : Type 0 where
      pub answer : seen r ≡ first_read old.tables.now (left old)
      pub rest : left new ≡ drop 1 (left old)
      pub ended : left old ≡ [] → new ≡ old
      pub tables : new.tables ≡ old.tables
      pub order : new.order ≡ old.order
      pub sums : Told bytes r
