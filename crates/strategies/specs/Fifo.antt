-- FIFO: what has expired, and the oldest of what is left above the limit.
use Rattle.std.specs.Prelude.{ℕ, suc, ◌+◌, ◌-◌, ◌*◌, Bool, cond, not, ◌&&◌, ◌||◌, List, [], ◌∷◌, sum_by, filter, ◌==◌, nat_eq, nat_le, nat_lt}
use Rattle.std.specs.List.{list_any}
use Rattle.runs.specs.declared.table.Table.{Table}
use Rattle.sheets.specs.Level.{in_level, level_of, size_of, runs}
use Rattle.sheets.specs.Tables.{named}
use Rattle.strategies.specs.declared.choice.Kind.TheVariants.{Drop}
use Rattle.strategies.specs.declared.declined.Declined.TheVariants.{ManyRuns, HiddenTable}
use Rattle.strategies.specs.Answer.{Answer, nothing, declines, naming}

-- how many stand before the first that passes
abbrev pub place_of : {X : Type 0} → (X → Bool) → List X → ℕ
place_of p [] = 0
place_of p (x ∷ xs) = cond (p x) 0 (suc (place_of p xs))

module _ {K : Type 0} where
  -- the bytes of a table and of the blobs that it links to
  abbrev pub weight : Table K → ℕ
  weight t = t.size + t.linked

  -- u is older than t: created before it, or at the same time and earlier on the sheet
  abbrev pub older : List (Table K) → Table K → Table K → Bool
  older ts t u = nat_lt u.created t.created || (u.created == t.created && nat_lt (place_of (λ v. nat_eq v.number u.number) ts) (place_of (λ v. nat_eq v.number t.number) ts))

  -- a table of level 0 that is hidden
  abbrev pub hidden_first : List ℕ → Table K → Bool
  hidden_first hs t = in_level 0 t && named hs t

-- with a time to live in seconds (0 for none) and the clock in nanoseconds
module _ {K : Type 0} (ttl clock : ℕ) where
  -- created at least the time to live before the clock
  abbrev pub expired : Table K → Bool
  expired t = not (ttl == 0) && nat_le (t.created + ttl * 1000000000) clock

  -- a table of level 0 that has expired
  abbrev pub expired_first : Table K → Bool
  expired_first t = in_level 0 t && expired t

  -- a table of level 0 that has not expired
  abbrev pub live : Table K → Bool
  live t = in_level 0 t && not (expired t)

  -- what is left of level 0's sizes and the blob total without what has expired, down to 0
  abbrev pub left_over : ℕ → List (Table K) → ℕ
  left_over blobs ts = (size_of (level_of 0 ts) + blobs) - sum_by weight (filter expired_first ts)

  -- the weight of all older live tables together
  abbrev pub older_weight : List (Table K) → Table K → ℕ
  older_weight ts t = sum_by weight (filter (λ u. live u && older ts t u) ts)

  -- a table of level 0 goes if it has expired, or if what is left exceeds the limit by more than all older live tables weigh
  abbrev pub goes : ℕ → ℕ → List (Table K) → Table K → Bool
  goes limit left ts t = in_level 0 t && (expired t || nat_lt (limit + older_weight ts t) left)

-- with a limit in bytes and the blob total besides
module _ {K : Type 0} (limit ttl blobs clock : ℕ) where
  -- nothing on an empty level 0; refused on two runs, then on a hidden table; else a drop of what goes, if anything does
  abbrev pub fifo : List (Table K) → List ℕ → Answer
  fifo ts hs =
      cond (not (list_any (in_level 0) ts)) nothing
      (cond (nat_lt 1 (runs ts)) (declines ManyRuns)
      (cond (list_any (hidden_first hs) ts) (declines (HiddenTable (place_of (hidden_first hs) ts)))
      (cond (list_any (goes ttl clock limit (left_over ttl clock blobs ts) ts) ts) (naming Drop 0 0 0 (goes ttl clock limit (left_over ttl clock blobs ts) ts) ts) nothing)))
