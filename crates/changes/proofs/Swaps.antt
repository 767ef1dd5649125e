-- A job's tables swapped for what it brings in, in place.
use Rattle.std.proofs.Common.{◌≡◌, ℕ, ◌+◌, ◌≤◌, List, map, length, take, drop, filter, Ordering, sym, ap, ◌∙◌, arith}
use Rattle.std.proofs.lemmas.List.{drop_at, length-map, length-take-le, take_at, take-take}
use Rattle.runs.specs.declared.fresh.Fresh.{Fresh}
use Rattle.runs.specs.declared.table.Table.{Table}
use Rattle.sheets.specs.Edits.{laid}
use Rattle.runs.specs.Fresh.{settled}
use Rattle.sheets.specs.Tables.{named, without, parted, placed, inserts}
use Rattle.sheets.proofs.Inserts.{length_inserts}
use Rattle.sheets.proofs.Laid.{relaid}
use Rattle.edits.proofs.Parting.{length_parted}
use Rattle.strategies.specs.declared.choice.Kind.{Kind}
use Rattle.strategies.specs.declared.choice.Kind.TheVariants.{Move, Merge}
use Rattle.books.proofs.Rooms.{both_length}
use Rattle.books.specs.Job.{Running}
use Rattle.changes.specs.Close.{swapped}

-- the job of a kind, with a destination and the numbers of its tables
abbrev pub running : Kind → ℕ → List ℕ → Running
running k d ns = record { kind = k; destination = d; numbers = ns }

-- s'' is s, of which n tables stood, with the job's tables swapped: then m stand
pub record Swapped {K : Type 0} (cmp : K → K → Ordering) (k : Kind) (d : ℕ) (ns : List ℕ) (outs : List (Fresh K)) (s s'' : List (Table K)) (n m : ℕ) : Type 0 where
  pub count : m ≡ length (swapped cmp (running k d ns) outs (take n s))
  pub sheet : s'' ≡ laid (swapped cmp (running k d ns) outs (take n s)) s

module _ {K : Type 0} (cmp : K → K → Ordering) (d : ℕ) (ns : List ℕ) (outs : List (Fresh K)) (s : List (Table K)) (n : ℕ) (fits : n ≤ length s) where
  abbrev ts : List (Table K)
  ts = take n s

  abbrev stay : List (Table K)
  stay = without ns ts

  abbrev leave : List (Table K)
  leave = filter (named ns) ts

  module _ (left : ℕ) (size : left ≡ length stay) where
    pub left_le : left ≤ n
    left_le = omega (arith, size, both_length ns ts, length-take-le n s fits)

    -- ---- a move: its tables go behind the others, and from there in again
    module _ (s' s'' : List (Table K)) (after : s' ≡ laid (parted ns ts) s) (in_again : s'' ≡ laid (inserts cmp (take left s') (map (placed d 0) (drop left (take n s')))) s') where
      pub swap_move : Swapped cmp Move d ns outs s s'' n n
      swap_move =
          let long = length-take-le n s fits in
          let put : List (Table K) → List (Table K) = λ l. inserts cmp (take left l) (map (placed d 0) (drop left l)) in
          let front : take left s' ≡ take left (take n s') = sym (take-take left n s' left_le) in
          let whole : put (parted ns ts) ≡ swapped cmp (running Move d ns) outs ts =
          ap (λ l. inserts cmp l (map (placed d 0) (drop left (parted ns ts)))) (take_at stay leave left (sym size)) ∙ ap (λ l. inserts cmp stay (map (placed d 0) l)) (drop_at stay leave left (sym size)) in
          let more : length (swapped cmp (running Move d ns) outs ts) ≡ n = omega (arith, length_inserts cmp (map (placed d 0) leave) stay, length-map leave (placed d 0), both_length ns ts) in
          record {
            count = sym more;
            sheet = relaid put (parted ns ts) s s' s'' n after (omega (arith, length_parted ns ts)) (omega (arith, length_parted ns ts, ap length whole))
                (in_again ∙ ap (λ l. laid (inserts cmp l (map (placed d 0) (drop left (take n s')))) s') front) ∙ ap (λ l. laid l s) whole;
          }

    -- ---- a merge: its tables leave, and the outputs come in
    pub merged_length : length (swapped cmp (running Merge d ns) outs ts) ≡ left + length outs
    merged_length = omega (arith, size, length_inserts cmp (map (settled d 0) outs) stay, length-map outs (settled d 0))

    pub swap_merge : (s' s'' : List (Table K)) (m : ℕ) → m ≡ left + length outs → s' ≡ laid stay s → s'' ≡ laid (inserts cmp (take left s') (map (settled d 0) outs)) s' → Swapped cmp Merge d ns outs s s'' n m
    swap_merge s' s'' m e after come =
        record {
          count = e ∙ sym merged_length;
          sheet = relaid (λ l. inserts cmp l (map (settled d 0) outs)) stay s s' s'' left after size (omega (arith, merged_length)) come;
        }
