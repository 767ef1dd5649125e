-- Room for one more table, or for a merge's outputs, as it is tested before anything is changed.
use Rattle.std.proofs.Common.{◌≡◌, ℕ, ◌+◌, ◌-◌, ◌^◌, ◌<◌, ◌≤◌, true, false, ◌&&◌, leb, ◌⊎◌, List, length, take, sum_by, Ordering, sym, ap, ◌∙◌, inl, inr, arith}
use Rattle.std.proofs.lemmas.List.{length-take-le}
use Rattle.std.proofs.lemmas.Bool.{cases_Bool, le-leb, lt-leb, leb-true, leb-false}
use Rattle.runs.specs.declared.fresh.Fresh.{Fresh}
use Rattle.runs.specs.declared.table.Table.{Table}
use Rattle.sheets.specs.Level.{size_of}
use Rattle.sheets.specs.Tables.{without}
use Rattle.strategies.specs.declared.choice.Kind.{Kind}
use Rattle.strategies.specs.declared.choice.Kind.TheVariants.{Move, Merge, Drop}
use Rattle.books.specs.Close.{closed}
use Rattle.books.specs.Job.{Running}
use Rattle.books.specs.Land.{has_room, landed}
use Rattle.books.proofs.Rooms.{both_length, both_size, landed_room, merge_room, closed_room}
use Rattle.changes.specs.Close.{merge_fits}

-- a sum within a limit, as it is tested without forming the sum
pub under : (w z m : ℕ) → w ≤ m → leb z (m - w) ≡ leb (w + z) m
under w z m le = elim (cases_Bool (leb (w + z) m)) [ inl e ↦ le-leb z (m - w) (omega (arith, leb-true (w + z) m e)) ∙ sym e | inr e ↦ lt-leb z (m - w) (omega (arith, leb-false (w + z) m e)) ∙ sym e ]

module _ {K : Type 0} (cmp : K → K → Ordering) (f : Fresh K) (ts : List (Table K)) (room : ℕ) where
  pub landed_full : room ≤ length ts → has_room room (landed cmp f ts) ≡ false
  landed_full le = landed_room cmp f ts room ∙ ap (λ b. b && leb (size_of ts + f.size) (2 ^ 53)) (lt-leb (length ts + 1) room (omega arith))

  pub landed_fits : length ts < room → size_of ts ≤ 2 ^ 53 → leb f.size (2 ^ 53 - size_of ts) ≡ has_room room (landed cmp f ts)
  landed_fits lt le =
      under (size_of ts) f.size (2 ^ 53) le
      ∙ sym (landed_room cmp f ts room ∙ ap (λ b. b && leb (size_of ts + f.size) (2 ^ 53)) (le-leb (length ts + 1) room (omega arith)))

-- ---- outputs in place of the tables of a merge: those that stay are so many, with so many bytes
module _ {K : Type 0} (ns : List ℕ) (s : List (Table K)) (n : ℕ) (outs : List (Fresh K)) (fits : n ≤ length s) (total : size_of (take n s) ≤ 2 ^ 53) (count bytes : ℕ)
    (tables : count ≡ length (without ns (take n s))) (weight : bytes ≡ size_of (without ns (take n s))) where
  abbrev stay : List (Table K)
  stay = without ns (take n s)

  pub stay_count : count ≤ length s
  stay_count = omega (arith, tables, both_length ns (take n s), length-take-le n s fits)

  pub stay_bytes : bytes ≤ 2 ^ 53
  stay_bytes = omega (arith, weight, both_size ns (take n s))

  tested : merge_fits (length s) stay outs ≡ (leb (length outs) (length s - count) && leb (sum_by (λ f. f.size) outs) (2 ^ 53 - bytes))
  tested =
      ap (λ k. leb (k + length outs) (length s) && leb (size_of stay + sum_by (λ f. f.size) outs) (2 ^ 53)) (sym tables)
      ∙ ap (λ k. leb (count + length outs) (length s) && leb (k + sum_by (λ f. f.size) outs) (2 ^ 53)) (sym weight)
      ∙ ap (λ b. b && leb (bytes + sum_by (λ f. f.size) outs) (2 ^ 53)) (sym (under count (length outs) (length s) stay_count))
      ∙ ap (λ b. leb (length outs) (length s - count) && b) (sym (under bytes (sum_by (λ f. f.size) outs) (2 ^ 53) stay_bytes))

  pub merge_light : length outs ≤ length s - count → leb (sum_by (λ f. f.size) outs) (2 ^ 53 - bytes) ≡ merge_fits (length s) stay outs
  merge_light le = sym (tested ∙ ap (λ b. b && leb (sum_by (λ f. f.size) outs) (2 ^ 53 - bytes)) (le-leb (length outs) (length s - count) le))

-- ---- what a closed job leaves
-- a move or a drop is no merge
no_merge : (k : Kind) → (k ≡ Move) ⊎ (k ≡ Drop) → k ≡ Merge → ⊥
no_merge k (inl e) f = let z : ◌≡◌ {A = ℕ} 0 1 = cc in omega arith
no_merge k (inr e) f = let z : ◌≡◌ {A = ℕ} 0 1 = cc in omega arith

module _ {K : Type 0} (cmp : K → K → Ordering) (j : Running) (outs : List (Fresh K)) (s : List (Table K)) (n : ℕ) where
  pub room_merge : j.kind ≡ Merge → merge_fits (length s) (without j.numbers (take n s)) outs ≡ has_room (length s) (closed cmp j outs (take n s))
  room_merge e = sym (merge_room cmp (take n s) outs j e (length s))

  pub room_else : (j.kind ≡ Move) ⊎ (j.kind ≡ Drop) → n ≤ length s → size_of (take n s) ≤ 2 ^ 53 → true ≡ has_room (length s) (closed cmp j outs (take n s))
  room_else e fits total = sym (closed_room cmp (take n s) outs j (no_merge j.kind e) (length s) (omega (arith, length-take-le n s fits)) total)
