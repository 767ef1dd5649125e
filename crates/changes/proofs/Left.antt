-- The tables that a job leaves, weighed one by one.
use Rattle.std.proofs.Common.{◌≡◌, ℕ, ◌+◌, ◌<◌, ◌≤◌, true, false, List, length, get_or, take, sym, ap, ◌∙◌, arith}
use Rattle.std.proofs.lemmas.List.{length_push, take_all}
use Rattle.std.proofs.lemmas.List.Sums.{sum_by_push, sum_by-take-le}
use Rattle.runs.specs.declared.table.Table.{Table}
use Rattle.sheets.specs.Level.{size_of}
use Rattle.sheets.specs.Tables.{unnamed, without}
use Rattle.sheets.proofs.Filtering.{kept_yes, kept_no}
use Rattle.books.proofs.Rooms.{both_size}

-- of the first i tables those that are not named are so many, with so many bytes
pub record Weighed {K : Type 0} (ns : List ℕ) (ts : List (Table K)) (count bytes i : ℕ) : Type 0 where
  pub tables : count ≡ length (without ns (take i ts))
  pub weight : bytes ≡ size_of (without ns (take i ts))
  pub few : count ≤ i

pub weighed_all : {K : Type 0} (ns : List ℕ) (ts : List (Table K)) (count bytes i : ℕ) → Weighed ns ts count bytes i → length ts ≤ i → (count ≡ length (without ns ts)) × (bytes ≡ size_of (without ns ts))
weighed_all ns ts count bytes i w le = let e = take_all i ts le in (w.tables ∙ ap (λ l. length (without ns l)) e, w.weight ∙ ap (λ l. size_of (without ns l)) e)

module _ {K : Type 0} (ns : List ℕ) (ts : List (Table K)) (count bytes i : ℕ) (w : Weighed ns ts count bytes i) (x : Table K) (lt : i < length ts) (e : x ≡ get_or ts i x) where
  abbrev so_far : List (Table K)
  so_far = without ns (take i ts)

  pub weigh_yes : unnamed ns x ≡ true → Weighed ns ts (count + 1) (bytes + x.size) (i + 1)
  weigh_yes is =
      let next = kept_yes (unnamed ns) ts i x lt e is in
      record {
        tables = omega (arith, w.tables, ap length next, length_push so_far x);
        weight = omega (arith, w.weight, ap size_of next, sum_by_push (λ t. t.size) so_far x);
        few = omega (arith, w.few);
      }

  pub weigh_no : unnamed ns x ≡ false → Weighed ns ts count bytes (i + 1)
  weigh_no isnt =
      let next = kept_no (unnamed ns) ts i x lt e isnt in
      record { tables = w.tables ∙ ap length (sym next); weight = w.weight ∙ ap size_of (sym next); few = omega (arith, w.few) }

  -- no more than all have
  pub weigh_light : unnamed ns x ≡ true → bytes + x.size ≤ size_of ts
  weigh_light is = omega (arith, (weigh_yes is).weight, both_size ns (take (i + 1) ts), sum_by-take-le (λ t. t.size) ts (i + 1))
