-- The steps of the loops that name the tables that pass a test.
use Rattle.std.proofs.Common.{◌≡◌, ℕ, ◌+◌, ◌<◌, Bool, true, false, cond, List, ◌∷◌, length, get_or, drop, filter, ap, ◌∙◌, arith}
use Rattle.std.proofs.lemmas.List.Sums.{sum_by-cons}
use Rattle.runs.specs.declared.table.Table.{Table}
use Rattle.runs.proofs.Sorteds.{drop_read}
use Rattle.strategies.specs.declared.naming.Named.{Named}
use Rattle.sheets.specs.Level.{size_of}

module _ {K : Type 0} (p : Table K → Bool) (ts : List (Table K)) where
  -- before place i: those that pass up to here are named
  pub record Counted (n : Named) (i : ℕ) : Type 0 where
    pub counted : n.count + length (filter p (drop i ts)) ≡ length (filter p ts)
    pub summed : n.bytes + size_of (filter p (drop i ts)) ≡ size_of (filter p ts)

  module _ (n : Named) (i : ℕ) (t : Table K) (inside : i < length ts) (read : t ≡ get_or ts i t) where
    rest : drop i ts ≡ t ∷ drop (i + 1) ts
    rest = drop_read ts i t inside read

    pub kept_yes : p t ≡ true → filter p (drop i ts) ≡ t ∷ filter p (drop (i + 1) ts)
    kept_yes e = ap (filter p) rest ∙ ap (λ b. cond b (t ∷ filter p (drop (i + 1) ts)) (filter p (drop (i + 1) ts))) e

    pub kept_no : p t ≡ false → filter p (drop i ts) ≡ filter p (drop (i + 1) ts)
    kept_no e = ap (filter p) rest ∙ ap (λ b. cond b (t ∷ filter p (drop (i + 1) ts)) (filter p (drop (i + 1) ts))) e

    pub size_yes : p t ≡ true → size_of (filter p (drop i ts)) ≡ t.size + size_of (filter p (drop (i + 1) ts))
    size_yes e = ap size_of (kept_yes e) ∙ sum_by-cons (λ u. u.size) t (filter p (drop (i + 1) ts))

    module _ (h : Counted n i) (m : Named) where
      pub counted_yes : m.count ≡ n.count + 1 → m.bytes ≡ n.bytes + t.size → p t ≡ true → Counted m (i + 1)
      counted_yes c b e = record { counted = omega (arith, h.counted, ap length (kept_yes e)); summed = omega (arith, h.summed, size_yes e) }

      pub counted_not : m ≡ n → p t ≡ false → Counted m (i + 1)
      counted_not s e = rw s (record { counted = omega (arith, h.counted, ap length (kept_no e)); summed = omega (arith, h.summed, ap size_of (kept_no e)) })
