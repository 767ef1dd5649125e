-- The steps of a loop that counts the tables that pass a test, as far as a limit of all sizes is kept.
use Rattle.std.proofs.Common.{◌≡◌, ℕ, ◌+◌, ◌-◌, ◌^◌, ◌<◌, ◌≤◌, Bool, true, false, cond, leb, List, [], ◌∷◌, length, get_or, drop, Ok, Err, filter, Result, sym, ap, ◌∙◌, arith}
use Rattle.std.proofs.lemmas.List.{drop_all, length-map}
use Rattle.std.proofs.lemmas.List.Sums.{sum_by-cons}
use Rattle.std.proofs.lemmas.Bool.{le-leb, lt-leb}
use Rattle.refusals.specs.declared.refusal.Refusal.{Refusal}
use Rattle.refusals.specs.declared.refusal.Refusal.TheVariants.{NotSound}
use Rattle.runs.specs.declared.table.Table.{Table}
use Rattle.runs.proofs.Sorteds.{drop_read}
use Rattle.sheets.specs.Level.{numbers_of, size_of}

module _ {K : Type 0} (p : Table K → Bool) (ts : List (Table K)) where
  -- how many pass, where all sizes together are at most 2^53
  abbrev pub limited : Result ℕ Refusal
  limited = cond (leb (size_of ts) (2 ^ 53)) (Ok (length (numbers_of (filter p ts)))) (Err NotSound)

  -- before place i: `left` is what the limit leaves, `count` how many have passed
  pub record Limited (left count i : ℕ) : Type 0 where
    pub limit : size_of ts + left ≡ 2 ^ 53 + size_of (drop i ts)
    pub counted : count + length (filter p (drop i ts)) ≡ length (filter p ts)
    pub few : count ≤ i

  pub limit_first : Limited (2 ^ 53) 0 0
  limit_first = record { limit = omega arith; counted = omega arith; few = omega arith }

  module _ (left count i : ℕ) (t : Table K) (inside : i < length ts) (read : t ≡ get_or ts i t) (h : Limited left count i) where
    rest : drop i ts ≡ t ∷ drop (i + 1) ts
    rest = drop_read ts i t inside read

    size_rest : size_of (drop i ts) ≡ t.size + size_of (drop (i + 1) ts)
    size_rest = ap size_of rest ∙ sum_by-cons (λ u. u.size) t (drop (i + 1) ts)

    kept : (b : Bool) → p t ≡ b → filter p (drop i ts) ≡ cond b (t ∷ filter p (drop (i + 1) ts)) (filter p (drop (i + 1) ts))
    kept b e = ap (filter p) rest ∙ ap (λ b. cond b (t ∷ filter p (drop (i + 1) ts)) (filter p (drop (i + 1) ts))) e

    pub limit_yes : t.size ≤ left → p t ≡ true → Limited (left - t.size) (count + 1) (i + 1)
    limit_yes le e = record { limit = omega (arith, h.limit, size_rest); counted = omega (arith, h.counted, ap length (kept true e)); few = omega (arith, h.few) }

    pub limit_not : t.size ≤ left → p t ≡ false → Limited (left - t.size) count (i + 1)
    limit_not le e = record { limit = omega (arith, h.limit, size_rest); counted = omega (arith, h.counted, ap length (kept false e)); few = omega (arith, h.few) }

    pub limit_passed : left < t.size → ◌≡◌ {A = Result ℕ Refusal} (Err NotSound) limited
    limit_passed over =
        sym (ap (λ b. cond b (Ok (length (numbers_of (filter p ts)))) (Err NotSound)) (lt-leb (size_of ts) (2 ^ 53) (omega (arith, h.limit, size_rest))))

  pub limit_kept : (left count i : ℕ) → length ts ≤ i → Limited left count i → ◌≡◌ {A = Result ℕ Refusal} (Ok count) limited
  limit_kept left count i le h =
      let none : drop i ts ≡ [] = drop_all i ts le in
      let c : count ≡ length (numbers_of (filter p ts)) = omega (arith, h.counted, ap (λ us. length (filter p us)) none, length-map (filter p ts) (λ t. t.number)) in
      ap (λ n. Ok n) c
      ∙ sym (ap (λ b. cond b (Ok (length (numbers_of (filter p ts)))) (Err NotSound)) (le-leb (size_of ts) (2 ^ 53) (omega (arith, h.limit, ap size_of none))))
