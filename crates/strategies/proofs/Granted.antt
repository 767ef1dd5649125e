-- What a granted answer says of the tables that pass, and of the id sheet.
use Rattle.std.proofs.Common.{◌≡◌, ℕ, ◌^◌, Bool, true, false, cond, leb, List, length, take, drop, Ok, Err, filter, Result, refl, ap, ◌∙◌, arith}
use Rattle.std.proofs.lemmas.List.{take_at}
use Rattle.runs.specs.declared.table.Table.{Table}
use Rattle.sheets.specs.Edits.{laid}
use Rattle.strategies.specs.declared.naming.Named.{Named}
use Rattle.sheets.specs.Level.{numbers_of, size_of}
use Rattle.strategies.specs.Naming.{passing, named, written}

-- a granted answer passed both tests
granted_by : {X E : Type 0} (a b : Bool) (x y : X) (e f : E) → ◌≡◌ {A = Result X E} (cond a (cond b (cond a (Ok x) (Err e)) (Err f)) (Err e)) (Ok y) → (a ≡ true) × (b ≡ true) × (x ≡ y)
granted_by true true x y e f h = (refl, refl, cc)
granted_by true false x y e f h = absurd (let z : ◌≡◌ {A = ℕ} 0 1 = cc in omega arith)
granted_by false b x y e f h = absurd (let z : ◌≡◌ {A = ℕ} 0 1 = cc in omega arith)

module _ {K : Type 0} (p : Table K → Bool) (ts : List (Table K)) (ids : List ℕ) (n : Named) (ok : named p ts (length ids) ≡ Ok n) where
  abbrev parts : (leb (size_of ts) (2 ^ 53) ≡ true) × (leb (length (numbers_of (filter p ts))) (length ids) ≡ true) × (passing p ts ≡ n)
  parts = granted_by (leb (size_of ts) (2 ^ 53)) (leb (length (numbers_of (filter p ts))) (length ids)) _ n _ _ ok

  -- the numbers are laid over the front
  pub granted_ids : written p ts ids ≡ laid (numbers_of (filter p ts)) ids
  granted_ids =
      ap (λ b. cond b (cond (leb (length (numbers_of (filter p ts))) (length ids)) (laid (numbers_of (filter p ts)) ids) ids) ids) parts.0
      ∙ ap (λ b. cond b (laid (numbers_of (filter p ts)) ids) ids) parts.1

  -- so the first `count` of the id sheet are the numbers
  pub granted_front : take n.count (written p ts ids) ≡ numbers_of (filter p ts)
  granted_front =
      let long : length (numbers_of (filter p ts)) ≡ n.count = ap (λ m. m.count) parts.2 in
      ap (take n.count) granted_ids ∙ take_at (numbers_of (filter p ts)) (drop (length (numbers_of (filter p ts))) ids) n.count long
