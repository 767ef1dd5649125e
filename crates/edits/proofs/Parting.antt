-- A stable parting in place.
use Rattle.std.proofs.Common.{◌≡◌, ℕ, ◌+◌, ◌<◌, ◌≤◌, true, false, List, [], ◌∷◌, ◌++◌, length, get_or, take, drop, filter, sym, refl, ap, ◌∙◌, arith}
use Rattle.std.specs.List.{insert}
use Rattle.std.proofs.lemmas.List.Filters.{length-filter_both}
use Rattle.std.proofs.lemmas.List.{append_assoc, drop_at, length-append, length_push, length-take-le, take_at}
use Rattle.std.proofs.lemmas.Bool.{not-true, not-false}
use Rattle.runs.specs.declared.table.Table.{Table}
use Rattle.sheets.specs.Edits.{laid}
use Rattle.sheets.specs.Tables.{named, unnamed, without, parted}
use Rattle.sheets.proofs.Filtering.{kept_yes, kept_no}
use Rattle.sheets.proofs.Laid.{get_or_laid, laid_same, relaid}

-- ys began as xs: its first i are parted, k of them not named
pub record Parting {K : Type 0} (ns : List ℕ) (xs ys : List (Table K)) (k i : ℕ) : Type 0 where
  pub front : ys ≡ laid (parted ns (take i xs)) xs
  pub size : k ≡ length (without ns (take i xs))
  pub behind : k ≤ i

pub length_parted : {K : Type 0} (ns : List ℕ) (ts : List (Table K)) → length (parted ns ts) ≡ length ts
length_parted ns ts = omega (arith, length-append (without ns ts) (filter (named ns) ts), length-filter_both (named ns) (unnamed ns) (λ t. refl) ts)

module _ {K : Type 0} (ns : List ℕ) (xs ys : List (Table K)) (k i : ℕ) (h : Parting ns xs ys k i) (x : Table K) (lt : i < length xs) (e : x ≡ get_or ys i x) where
  abbrev stay : List (Table K)
  stay = without ns (take i xs)

  abbrev leave : List (Table K)
  leave = filter (named ns) (take i xs)

  long : length (parted ns (take i xs)) ≡ i
  long = length_parted ns (take i xs) ∙ length-take-le i xs (omega arith)

  read : x ≡ get_or xs i x
  read = e ∙ ap (λ l. get_or l i x) h.front ∙ get_or_laid (parted ns (take i xs)) xs i x (omega (arith, long))

  pub parting_named : unnamed ns x ≡ false → Parting ns xs ys k (i + 1)
  parting_named isnt =
      let a : without ns (take (i + 1) xs) ≡ stay = kept_no (unnamed ns) xs i x lt read isnt in
      let b : filter (named ns) (take (i + 1) xs) ≡ leave ++ x ∷ [] = kept_yes (named ns) xs i x lt read (not-false _ isnt) in
      let now : parted ns (take (i + 1) xs) ≡ (stay ++ leave) ++ x ∷ [] =
      ap (λ l. l ++ filter (named ns) (take (i + 1) xs)) a ∙ ap (λ l. stay ++ l) b ∙ sym (append_assoc stay leave (x ∷ [])) in
      let there : x ≡ get_or xs (length (parted ns (take i xs))) x = read ∙ ap (λ n. get_or xs n x) (sym long) in
      record {
        front = h.front ∙ sym (ap (λ l. laid l xs) now ∙ laid_same (stay ++ leave) xs x (omega (arith, long)) there);
        size = h.size ∙ ap length (sym a);
        behind = omega (arith, h.behind);
      }

  pub parting_unnamed : (zs : List (Table K)) → unnamed ns x ≡ true → zs ≡ laid (insert (take i ys) k x) ys → Parting ns xs zs (k + 1) (i + 1)
  parting_unnamed zs is z =
      let a : without ns (take (i + 1) xs) ≡ stay ++ x ∷ [] = kept_yes (unnamed ns) xs i x lt read is in
      let b : filter (named ns) (take (i + 1) xs) ≡ leave = kept_no (named ns) xs i x lt read (not-true _ is) in
      let now : parted ns (take (i + 1) xs) ≡ stay ++ x ∷ leave =
      ap (λ l. l ++ filter (named ns) (take (i + 1) xs)) a ∙ ap (λ l. (stay ++ x ∷ []) ++ l) b ∙ append_assoc stay (x ∷ []) leave in
      let put : insert (stay ++ leave) k x ≡ parted ns (take (i + 1) xs) =
      ap (λ l. l ++ x ∷ drop k (stay ++ leave)) (take_at stay leave k (sym h.size)) ∙ ap (λ l. stay ++ x ∷ l) (drop_at stay leave k (sym h.size)) ∙ sym now in
      let more : length (insert (stay ++ leave) k x) ≡ i + 1 = ap length put ∙ length_parted ns (take (i + 1) xs) ∙ length-take-le (i + 1) xs (omega arith) in
      record {
        front = relaid (λ l. insert l k x) (stay ++ leave) xs ys zs i h.front (sym long) (omega (arith, long, more)) z ∙ ap (λ l. laid l xs) put;
        size = omega (arith, h.size, ap length a, length_push stay x);
        behind = omega (arith, h.behind);
      }
