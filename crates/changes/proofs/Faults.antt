-- The first at fault, sought from the left; and a number among those before one, read from behind.
use Rattle.std.proofs.Common.{◌≡◌, ℕ, suc, ◌+◌, Bool, true, false, cond, not, ◌||◌, eqb, List, [], ◌∷◌, ◌++◌, map, length, reverse, take, Some, None, Option, Ordering, sym, refl, ap, ◌∙◌, arith}
use Rattle.std.specs.List.{enumerate_from, position_from}
use Rattle.std.specs.Option.{option_map}
use Rattle.std.proofs.lemmas.List.{length-reverse, take_at}
use mathlib.Core.List.{append_assoc, reverse-cons, reverse-reverse}
use Rattle.runs.specs.declared.fresh.Fresh.{Fresh}
use Rattle.runs.specs.declared.table.Table.{Table}
use Rattle.sheets.specs.Tables.{memb}
use Rattle.books.specs.Close.{first_fault, bad_table}
use Rattle.books.specs.Land.{fresh_ok}

-- ---- numbers, from behind
either_way : (a b c : Bool) → (a || (b || c)) ≡ (b || (a || c))
either_way true true c = refl
either_way true false c = refl
either_way false b c = refl

module _ {X : Type 0} (f : X → ℕ) (n : ℕ) where
  memb_push : (xs : List X) (x : X) → memb n (map f (xs ++ x ∷ [])) ≡ (eqb (f x) n || memb n (map f xs))
  memb_push [] x = refl
  memb_push (y ∷ ys) x = ap (λ b. eqb (f y) n || b) (memb_push ys x) ∙ either_way (eqb (f y) n) (eqb (f x) n) (memb n (map f ys))

  memb_reverse : (xs : List X) → memb n (map f (reverse xs)) ≡ memb n (map f xs)
  memb_reverse [] = refl
  memb_reverse (x ∷ xs) = ap (λ l. memb n (map f l)) (reverse-cons x xs) ∙ memb_push (reverse xs) x ∙ ap (λ b. eqb (f x) n || b) (memb_reverse xs)

-- an output whose number is sought among those before it, `xs`
pub bad_number : {K : Type 0} (cmp : K → K → Ordering) (xs : List (Fresh K)) (f : Fresh K) (ts : List (Table K)) → true ≡ fresh_ok cmp ts f → memb f.number (map (λ g. g.number) xs) ≡ bad_table cmp ts (reverse xs) f
bad_number cmp xs f ts fresh = sym (memb_reverse (λ g. g.number) f.number xs) ∙ ap (λ b. not b || memb f.number (map (λ g. g.number) (reverse xs))) fresh

-- ---- the first at fault, by place
abbrev behind : ℕ → Option ℕ → Option ℕ
behind i None = None
behind i (Some n) = Some (i + n)

behind_zero : (o : Option ℕ) → behind 0 o ≡ o
behind_zero None = refl
behind_zero (Some n) = ap Some (omega arith)

behind_suc : (i : ℕ) (o : Option ℕ) → behind (i + 1) o ≡ behind i (option_map suc o)
behind_suc i None = refl
behind_suc i (Some n) = ap Some (omega arith)

module _ {X : Type 0} (fault : List X → X → Bool) (all : List X) where
  -- whether what stands at a place is at fault
  abbrev pub faulty : ℕ × X → Bool
  faulty e = fault (reverse (take e.0 all)) e.1

  turn : (b c : Bool) (n : ℕ) (o : Option ℕ) (r : Option ℕ) → b ≡ c → r ≡ behind (n + 1) o → cond b (Some n) r ≡ behind n (cond c (Some 0) (option_map suc o))
  turn b true n o r e f = ap (λ d. cond d (Some n) r) e ∙ ap Some (omega arith)
  turn b false n o r e f = ap (λ d. cond d (Some n) r) e ∙ f ∙ behind_suc n o

  faulty_from : (seen xs : List X) (n : ℕ) → length seen ≡ n → all ≡ reverse seen ++ xs → position_from faulty n (enumerate_from n xs) ≡ behind n (first_fault fault seen xs)
  faulty_from seen [] n l e = refl
  faulty_from seen (x ∷ xs) n l e =
      let before : take n all ≡ reverse seen = ap (take n) e ∙ take_at (reverse seen) (x ∷ xs) n (omega (arith, length-reverse seen, l)) in
      let same : reverse (take n all) ≡ seen = ap reverse before ∙ reverse-reverse seen in
      turn (faulty (n, x)) (fault seen x) n (first_fault fault (x ∷ seen) xs) _ (ap (λ us. fault us x) same)
      (faulty_from (x ∷ seen) xs (n + 1) (omega (arith, l)) (e ∙ sym (ap (λ us. us ++ xs) (reverse-cons x seen) ∙ append_assoc (reverse seen) (x ∷ []) xs)))

pub faulty_is : {X : Type 0} (fault : List X → X → Bool) (all : List X) → position_from (faulty fault all) 0 (enumerate_from 0 all) ≡ first_fault fault [] all
faulty_is fault all = faulty_from fault all [] all 0 refl refl ∙ behind_zero _
