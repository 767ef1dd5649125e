-- The recount in one pass.
use Rattle.std.proofs.Common.{◌≡◌, ℕ, suc, ◌+◌, ◌-◌, ◌<◌, ◌≤◌, Bool, true, false, cond, ◌&&◌, eqb, ltb, List, [], ◌∷◌, ◌++◌, length, get_or, take, drop, set, sym, refl, ap, ◌∙◌, arith}
use Rattle.std.proofs.lemmas.List.{append_assoc, append-nil, drop_all, drop-drop, drop-set-lt, get_or-drop, take_all, take_more, take_more_set}
use Rattle.runs.specs.declared.table.Table.{Table}
use Rattle.runs.proofs.Sorteds.{drop_read}
use Rattle.sheets.specs.Recount.{counted_run, counting}
use Rattle.sheets.specs.Tables.{placed}
use Rattle.sheets.proofs.Laid.{length_cond}

-- ---- lists that are alike from a place on
same_rest : {X : Type 0} (xs ys : List X) (i : ℕ) (d : X) → drop i ys ≡ drop i xs → get_or ys i d ≡ get_or xs i d
same_rest xs ys i d e =
    let z : i ≡ i + 0 = omega arith in
    ap (λ j. get_or ys j d) z ∙ sym (get_or-drop i ys 0 d) ∙ ap (λ l. get_or l 0 d) e ∙ get_or-drop i xs 0 d ∙ ap (λ j. get_or xs j d) (sym z)

next_rest : {X : Type 0} (xs ys : List X) (i : ℕ) → drop i ys ≡ drop i xs → drop (i + 1) ys ≡ drop (i + 1) xs
next_rest xs ys i e = sym (drop-drop 1 i ys) ∙ ap (drop 1) e ∙ drop-drop 1 i xs

-- the next of what is left goes over to what is done
over : {X : Type 0} (front rest rest' : List X) (y : X) → rest ≡ y ∷ rest' → (front ++ y ∷ []) ++ rest' ≡ front ++ rest
over front rest rest' y e = append_assoc front (y ∷ []) rest' ∙ ap (λ l. front ++ l) (sym e)

-- ---- the run that is counted
at_most : (b : Bool) (n : ℕ) → cond b (n - 1) n ≤ n
at_most true n = omega arith
at_most false n = omega arith

pub counted_le : (last next run : ℕ) → counted_run last next run ≤ next
counted_le last next run = at_most (ltb 0 next && eqb run last) next

pub length_counting : {K : Type 0} (ts : List (Table K)) (last next : ℕ) → length (counting last next ts) ≡ length ts
length_counting [] last next = refl
length_counting (t ∷ ts) last next = length_cond (eqb t.level 0) _ _ _ (ap suc (length_counting ts t.run (suc (counted_run last next t.run)))) (ap suc (length_counting ts last next))

-- ys began as xs: the first i are counted
pub record Recounting {K : Type 0} (xs ys : List (Table K)) (last next i : ℕ) : Type 0 where
  pub front : take i ys ++ counting last next (drop i xs) ≡ counting 0 0 xs
  pub rest : drop i ys ≡ drop i xs
  pub few : next ≤ i

module _ {K : Type 0} (xs ys : List (Table K)) (last next i : ℕ) (h : Recounting xs ys last next i) (same : length ys ≡ length xs) where
  module _ (x : Table K) (lt : i < length xs) (e : x ≡ get_or ys i x) where
    standing : drop i xs ≡ x ∷ drop (i + 1) xs
    standing = drop_read xs i x lt (e ∙ same_rest xs ys i x h.rest)

    abbrev behind : ℕ → ℕ → List (Table K)
    behind l n = counting l n (drop (i + 1) xs)

    abbrev again : ℕ
    again = counted_run last next x.run

    abbrev either : Bool → List (Table K)
    either b = cond b (placed x.level again x ∷ behind x.run (suc again)) (x ∷ behind last next)

    pub recount_keep : eqb x.level 0 ≡ false → Recounting xs ys last next (i + 1)
    recount_keep isnt =
        let left : counting last next (drop i xs) ≡ x ∷ behind last next = ap (counting last next) standing ∙ ap either isnt in
        let done : take (i + 1) ys ≡ take i ys ++ x ∷ [] = take_more ys i x (omega arith) ∙ ap (λ y. take i ys ++ y ∷ []) (sym e) in
        record {
          front = ap (λ l. l ++ behind last next) done ∙ over (take i ys) _ _ x left ∙ h.front;
          rest = next_rest xs ys i h.rest;
          few = omega (arith, h.few);
        }

    pub recount_new : eqb x.level 0 ≡ true → Recounting xs (set ys i (placed x.level again x)) x.run (again + 1) (i + 1)
    recount_new is =
        let y : Table K = placed x.level again x in
        let up : suc again ≡ again + 1 = omega arith in
        let left : counting last next (drop i xs) ≡ y ∷ behind x.run (again + 1) = ap (counting last next) standing ∙ ap either is ∙ ap (λ n. y ∷ behind x.run n) up in
        record {
          front = ap (λ l. l ++ behind x.run (again + 1)) (take_more_set ys i y (omega arith)) ∙ over (take i ys) _ _ y left ∙ h.front;
          rest = drop-set-lt (i + 1) ys i y (omega arith) ∙ next_rest xs ys i h.rest;
          few = omega (arith, h.few, counted_le last next x.run);
        }

  pub recount_all : length xs ≤ i → ys ≡ counting 0 0 xs
  recount_all end =
      sym (take_all i ys (omega arith)) ∙ sym (append-nil (take i ys)) ∙ ap (λ l. take i ys ++ counting last next l) (sym (drop_all i xs end)) ∙ h.front
