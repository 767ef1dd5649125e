-- Tables that come in one by one, each put in its place.
use Rattle.std.proofs.Common.{◌≡◌, ℕ, ◌+◌, ◌<◌, ◌≤◌, List, [], ◌∷◌, ◌++◌, map, length, get_or, take, drop, Ordering, sym, ap, ◌∙◌, arith}
use Rattle.std.proofs.lemmas.List.{drop_all, drop-append-le, length-drop, length-map, length-take-le, map_push, take_all, take_more}
use Rattle.runs.specs.declared.table.Table.{Table}
use Rattle.sheets.specs.Edits.{laid}
use Rattle.sheets.specs.Tables.{insert, inserts}
use Rattle.sheets.proofs.Inserts.{inserts_push, length_insert, length_inserts}
use Rattle.sheets.proofs.Laid.{get_or_laid, laid_front, relaid}

take_one : {X : Type 0} (xs : List X) (i : ℕ) (x : X) → i < length xs → x ≡ get_or xs i x → take (i + 1) xs ≡ take i xs ++ x ∷ []
take_one xs i x lt e = take_more xs i x lt ∙ ap (λ y. take i xs ++ y ∷ []) (sym e)

module _ {K : Type 0} (cmp : K → K → Ordering) where
  -- s' has `base` with `new` put in over the front of s; s'' has t put in too
  one_in : (base new : List (Table K)) (t : Table K) (s s' s'' : List (Table K)) (n : ℕ) → s' ≡ laid (inserts cmp base new) s → n ≡ length base + length new → s'' ≡ laid (insert cmp t (take n s')) s' → s'' ≡ laid (inserts cmp base (new ++ t ∷ [])) s
  one_in base new t s s' s'' n is e is' =
      let xs : List (Table K) = inserts cmp base new in
      relaid (insert cmp t) xs s s' s'' n is (omega (arith, length_inserts cmp new base)) (omega (arith, length_insert cmp t xs)) is' ∙ ap (λ l. laid l s) (sym (inserts_push cmp new base t))

  -- ---- tables of the sheet itself, from `left` on, each changed by f
  module _ (f : Table K → Table K) (s : List (Table K)) (left : ℕ) where
    abbrev pub taken : ℕ → List (Table K)
    taken i = inserts cmp (take left s) (map f (drop left (take i s)))

    pub taken_none : left ≤ length s → s ≡ laid (taken left) s
    taken_none le =
        let n = length-take-le left s le in
        sym (ap (λ l. laid (inserts cmp (take left s) (map f l)) s) (drop_all left (take left s) (omega arith)) ∙ laid_front s left le)

    pub taken_more : (i : ℕ) (s' s'' : List (Table K)) (x : Table K) → left ≤ i → i < length s → s' ≡ laid (taken i) s → x ≡ get_or s' i x → s'' ≡ laid (insert cmp (f x) (take i s')) s' → s'' ≡ laid (taken (i + 1)) s
    taken_more i s' s'' x le lt is e is' =
        let new : List (Table K) = map f (drop left (take i s)) in
        let a = length-take-le left s (omega arith) in
        let b = length-take-le i s (omega arith) in
        let long : i ≡ length (take left s) + length new = omega (arith, length-map (drop left (take i s)) f, length-drop left (take i s)) in
        let read : x ≡ get_or s i x = e ∙ ap (λ l. get_or l i x) is ∙ get_or_laid (taken i) s i x (omega (arith, length_inserts cmp new (take left s))) in
        let more : map f (drop left (take (i + 1) s)) ≡ new ++ f x ∷ [] =
        ap (λ l. map f (drop left l)) (take_one s i x lt read) ∙ ap (map f) (drop-append-le left (take i s) (x ∷ []) (omega arith)) ∙ map_push f (drop left (take i s)) x in
        one_in (take left s) new (f x) s s' s'' i is long is' ∙ ap (λ l. laid (inserts cmp (take left s) l) s) (sym more)

  -- ---- tables from elsewhere, each made by f
  module _ {X : Type 0} (f : X → Table K) (s : List (Table K)) (count : ℕ) (xs : List X) where
    abbrev pub arrived : ℕ → List (Table K)
    arrived i = inserts cmp (take count s) (map f (take i xs))

    pub arrived_more : (i : ℕ) (s' s'' : List (Table K)) (x : X) → count ≤ length s → i < length xs → x ≡ get_or xs i x → s' ≡ laid (arrived i) s → s'' ≡ laid (insert cmp (f x) (take (count + i) s')) s' → s'' ≡ laid (arrived (i + 1)) s
    arrived_more i s' s'' x le lt e is is' =
        let a = length-take-le count s le in
        let b = length-take-le i xs (omega arith) in
        let long : count + i ≡ length (take count s) + length (map f (take i xs)) = omega (arith, length-map (take i xs) f) in
        let more : map f (take (i + 1) xs) ≡ map f (take i xs) ++ f x ∷ [] = ap (map f) (take_one xs i x lt e) ∙ map_push f (take i xs) x in
        one_in (take count s) (map f (take i xs)) (f x) s s' s'' (count + i) is long is' ∙ ap (λ l. laid (inserts cmp (take count s) l) s) (sym more)

    pub arrived_all : (i : ℕ) → length xs ≤ i → arrived i ≡ inserts cmp (take count s) (map f xs)
    arrived_all i le = ap (λ l. inserts cmp (take count s) (map f l)) (take_all i xs le)
