-- What a job holds of the standing tables.
use Rattle.std.proofs.Common.{◌≡◌, ℕ, Bool, true, false, cond, not, ◌&&◌, ◌||◌, List, [], ◌∷◌, map, length, take, Some, None, filter, Option, Ordering, sym, refl, ap, ◌∙◌, arith}
use Rattle.std.specs.List.{list_any, list_all, zip}
use Rattle.runs.specs.declared.table.Table.{Table}
use Rattle.runs.specs.Run.{span_of}
use Rattle.sheets.specs.Tables.{named}
use Rattle.books.specs.Job.{Running}
use Rattle.slots.specs.Held.{marked}
use Rattle.slots.specs.Sound.{span_in}
use Rattle.slots.specs.View.{numbers_in}

-- ---- marks
pub marked_none : {X : Type 0} (ms : List Bool) → marked {X = X} ms [] ≡ []
marked_none [] = refl
marked_none (m ∷ ms) = refl

one_more : (b c d : Bool) → not c ≡ d → not (b || c) ≡ (not b && d)
one_more true c d e = refl
one_more false c d e = e

-- where none of what is read with its mark is marked and passes, all that are marked fail
pub none_marked : {X : Type 0} (p : X → Bool) (xs : List X) (ms : List Bool) → not (list_any (λ (e : X × Bool). e.1 && p e.0) (zip xs ms)) ≡ list_all (λ x. not (p x)) (marked ms xs)
none_marked p [] ms = ap (list_all (λ x. not (p x))) (sym (marked_none ms))
none_marked p (x ∷ xs) [] = refl
none_marked p (x ∷ xs) (true ∷ ms) = one_more (p x) _ _ (none_marked p xs ms)
none_marked p (x ∷ xs) (false ∷ ms) = none_marked p xs ms

-- where the marks are a test's answers, what it keeps is marked
pub marked_by : {X : Type 0} (p : X → Bool) (ms : List Bool) (xs : List X) → take (length xs) ms ≡ map p xs → marked ms xs ≡ filter p xs
marked_by p ms [] e = marked_none ms
marked_by p [] (x ∷ xs) e = let z : ◌≡◌ {A = ℕ} 0 1 = cc in absurd (omega arith)
marked_by p (m ∷ ms) (x ∷ xs) e =
    let first : m ≡ p x = cc in
    let rest : take (length xs) ms ≡ map p xs = cc in
    ap (λ us. cond m (x ∷ us) us) (marked_by p ms xs rest) ∙ ap (λ b. cond b (x ∷ filter p xs) (filter p xs)) first

-- ---- the tables of a slot's job
held_none : {K : Type 0} (ts : List (Table K)) → filter (named []) ts ≡ []
held_none [] = refl
held_none (t ∷ ts) = held_none ts

pub span_slot : {K : Type 0} (cmp : K → K → Ordering) (ts : List (Table K)) (o : Option Running) → span_of cmp (λ t. t.range) (filter (named (numbers_in o)) ts) ≡ span_in cmp ts o
span_slot cmp ts None = ap (span_of cmp (λ t. t.range)) (held_none ts)
span_slot cmp ts (Some j) = refl
