-- On tables that are equal but for keys, levels and what is asked of them are alike.
use Rattle.std.proofs.Common.{◌≡◌, ℕ, Bool, List, refl, ap}
use Rattle.std.specs.List.{list_any, list_all}
use Rattle.keys.specs.Pairing.{Both, nil, cons}
use Rattle.keys.proofs.Alike.{length_alike, sum_alike, kept_alike, map_same}
use Rattle.runs.specs.declared.table.Table.{Table}
use Rattle.runs.specs.Pairing.{Twin}
use Rattle.sheets.specs.Level.{numbers_of, size_of, in_level, level_of, count_of, filled, touched, free_of, runs}
use Rattle.sheets.specs.Tables.{memb, named, unnamed}

-- ---- tests of lists that pair
module _ {X Y : Type 0} (S : X → Y → Type 0) where
  pub some_alike : (p : X → Bool) (q : Y → Bool) → ((x : X) (y : Y) → S x y → p x ≡ q y) → {xs : List X} {ys : List Y} → Both S xs ys → list_any p xs ≡ list_any q ys
  some_alike p q f nil = refl
  some_alike p q f (cons {x} {y} s r) = rw (f x y s, some_alike p q f r)

  pub all_alike : (p : X → Bool) (q : Y → Bool) → ((x : X) (y : Y) → S x y → p x ≡ q y) → {xs : List X} {ys : List Y} → Both S xs ys → list_all p xs ≡ list_all q ys
  all_alike p q f nil = refl
  all_alike p q f (cons {x} {y} s r) = rw (f x y s, all_alike p q f r)

module _ {A B : Type 0} (R : A → B → Type 0) where
  pub numbers_alike : {ts : List (Table A)} {us : List (Table B)} → Both (Twin R) ts us → numbers_of ts ≡ numbers_of us
  numbers_alike w = map_same (Twin R) (λ t. t.number) (λ u. u.number) (λ t u v. v.number) w

  pub size_alike : {ts : List (Table A)} {us : List (Table B)} → Both (Twin R) ts us → size_of ts ≡ size_of us
  size_alike w = sum_alike (Twin R) (λ t. t.size) (λ u. u.size) (λ t u v. v.size) w

  pub in_level_alike : (n : ℕ) (t : Table A) (u : Table B) → Twin R t u → in_level n t ≡ in_level n u
  in_level_alike n t u v = rw v.level

  pub level_alike : (n : ℕ) {ts : List (Table A)} {us : List (Table B)} → Both (Twin R) ts us → Both (Twin R) (level_of n ts) (level_of n us)
  level_alike n w = kept_alike (Twin R) (in_level n) (in_level n) (in_level_alike n) w

  pub count_of_alike : (n : ℕ) {ts : List (Table A)} {us : List (Table B)} → Both (Twin R) ts us → count_of ts n ≡ count_of us n
  count_of_alike n w = length_alike (Twin R) (level_alike n w)

  pub filled_alike : (n : ℕ) {ts : List (Table A)} {us : List (Table B)} → Both (Twin R) ts us → filled ts n ≡ filled us n
  filled_alike n w = some_alike (Twin R) (in_level n) (in_level n) (in_level_alike n) w

  hid_alike : (hs : List ℕ) (t : Table A) (u : Table B) → Twin R t u → named hs t ≡ named hs u
  hid_alike hs t u v = ap (λ n. memb n hs) v.number

  pub touched_alike : (hs : List ℕ) (n : ℕ) {ts : List (Table A)} {us : List (Table B)} → Both (Twin R) ts us → touched hs ts n ≡ touched hs us n
  touched_alike hs n w = some_alike (Twin R) (named hs) (named hs) (hid_alike hs) (level_alike n w)

  pub free_alike : (hs : List ℕ) (n : ℕ) {ts : List (Table A)} {us : List (Table B)} → Both (Twin R) ts us → free_of hs ts n ≡ free_of hs us n
  free_alike hs n w = size_alike (kept_alike (Twin R) (unnamed hs) (unnamed hs) (λ t u v. rw v.number) (level_alike n w))

  pub runs_alike : {ts : List (Table A)} {us : List (Table B)} → Both (Twin R) ts us → runs ts ≡ runs us
  runs_alike nil = refl
  runs_alike (cons v w) = rw (v.level, v.run, runs_alike w)
