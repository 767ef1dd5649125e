-- On tables that are equal but for keys that compare alike, every definition on a sheet gives alike.
use Rattle.std.proofs.Common.{◌≡◌, ℕ, zero, suc, Bool, not, eqb, List, length, drop, Ordering, refl, ap, subst}
use Rattle.std.specs.List.{insert as inserted, remove, prefix_len}
use Rattle.keys.specs.Pairing.{Both, nil, cons, CompareAlike}
use Rattle.keys.proofs.Alike.{cond_alike, length_alike, take_alike, drop_alike, append_alike, kept_alike}
use Rattle.runs.specs.declared.table.Table.{Table}
use Rattle.runs.specs.declared.fresh.Fresh.{Fresh}
use Rattle.runs.specs.Pairing.{Twin, Fellow}
use Rattle.sheets.specs.Edits.{laid, changed}
use Rattle.sheets.specs.Recount.{counted_run, counting}
use Rattle.runs.specs.Fresh.{settled}
use Rattle.sheets.specs.Tables.{memb, named, unnamed, without, parted, placed, sooner, place, insert, inserts}

-- ---- lists that pair
module _ {X Y : Type 0} (S : X → Y → Type 0) where
  pub laid_alike : {xs : List X} {ys : List Y} → Both S xs ys → {s : List X} {s' : List Y} → Both S s s' → Both S (laid xs s) (laid ys s')
  laid_alike {xs} {ys} v {s} {s'} w = append_alike S v (subst (λ n. Both S (drop (length xs) s) (drop n s')) (length_alike S v) (drop_alike S (length xs) w))

  pub inserted_alike : (at : ℕ) {x : X} {y : Y} → S x y → {xs : List X} {ys : List Y} → Both S xs ys → Both S (inserted xs at x) (inserted ys at y)
  inserted_alike at s w = append_alike S (take_alike S at w) (cons s (drop_alike S at w))

  pub removed_alike : (at : ℕ) {xs : List X} {ys : List Y} → Both S xs ys → Both S (remove xs at) (remove ys at)
  removed_alike at w = append_alike S (take_alike S at w) (drop_alike S (suc at) w)

  pub changed_alike : (f : X → X) (g : Y → Y) → ((x : X) (y : Y) → S x y → S (f x) (g y)) → {xs : List X} {ys : List Y} → Both S xs ys → (at : ℕ) → Both S (changed f xs at) (changed g ys at)
  changed_alike f g h nil at = nil
  changed_alike f g h (cons {x} {y} s w) zero = cons (h x y s) w
  changed_alike f g h (cons s w) (suc at) = cons s (changed_alike f g h w at)

  pub leading_alike : (p : X → Bool) (q : Y → Bool) → ((x : X) (y : Y) → S x y → p x ≡ q y) → {xs : List X} {ys : List Y} → Both S xs ys → prefix_len p xs ≡ prefix_len q ys
  leading_alike p q h nil = refl
  leading_alike p q h (cons {x} {y} s w) = rw (h x y s, leading_alike p q h w)

-- ---- tables
module _ {A B : Type 0} (R : A → B → Type 0) where
  pub named_alike : (numbers : List ℕ) (t : Table A) (u : Table B) → Twin R t u → named numbers t ≡ named numbers u
  named_alike numbers t u v = ap (λ n. memb n numbers) v.number

  pub unnamed_alike : (numbers : List ℕ) (t : Table A) (u : Table B) → Twin R t u → unnamed numbers t ≡ unnamed numbers u
  unnamed_alike numbers t u v = ap not (named_alike numbers t u v)

  pub without_alike : (numbers : List ℕ) {ts : List (Table A)} {us : List (Table B)} → Both (Twin R) ts us → Both (Twin R) (without numbers ts) (without numbers us)
  without_alike numbers w = kept_alike (Twin R) (unnamed numbers) (unnamed numbers) (unnamed_alike numbers) w

  pub parted_alike : (numbers : List ℕ) {ts : List (Table A)} {us : List (Table B)} → Both (Twin R) ts us → Both (Twin R) (parted numbers ts) (parted numbers us)
  parted_alike numbers w = append_alike (Twin R) (without_alike numbers w) (kept_alike (Twin R) (named numbers) (named numbers) (named_alike numbers) w)

  pub placed_alike : {level level' run run' : ℕ} → level ≡ level' → run ≡ run' → (t : Table A) (u : Table B) → Twin R t u → Twin R (placed level run t) (placed level' run' u)
  placed_alike e f t u v = record { number = v.number; level = e; run = f; range = v.range; size = v.size; created = v.created; linked = v.linked }

  pub settled_alike : {level level' run run' : ℕ} → level ≡ level' → run ≡ run' → (f : Fresh A) (g : Fresh B) → Fellow R f g → Twin R (settled level run f) (settled level' run' g)
  settled_alike e i f g v = record { number = v.number; level = e; run = i; range = v.range; size = v.size; created = v.created; linked = v.linked }

  counted_same : {last last' next next' run run' : ℕ} → last ≡ last' → next ≡ next' → run ≡ run' → counted_run last next run ≡ counted_run last' next' run'
  counted_same e f g = rw (e, f, g)

  pub counting_alike : {ts : List (Table A)} {us : List (Table B)} → Both (Twin R) ts us → {last last' next next' : ℕ} → last ≡ last' → next ≡ next' → Both (Twin R) (counting last next ts) (counting last' next' us)
  counting_alike nil e f = nil
  counting_alike (cons {x = t} {y = u} v w) e f =
      let run = counted_same e f v.run in
      cond_alike (Both (Twin R)) _ _ (ap (λ n. eqb n 0) v.level) _ _ _ _ (cons (placed_alike v.level run t u v) (counting_alike w v.run (ap suc run))) (cons v (counting_alike w e f))

-- ---- the order of the sheet
module _ {A B : Type 0} (cmp_a : A → A → Ordering) (cmp_b : B → B → Ordering) (R : A → B → Type 0) (alike : CompareAlike cmp_a cmp_b R) where
  pub sooner_alike : {t t' : Table A} {u u' : Table B} → Twin R t u → Twin R t' u' → sooner cmp_a t t' ≡ sooner cmp_b u u'
  sooner_alike v v' = rw (v.level, v'.level, v.run, v'.run, alike _ _ _ _ v.range.min v'.range.min)

  pub place_alike : {t : Table A} {u : Table B} → Twin R t u → {ts : List (Table A)} {us : List (Table B)} → Both (Twin R) ts us → place cmp_a t ts ≡ place cmp_b u us
  place_alike v w = leading_alike (Twin R) _ _ (λ x y s. ap not (sooner_alike v s)) w

  pub insert_alike : {t : Table A} {u : Table B} → Twin R t u → {ts : List (Table A)} {us : List (Table B)} → Both (Twin R) ts us → Both (Twin R) (insert cmp_a t ts) (insert cmp_b u us)
  insert_alike v nil = cons v nil
  insert_alike v (cons x w) = cond_alike (Both (Twin R)) _ _ (sooner_alike v x) _ _ _ _ (cons v (cons x w)) (cons x (insert_alike v w))

  pub inserts_alike : {more : List (Table A)} {more' : List (Table B)} → Both (Twin R) more more' → {ts : List (Table A)} {us : List (Table B)} → Both (Twin R) ts us → Both (Twin R) (inserts cmp_a ts more) (inserts cmp_b us more')
  inserts_alike nil w = w
  inserts_alike (cons v r) w = inserts_alike r (insert_alike v w)
