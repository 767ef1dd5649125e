-- On tables that are equal but for keys that compare alike, the test of a sheet comes out alike, and soundness holds alike.
use Rattle.std.proofs.Common.{◌≡◌, ℕ, suc, ◌^◌, ◌&&◌, leb, List, Ordering, sym, refl, ap, ◌∙◌}
use Rattle.keys.specs.KeyKind.{Laws}
use Rattle.keys.specs.Pairing.{Both, nil, cons, CompareAlike}
use Rattle.keys.proofs.Alike.{lt_alike}
use Rattle.runs.specs.declared.table.Table.{Table}
use Rattle.runs.specs.Pairing.{Twin}
use Rattle.sheets.specs.Sound.{Sound, counts_on, within_limits, ahead, leads, in_order, tables_ok, sheet_ok}
use Rattle.sheets.proofs.AlikeLevels.{all_alike, numbers_alike, size_alike}
use Rattle.sheets.proofs.Soundness.{sound_from_test, test_from_sound}

pub counts_alike : {A B : Type 0} (R : A → B → Type 0) {ts : List (Table A)} {us : List (Table B)} → Both (Twin R) ts us → (n : ℕ) → counts_on n ts ≡ counts_on n us
counts_alike R nil n = refl
counts_alike R (cons v w) n = rw (v.level, v.run, counts_alike R w (suc n), counts_alike R w n)

module _ {A B : Type 0} (cmp_a : A → A → Ordering) (cmp_b : B → B → Ordering) (R : A → B → Type 0) (alike : CompareAlike cmp_a cmp_b R) where
  pub within_alike : (t : Table A) (u : Table B) → Twin R t u → within_limits cmp_a t ≡ within_limits cmp_b u
  within_alike t u v = rw (v.level, v.size, v.linked, lt_alike cmp_a cmp_b R alike v.range.max v.range.min)

  pub ahead_alike : {t t' : Table A} {u u' : Table B} → Twin R t u → Twin R t' u' → ahead cmp_a t t' ≡ ahead cmp_b u u'
  ahead_alike v v' = rw (v.level, v'.level, v.run, v'.run, alike _ _ _ _ v.range.max v'.range.min)

  pub leads_alike : {t : Table A} {u : Table B} → Twin R t u → {ts : List (Table A)} {us : List (Table B)} → Both (Twin R) ts us → leads cmp_a t ts ≡ leads cmp_b u us
  leads_alike v nil = refl
  leads_alike v (cons x w) = ahead_alike v x

  pub order_alike : {ts : List (Table A)} {us : List (Table B)} → Both (Twin R) ts us → in_order cmp_a ts ≡ in_order cmp_b us
  order_alike nil = refl
  order_alike (cons v w) = rw (leads_alike v w, order_alike w)

  pub tables_alike : {ts : List (Table A)} {us : List (Table B)} → Both (Twin R) ts us → tables_ok cmp_a ts ≡ tables_ok cmp_b us
  tables_alike w = rw (all_alike (Twin R) (within_limits cmp_a) (within_limits cmp_b) within_alike w, size_alike R w, order_alike w, counts_alike R w 0, numbers_alike R w)

  pub sheet_alike : (room standing blobs : ℕ) {ts : List (Table A)} {us : List (Table B)} → Both (Twin R) ts us → sheet_ok cmp_a room standing blobs ts ≡ sheet_ok cmp_b room standing blobs us
  sheet_alike room standing blobs w = ap (λ b. leb room 1024 && (leb standing room && (leb blobs (2 ^ 53) && b))) (tables_alike w)

  pub sound_alike : Laws cmp_a → Laws cmp_b → (room standing blobs : ℕ) {ts : List (Table A)} {us : List (Table B)} → Both (Twin R) ts us → Sound cmp_a room standing blobs ts → Sound cmp_b room standing blobs us
  sound_alike lawsA lawsB room standing blobs {ts} {us} w s = sound_from_test lawsB room standing blobs us (sym (sheet_alike room standing blobs w) ∙ test_from_sound lawsA room standing blobs ts s)
