-- What a survey's facts give: the tested sheet in words, and one table more that is looked at.
use Rattle.std.proofs.Common.{◌||◌, ◌≡◌, ℕ, ◌+◌, ◌^◌, ◌<◌, ◌≤◌, Bool, true, false, List, [], ◌∷◌, ◌++◌, length, get_or, take, Ordering, sym, refl, ap, ◌∙◌}
use Rattle.std.specs.List.{list_any}
use Rattle.std.proofs.lemmas.List.{take_more}
use Rattle.keys.specs.KeyKind.{Laws}
use Rattle.runs.specs.declared.table.Table.{Table}
use Rattle.sheets.specs.Level.{size_of, Stacked}
use Rattle.sheets.specs.Sound.{Sound, tables_ok}
use Rattle.sheets.proofs.Ascends.{sound_stacked}
use Rattle.sheets.proofs.Soundness.{sound_from_test}

module _ {K : Type 0} {cmp : K → K → Ordering} (laws : Laws cmp) where
  -- tables that pass the test are sound, in a sheet of whatever room
  pub sound_of : (ts : List (Table K)) → tables_ok cmp ts ≡ true → Sound cmp 0 0 0 ts
  sound_of ts h = sound_from_test laws 0 0 0 ts h

  pub stacked_of : (ts : List (Table K)) → tables_ok cmp ts ≡ true → Stacked ts
  stacked_of ts h = sound_stacked laws (sound_of ts h)

  pub small_of : (ts : List (Table K)) → tables_ok cmp ts ≡ true → size_of ts ≤ 2 ^ 53
  small_of ts h = (sound_of ts h).ordered.total

-- ---- one more is looked at
module _ {X : Type 0} (p : X → Bool) where
  some_push : (xs : List X) (x : X) → list_any p (xs ++ x ∷ []) ≡ (p x || list_any p xs)
  some_push [] x = refl
  some_push (y ∷ ys) x =
      let rest = some_push ys x in
      elim (p y) as (λ b. (b || list_any p (ys ++ x ∷ [])) ≡ (p x || (b || list_any p ys))) [ true ↦ elim (p x) as (λ b. true ≡ (b || true)) [ true ↦ refl | false ↦ refl ] | false ↦ rest ]

  pub some_more : (xs : List X) (i : ℕ) (x : X) → i < length xs → x ≡ get_or xs i x → list_any p (take (i + 1) xs) ≡ (p x || list_any p (take i xs))
  some_more xs i x h e = ap (list_any p) (take_more xs i x h) ∙ some_push (take i xs) (get_or xs i x) ∙ ap (λ y. p y || list_any p (take i xs)) (sym e)
