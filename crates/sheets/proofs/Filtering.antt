-- A loop that filters in place: what passes is laid over the front.
use Rattle.std.proofs.Common.{◌≡◌, ℕ, ◌+◌, ◌<◌, ◌≤◌, Bool, true, false, cond, List, [], ◌∷◌, ◌++◌, length, get_or, take, set, filter, sym, ap, ◌∙◌, arith}
use Rattle.std.proofs.lemmas.List.Elements.{filter_more}
use Rattle.std.proofs.lemmas.List.{append-nil, length_push}
use Rattle.sheets.specs.Edits.{laid}
use Rattle.sheets.proofs.Laid.{laid_push, get_or_laid}

-- one more at the end of a filter that passes it, or does not
module _ {X : Type 0} (p : X → Bool) (xs : List X) (i : ℕ) (x : X) (lt : i < length xs) (e : x ≡ get_or xs i x) where
  kept_now : filter p (take (i + 1) xs) ≡ filter p (take i xs) ++ cond (p x) (x ∷ []) []
  kept_now = filter_more p xs i x lt ∙ ap (λ y. filter p (take i xs) ++ cond (p y) (y ∷ []) []) (sym e)

  pub kept_yes : p x ≡ true → filter p (take (i + 1) xs) ≡ filter p (take i xs) ++ x ∷ []
  kept_yes is = kept_now ∙ ap (λ b. filter p (take i xs) ++ cond b (x ∷ []) []) is

  pub kept_no : p x ≡ false → filter p (take (i + 1) xs) ≡ filter p (take i xs)
  kept_no isnt = kept_now ∙ ap (λ b. filter p (take i xs) ++ cond b (x ∷ []) []) isnt ∙ append-nil (filter p (take i xs))

-- ys began as xs: of the first i of xs those that pass p, k of them, are laid over its front
pub record Filtered {X : Type 0} (p : X → Bool) (xs ys : List X) (k i : ℕ) : Type 0 where
  pub front : ys ≡ laid (filter p (take i xs)) xs
  pub size : k ≡ length (filter p (take i xs))
  pub behind : k ≤ i

module _ {X : Type 0} (p : X → Bool) (xs ys : List X) (k i : ℕ) (h : Filtered p xs ys k i) (x : X) (lt : i < length xs) (e : x ≡ get_or ys i x) where
  abbrev so_far : List X
  so_far = filter p (take i xs)

  read : x ≡ get_or xs i x
  read = e ∙ ap (λ l. get_or l i x) h.front ∙ get_or_laid so_far xs i x (omega (arith, h.size, h.behind))

  pub filter_not : p x ≡ false → Filtered p xs ys k (i + 1)
  filter_not isnt =
      let same = kept_no p xs i x lt read isnt in
      record { front = h.front ∙ ap (λ f. laid f xs) (sym same); size = h.size ∙ ap length (sym same); behind = omega (arith, h.behind) }

  pub filter_yes : p x ≡ true → Filtered p xs (set ys k x) (k + 1) (i + 1)
  filter_yes is =
      let more = kept_yes p xs i x lt read is in
      record {
        front = ap (λ l. set l k x) h.front ∙ laid_push so_far xs k x h.size (omega (arith, h.behind)) ∙ ap (λ f. laid f xs) (sym more);
        size = omega (arith, h.size, ap length more, length_push so_far x);
        behind = omega (arith, h.behind);
      }
