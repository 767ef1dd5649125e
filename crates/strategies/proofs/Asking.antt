-- The question on a lent id sheet, from the answer into memory of its own.
use Rattle.std.proofs.Common.{◌≡◌, ℕ, true, cond, leb, List, length, take, drop, Ok, Err, Result, Ordering, sym, refl, ap, ◌∙◌, arith}
use Rattle.std.proofs.lemmas.List.{take_at}
use Rattle.std.proofs.lemmas.Bool.{le-leb}
use Rattle.refusals.specs.declared.refusal.Refusal.{Refusal}
use Rattle.refusals.specs.declared.refusal.Refusal.TheVariants.{NotSound, IdsTooShort}
use Rattle.runs.specs.declared.table.Table.{Table}
use Rattle.sheets.specs.Edits.{laid}
use Rattle.sheets.specs.Sound.{sheet_ok}
use Rattle.strategies.specs.declared.choice.Choice.{Choice}
use Rattle.strategies.specs.declared.choice.Choice.TheVariants as C
use Rattle.strategies.specs.declared.choice.Kind.{Kind}
use Rattle.strategies.specs.declared.choice.Kind.TheVariants.{Move, Merge, Drop}
use Rattle.strategies.specs.declared.declined.Declined.{Declined}
use Rattle.strategies.specs.Answer.{Chosen, Answer, nothing, chooses, declines, as_choice, returned, written, asked, noted}
use Rattle.strategies.specs.Question.{count_in, proposed, ids_after}

-- ---- from what was returned and written
pub count_is : (k : Kind) (c : Chosen) → count_in (as_choice k c) ≡ length c.numbers
count_is Move c = refl
count_is Merge c = refl
count_is Drop c = refl

pub laid_front : (ns s : List ℕ) → take (length ns) (laid ns s) ≡ ns
laid_front ns s = take_at ns (drop (length ns) s) (length ns) refl

module _ (choice : Choice) where
  pub granted_answer : (a : Answer) → ◌≡◌ {A = Result Choice Declined} (Ok choice) (returned a) → (places : ℕ) → ◌≡◌ {A = Result Choice Refusal} (cond (leb (count_in choice) places) (Ok choice) (Err IdsTooShort)) (asked a places)
  granted_answer nothing e places = let f : choice ≡ C.DoNothing = cc in ap (λ x. cond (leb (count_in x) places) (Ok x) (Err IdsTooShort)) f ∙ ap (λ b. cond b (Ok C.DoNothing) (Err IdsTooShort)) (le-leb 0 places (omega arith))
  granted_answer (chooses c) e places =
      let f : choice ≡ as_choice c.kind c = cc in
      ap (λ x. cond (leb (count_in x) places) (Ok x) (Err IdsTooShort)) f ∙ ap (λ n. cond (leb n places) (Ok (as_choice c.kind c)) (Err IdsTooShort)) (count_is c.kind c)
  granted_answer (declines d) e places = absurd (let z : ◌≡◌ {A = ℕ} 0 1 = cc in omega arith)

  pub granted_ids : (room after : List ℕ) (a : Answer) → ◌≡◌ {A = Result Choice Declined} (Ok choice) (returned a) → after ≡ written a room → (ids : List ℕ)
      → cond (leb (count_in choice) (length ids)) (laid (take (count_in choice) after) ids) ids ≡ noted a ids
  granted_ids room after nothing e w ids =
      let f : choice ≡ C.DoNothing = cc in
      ap (λ x. cond (leb (count_in x) (length ids)) (laid (take (count_in x) after) ids) ids) f ∙ ap (λ b. cond b ids ids) (le-leb 0 (length ids) (omega arith))
  granted_ids room after (chooses c) e w ids =
      let f : choice ≡ as_choice c.kind c = cc in
      let n = ap count_in f ∙ count_is c.kind c in
      ap (λ k. cond (leb k (length ids)) (laid (take k after) ids) ids) n
      ∙ ap (λ ns. cond (leb (length c.numbers) (length ids)) (laid ns ids) ids) (ap (take (length c.numbers)) w ∙ laid_front c.numbers room)
  granted_ids room after (declines d) e w ids = absurd (let z : ◌≡◌ {A = ℕ} 0 1 = cc in omega arith)

-- ---- on a sheet that is sound
module _ {K : Type 0} (cmp : K → K → Ordering) (g : List (Table K) → List ℕ → Answer) (sheet : List (Table K)) (standing : ℕ) (hs : List ℕ) (blobs : ℕ)
    (ok : sheet_ok cmp (length sheet) standing blobs (take standing sheet) ≡ true) (n : ℕ) (whole : n ≡ standing) where
  same : g (take n sheet) hs ≡ g (take standing sheet) hs
  same = ap (λ m. g (take m sheet) hs) whole

  pub proposed_is : (r : Result Choice Refusal) (places : ℕ) → r ≡ asked (g (take n sheet) hs) places → r ≡ proposed cmp g sheet standing hs blobs places
  proposed_is r places e = e ∙ ap (λ a. asked a places) same ∙ sym (ap (λ b. cond b (asked (g (take standing sheet) hs) places) (Err NotSound)) ok)

  pub ids_are : (after ids : List ℕ) → after ≡ noted (g (take n sheet) hs) ids → after ≡ ids_after cmp g sheet standing hs blobs ids
  ids_are after ids e = e ∙ ap (λ a. noted a ids) same ∙ sym (ap (λ b. cond b (noted (g (take standing sheet) hs) ids) ids) ok)
