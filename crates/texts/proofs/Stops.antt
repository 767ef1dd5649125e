-- A word that is cut at its first colon, and the stop key that it says.
use Rattle.std.proofs.Common.{◌≡◌, ℕ, ◌-◌, ◌^◌, true, ◌&&◌, ltb, leb, List, length, Some, None, Option, Result, ap, arith, Bor, MatchOption}
use Rattle.std.specs.Str.Parse.{digits_value}
use Rattle.std.specs.Str.{all_ascii_digits}
use Rattle.std.proofs.lemmas.Str.Parse.{not_in_digits}
use Rattle.std.proofs.lemmas.Str.Pattern.{IsSplitOnceResult, split_after}
use Rattle.std.proofs.lemmas.Option.{MatchOption-at_some, MatchOption-at_none}
use Rattle.std.proofs.lemmas.Bool.{cond_both, and_parts}
use Rattle.refusals.specs.declared.refusal.Refusal.{Refusal}
use Rattle.keys.specs.declared.stop_key.StopKey.{StopKey}
use Rattle.texts.specs.KeyText.{StopWord}
use Rattle.texts.specs.Words.{decimal_of}
use Rattle.texts.proofs.Numbers.{own}

all_digits : (most : ℕ) (ds : List ℕ) (n : ℕ) → decimal_of most ds ≡ Some n → all_ascii_digits ds ≡ true
all_digits most ds n =
    cond_both (all_ascii_digits ds && (ltb 0 (length ds) && leb (digits_value 10 ds) most)) (Some (digits_value 10 ds)) None (λ x. x ≡ Some n → all_ascii_digits ds ≡ true)
    (λ b e. (and_parts (all_ascii_digits ds) (ltb 0 (length ds) && leb (digits_value 10 ds) most) b).0)
    (λ b e. cc)

module _ (w : List ℕ) (r : Option (Bor (List ℕ) × Bor (List ℕ))) (cut : IsSplitOnceResult 58 w r) where
  parts : (k : Result StopKey Refusal) (word : StopWord w k) → MatchOption r ⊥ (λ x. (x.0.now ≡ word.before) × (x.1.now ≡ word.after))
  parts k word =
      split_after 58 w word.before word.after r cut (omega arith) word.whole
      (λ i h e. not_in_digits own word.before 58 (all_digits (2 ^ 32 - 1) word.before _ word.tour) (λ d. omega arith) i h e)

  pub no_colon : r ≡ None → (k : Result StopKey Refusal) → StopWord w k → ⊥
  no_colon e k word = MatchOption-at_none _ _ e (parts k word)

  module _ (x : Bor (List ℕ) × Bor (List ℕ)) (e : r ≡ Some x) where
    pub no_tour : decimal_of (2 ^ 32 - 1) x.0.now ≡ None → (k : Result StopKey Refusal) → StopWord w k → ⊥
    no_tour n k word =
        let p = MatchOption-at_some _ _ x e (parts k word) in
        cc (ap (decimal_of (2 ^ 32 - 1)) p.0, word.tour)

    pub no_stop : decimal_of (2 ^ 32 - 1) x.1.now ≡ None → (k : Result StopKey Refusal) → StopWord w k → ⊥
    no_stop n k word =
        let p = MatchOption-at_some _ _ x e (parts k word) in
        cc (ap (decimal_of (2 ^ 32 - 1)) p.1, word.stop)
