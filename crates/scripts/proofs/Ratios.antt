-- What std's reading of hex digits says of at most eight of them, with no sign.
use Rattle.std.proofs.Common.{◌≡◌, ℕ, ◌^◌, ◌<◌, ◌≤◌, List, length, get_or, Some, None, Ok, Err, Option, Result, MatchOption, refl, ap, ◌∙◌, subst, arith}
use Rattle.std.specs.Option.{SomeIff, IsSomeAnd}
use Rattle.std.specs.Result.{result_ok}
use native.Mathlib.Nat.{pow-le-pow_right}
use Rattle.std.specs.Str.Parse.{IsNumeral, digits_value, ParsesUnsigned}
use Rattle.std.proofs.lemmas.Int.Digits.{digits_value-lt}
use Rattle.std.proofs.lemmas.Str.Parse.{without_leading_plus_none}
use Rattle.std.proofs.lemmas.Result.{OkIff-at_ok, OkIff-at_err}

module _ {E : Type 0} (ds : List ℕ) (r : Result ℕ E) (h : ParsesUnsigned 32 16 ds r) (plain : get_or ds 0 0 ≡ 43 → ⊥) where
  pub bits_read : (n : ℕ) → r ≡ Ok n → IsNumeral 16 ds × (n ≡ digits_value 16 ds)
  bits_read n e =
      let p = subst (λ l. (IsNumeral 16 l × (digits_value 16 l < 2 ^ 32)) × (n ≡ digits_value 16 l)) (without_leading_plus_none ds plain) (OkIff-at_ok r _ _ n h e) in
      (p.0.0, p.1)

  pub no_bits : (d : E) → r ≡ Err d → IsNumeral 16 ds × (length ds ≤ 8) → ⊥
  no_bits d e p =
      let few = digits_value-lt 16 ds p.0.1 in
      let zero : 0 < 16 = omega arith in
      let most : 16 ^ length ds ≤ 16 ^ 8 = pow-le-pow_right zero p.1 in
      subst (λ l. IsNumeral 16 l × (digits_value 16 l < 2 ^ 32) → ⊥) (without_leading_plus_none ds plain) (OkIff-at_err r _ _ d h e) (p.0, omega arith)

-- what came of the digits, where g makes a value of the number that they write
pub ratio_read : {E X : Type 0} (g : ℕ → X) (ds : List ℕ) (r : Result ℕ E) (m : Option X) → ParsesUnsigned 32 16 ds r → (get_or ds 0 0 ≡ 43 → ⊥) → length ds ≤ 8 → MatchOption (result_ok r) (m ≡ None) (λ n. IsSomeAnd m (λ x. x ≡ g n)) → SomeIff m (IsNumeral 16 ds × (length ds ≤ 8)) (g (digits_value 16 ds))
ratio_read g ds (Ok n) None h plain few e = absurd e
ratio_read {E} g ds (Ok n) (Some x) h plain few e =
    let p = bits_read {E = E} ds (Ok n) h plain n refl in
    ((p.0, few), e ∙ ap g p.1)
ratio_read {E} g ds (Err d) None h plain few e = no_bits {E = E} ds (Err d) h plain d refl
ratio_read g ds (Err d) (Some x) h plain few e = absurd cc
