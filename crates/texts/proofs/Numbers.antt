-- What std's reading of a number says of decimal digits alone.
use Rattle.std.proofs.Common.{◌≡◌, ℕ, ◌^◌, ◌<◌, true, ◌&&◌, ltb, leb, List, length, get_or, Some, None, Ok, Err, Option, Result, refl, ◌∙◌, arith, MatchOption}
use Rattle.std.specs.Bool.{then_some}
use Rattle.std.specs.Result.{result_ok}
use Rattle.std.specs.Str.Parse.{digits_value, ParsesUnsigned}
use Rattle.std.specs.Str.{all_ascii_digits}
use Rattle.std.proofs.lemmas.Str.Parse.{IsNumeralModel, numerals_by_value, tells_all_ascii_digits, parse_plain}
use Rattle.std.proofs.lemmas.Result.{OkIff-at_ok, OkIff-at_err}
use Rattle.std.proofs.lemmas.Bool.{cond_both, and_parts, ltb-true, leb-true}
use Rattle.std.proofs.lemmas.Bool.Decides.{nat_tests}
use Rattle.texts.specs.Words.{decimal_of}

pub own : IsNumeralModel (λ ds. all_ascii_digits ds ≡ true) (digits_value 10)
own = numerals_by_value _ tells_all_ascii_digits

module _ {E : Type 0} (bs : List ℕ) (r : Result ℕ E) (h : ParsesUnsigned 64 10 bs r) (plain : get_or bs 0 0 ≡ 43 → ⊥) (most : ℕ) where
  pub number_none : (d : E) → r ≡ Err d → most < 2 ^ 64 → None ≡ decimal_of most bs
  number_none d e l =
      let p = OkIff-at_err r _ _ d (parse_plain own 64 bs r h plain) e in
      cond_both (all_ascii_digits bs && (ltb 0 (length bs) && leb (digits_value 10 bs) most)) (Some (digits_value 10 bs)) None (λ x. None ≡ x)
      (λ b.
      let q = and_parts (all_ascii_digits bs) (ltb 0 (length bs) && leb (digits_value 10 bs) most) b in
      let s = and_parts (ltb 0 (length bs)) (leb (digits_value 10 bs) most) q.1 in
      absurd (p (q.0, ltb-true 0 (length bs) s.0, omega (arith, leb-true (digits_value 10 bs) most s.1))))
      (λ b. refl)

-- a number that was read and then kept if it is at most `most`
pub number_read : {E : Type 0} (bs : List ℕ) (r : Result ℕ E) (o : Option ℕ) → ParsesUnsigned 64 10 bs r → (get_or bs 0 0 ≡ 43 → ⊥) → (most : ℕ) → most < 2 ^ 64 → MatchOption (result_ok r) (o ≡ None) (λ n. o ≡ then_some (leb n most) n) → o ≡ decimal_of most bs
number_read {E} bs (Err d) o h plain most l e = e ∙ number_none {E = E} bs (Err d) h plain most d refl l
number_read {E} bs (Ok n) o h plain most l e =
    let p = OkIff-at_ok {E = E} (Ok n) _ _ n (parse_plain own {E = E} 64 bs (Ok n) h plain) refl in
    let q = p.0.0 in
    let s = p.0.1 in
    let t = p.1 in
    e ∙ grind (arith, nat_tests)
