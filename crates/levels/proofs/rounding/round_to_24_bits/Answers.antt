use Rattle.std.proofs.Common.{◌≡◌, ℕ, ◌*◌, ◌^◌, ◌<◌, ◌≤◌, sym, ap, ◌∙◌, subst, arith, pow_pos, pow_mono}
use lib.Ieee.Nearest.{closest}
use Rattle.levels.specs.Rounding.{single}
use Rattle.levels.proofs.Digits.{past, past_le, digits_le, digits_pos, digits_rounded, digits_single}
use Rattle.levels.proofs.rounding.round_to_24_bits.Goals as goal

unit_le : (x u : ℕ) → x < 2 ^ 48 → u ≡ 2 ^ past x → u ≤ 2 ^ 24
unit_le x u h e = subst (λ (z : ℕ). z ≤ 2 ^ 24) (sym e) (pow_mono (past_le x h))

unit_pos : (x u : ℕ) → u ≡ 2 ^ past x → 0 < u
unit_pos x u e = subst (λ (z : ℕ). 0 < z) (sym e) (pow_pos (past x))

-- the digits d, by the unit u
by_unit : (x u d : ℕ) → u ≡ 2 ^ past x → d ≡ closest x u → d ≡ closest x (2 ^ past x)
by_unit x u d e f = f ∙ ap (closest x) e

digits_small : (x u d : ℕ) → u ≡ 2 ^ past x → d ≡ closest x u → d ≤ 2 ^ 24
digits_small x u d e f = subst (λ (z : ℕ). z ≤ 2 ^ 24) (sym (by_unit x u d e f)) (digits_le x)

is_product : (x u d : ℕ) → u ≡ 2 ^ past x → d ≡ closest x u → d * u ≡ closest x (2 ^ past x) * 2 ^ past x
is_product x u d e f = ap (λ (z : ℕ). z * u) (by_unit x u d e f) ∙ ap (λ (z : ℕ). closest x (2 ^ past x) * z) e

pub nearest_multiple-digits-requires : goal.nearest_multiple-digits-requires
nearest_multiple-digits-requires c =
    let p = unit_pos c.args.x c.unit_of-unit.result c.unit_of-unit.ensures in
    let l = unit_le c.args.x c.unit_of-unit.result c.requires c.unit_of-unit.ensures in
    (p, (omega arith, omega arith))

pub overflow_cast-result : goal.overflow_cast-result
overflow_cast-result c =
    let l = digits_small c.args.x c.unit_of-unit.result c.nearest_multiple-digits.result c.unit_of-unit.ensures c.nearest_multiple-digits.ensures in
    record { fits = omega arith }

pub overflow_cast-result-2 : goal.overflow_cast-result-2
overflow_cast-result-2 c =
    let l = unit_le c.args.x c.unit_of-unit.result c.requires c.unit_of-unit.ensures in
    record { fits = omega arith }

pub returns : goal.returns
returns c =
    let x = c.args.x in
    let u = c.unit_of-unit.result in
    let d = c.nearest_multiple-digits.result in
    let e = c.unit_of-unit.ensures in
    let f = c.nearest_multiple-digits.ensures in
    let q = is_product x u d e f in record {
      unit = e;
      value = q ∙ digits_rounded x c.requires;
      same = ap single q ∙ digits_single x c.requires;
      small = (digits_small x u d e f, unit_le x u c.requires e, unit_pos x u e, λ h. subst (λ (z : ℕ). 0 < z) (sym (by_unit x u d e f)) (digits_pos x h));
    }
