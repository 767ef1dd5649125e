use Rattle.std.proofs.Common.{◌≡◌, ℕ, ◌-◌, ◌<◌, eqb, [], ◌∷◌, sym, refl, ap, ◌∙◌, subst, arith, rules}
use Rattle.std.specs.List.{fold, range_with_len}
use Rattle.std.proofs.iter.Yields.{nat_range_steps, Range-gives}
use Rattle.std.proofs.lemmas.Fn.{fold_over}
use Rattle.std.proofs.lemmas.List.Sums.{fold-append}
use lib.Ieee.{Float, binary32, mul, to_unsigned}
use Rattle.std.proofs.lemmas.Bool.{cond-false, ne_eqb}
use Rattle.levels.specs.Rounding.{single}
use Rattle.levels.specs.Settings.{ratios_of}
use Rattle.levels.specs.Targets.{ratio_at, base_size, product, target_at}
use Rattle.levels.proofs.Steps.{grown_over}
use Rattle.levels.proofs.Limits.{limits}
use Rattle.levels.proofs.Products.{all_finite, target_pos}
use Rattle.levels.proofs.settings.Settings.level_target_size.Goals as goal

pub returns-then-canonical_level-eq1 : goal.returns-then-canonical_level-eq1
returns-then-canonical_level-eq1 c =
    let s = c.args.self.now in
    let l = limits s c.requires.0 in
    let e : c.level_base_size-base.result ≡ target_at s c.args.canonical_level = search rules in
    record { value = e; finite = all_finite s l; positive = λ h. subst (λ (z : ℕ). 0 < z) (sym e) (target_pos s l c.args.canonical_level h) }

pub returns : goal.returns
returns c =
    let s = c.args.self.now in
    let n = c.args.canonical_level in
    let l = limits s c.requires.0 in
    let rs = ratios_of s in
    let base : c.nearest_f32.result ≡ single (base_size s) = c.nearest_f32.ensures ∙ ap single c.level_base_size-base.ensures in
    let h : Float → ℕ → Float = λ x i. mul binary32 x (ratio_at rs i) in
    let ran : c.fold-size.result ≡ fold h c.nearest_f32.result (range_with_len 0 (n - 1 - 0)) =
    fold_over nat_range_steps (λ i. i) _ (λ is x. x ≡ fold h c.nearest_f32.result is) _
    (λ is x i y f j k. let more = fold-append h c.nearest_f32.result is (i ∷ []) in let at : y ≡ h x i = search rules in (at ∙ ap (λ z. h z i) j ∙ sym more, search rules))
    (record { start = 0; end = n - 1 }) (range_with_len 0 (n - 1 - 0)) _ _ (Range-gives (record { start = 0; end = n - 1 })) refl c.fold-size.ensures.ran in
    let last : c.saturating_f32_to_u64.result ≡ to_unsigned 64 (product s (n - 1)) = c.saturating_f32_to_u64.ensures ∙ ap (to_unsigned 64) (ran ∙ ap (λ x. fold h x (range_with_len 0 (n - 1 - 0))) base ∙ grown_over rs (single (base_size s)) (n - 1 - 0) ∙ ap (product s) (omega arith)) in
    let e : c.saturating_f32_to_u64.result ≡ target_at s n = last ∙ sym (cond-false (eqb n 1) _ _ (ne_eqb n 1 c.if-canonical_level-eq1.false)) in
    record { value = e; finite = all_finite s l; positive = λ h. subst (λ (z : ℕ). 0 < z) (sym e) (target_pos s l n h) }
