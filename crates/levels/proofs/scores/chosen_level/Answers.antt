use Rattle.std.proofs.Common.{◌≡◌, ℕ, Bool, true, false, cond, List, get_or, Some, None, Option, sym, ap, ◌∙◌, subst}
use lib.Ieee.{Float, nan, binary64, of_bits, lt}
use Rattle.levels.specs.Scores.{double, winner, chosen, AllScored, Chooses}
use Rattle.levels.proofs.Literals.{double_one_is}
use Rattle.levels.proofs.Best.{chooses}
use Rattle.levels.proofs.scores.chosen_level.Goals as goal

module _ (ss : List Float) (w : ℕ) (is : w ≡ winner ss 7) where
  picks : (t : Bool) → lt (get_or ss w nan) (of_bits binary64 0x3ff0_0000_0000_0000) ≡ t → cond t None (Some w) ≡ chosen ss
  picks t h =
      let test : lt (get_or ss (winner ss 7) nan) (double 1) ≡ t = ap (λ (k : ℕ). lt (get_or ss k nan) (double 1)) (sym is) ∙ ap (lt (get_or ss w nan)) (sym double_one_is) ∙ h in
      ap (λ (k : ℕ). cond t None (Some k)) is ∙ sym (ap (λ (b : Bool). cond b None (Some (winner ss 7))) test)

  keeps : (r : Option ℕ) → r ≡ chosen ss → AllScored ss → Chooses ss r
  keeps r e S = subst (Chooses ss) (sym e) (chooses ss S)

pub returns-then-scores-level : goal.returns-then-scores-level
returns-then-scores-level c =
    let ss = c.args.scores.now in
    let w = c.highest-level.result in
    let e = picks ss w c.highest-level.ensures.value true c.if-scores-level.true in
    record { value = e; highest = keeps ss w c.highest-level.ensures.value None e }

pub returns-else-scores-level : goal.returns-else-scores-level
returns-else-scores-level c =
    let ss = c.args.scores.now in
    let w = c.highest-level.result in
    let e = picks ss w c.highest-level.ensures.value false c.if-scores-level.false in
    record { value = e; highest = keeps ss w c.highest-level.ensures.value (Some w) e }
