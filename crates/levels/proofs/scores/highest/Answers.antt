use Rattle.std.proofs.Common.{◌≡◌, ℕ, ◌+◌, Bool, true, false, cond, List, get_or, sym, ap, ◌∙◌, arith, lit<}
use lib.Ieee.{Float, nan, le}
use Rattle.levels.specs.Scores.{winner}
use Rattle.levels.proofs.Steps.{winner_none, winner_more}
use Rattle.levels.proofs.scores.highest.Goals as goal
use Rattle.levels.proofs.scores.highest.Goals.{then-scores-best, else-scores-best}

-- the turn at i: whether the score there takes the place of the best so far
turn : (ss : List Float) (b i : ℕ) (t : Bool) → b ≡ winner ss i → le (get_or ss b nan) (get_or ss i nan) ≡ t → cond t i b ≡ winner ss (i + 1)
turn ss b i t e h = sym (winner_more ss i ∙ ap (λ (w : ℕ). cond (le (get_or ss w nan) (get_or ss i nan)) i w) (sym e) ∙ ap (λ (x : Bool). cond x i b) h)

pub loop-i-init : goal.loop-i-init
loop-i-init c = (lit< tt, sym (winner_none c.args.scores.now))

pub loop-i-preserved : goal.loop-i-preserved
loop-i-preserved c =
    let ss = c.args.scores.now in
    let l = c.loop-i in
    elim c.if-scores-best.branch [
      | then-scores-best w ↦ (omega (arith, w.best-is), w.best-is ∙ turn ss l.best l.i true l.invariant.1 w.if-scores-best.true)
      | else-scores-best w ↦ (omega (arith, w.best-is), w.best-is ∙ turn ss l.best l.i false l.invariant.1 w.if-scores-best.false)
    ]

pub returns : goal.returns
returns c =
    let end : c.loop-i.i ≡ 7 = omega arith in record {
      value = c.loop-i.invariant.1 ∙ ap (winner c.args.scores.now) end;
      within = c.loop-i.invariant.0;
    }
