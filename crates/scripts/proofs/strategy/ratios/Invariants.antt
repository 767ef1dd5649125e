use Rattle.scripts.proofs.Lines.{Read}
use Rattle.scripts.proofs.strategy.ratios.Given as goal

abbrev pub invariant-loop-word : goal.invariant-loop-word
invariant-loop-word l = Read l.fn.words l.word-iterator l.ratios.items
