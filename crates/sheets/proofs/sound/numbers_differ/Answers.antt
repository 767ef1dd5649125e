use Rattle.std.proofs.Common.{◌∙◌}
use Rattle.std.proofs.lemmas.List.Sorted.{IsNonDecreasingBy-from_sort}
use Rattle.sheets.proofs.Distinct.{distinct_shuffled}
use Rattle.sheets.proofs.sound.numbers_differ.Goals as goal

pub neighbours_differ-requires : goal.neighbours_differ-requires
neighbours_differ-requires c = IsNonDecreasingBy-from_sort (λ x. x) c.sort_unstable.new.self c.sort_unstable.ensures.sorted

pub returns-clause-answer : goal.returns-clause-answer
returns-clause-answer c = c.neighbours_differ.ensures ∙ distinct_shuffled c.args.numbers.now c.sort_unstable.new.self c.sort_unstable.ensures.permutation

pub returns-clause-sorted : goal.returns-clause-sorted
returns-clause-sorted c = IsNonDecreasingBy-from_sort (λ x. x) c.sort_unstable.new.self c.sort_unstable.ensures.sorted
