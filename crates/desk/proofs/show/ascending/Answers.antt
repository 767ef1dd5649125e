use Rattle.std.proofs.Common.{◌≡◌, length, drop, ◌∙◌, subst}
use Rattle.std.specs.List.Sorted.{IsPermutation}
use Rattle.std.proofs.lemmas.List.{take_at}
use Rattle.std.proofs.lemmas.List.Sorted.{IsNonDecreasingBy-from_sort}
use Rattle.desk.proofs.Ascending.{sorted_is}
use Rattle.desk.proofs.show.ascending.Goals as goal

pub returns : goal.returns
returns c =
    let new = c.sort_unstable.new.self in
    let long : length new ≡ c.in_ok-sorted.sorted.len = c.sort_unstable.ensures.len ∙ c.as_mut_slice.ensures.len in
    take_at new (drop (length new) c.in_ok-sorted.sorted.items) c.in_ok-sorted.sorted.len long
    ∙ sorted_is c.args.numbers.now new (subst (λ ns. IsPermutation ns new) (c.as_mut_slice.ensures.value ∙ c.in_ok-sorted.ensures.items) c.sort_unstable.ensures.permutation) (IsNonDecreasingBy-from_sort (λ x. x) new c.sort_unstable.ensures.sorted)
