use Rattle.std.proofs.Common.{not, eqb, refl, sym, ◌∙◌, rules}
use Rattle.std.proofs.lemmas.Fn.{always_returns_same}
use Rattle.sheets.proofs.Distinct.{differ_next, risen}
use Rattle.runs.proofs.Neighbours.{neighbours_are}
use Rattle.sheets.proofs.sound.neighbours_differ.Goals as goal

pub returns : goal.returns
returns c =
    let ns = c.args.sorted.now in
    neighbours_are (λ m n. not (eqb m n)) differ_next refl (λ n. refl) (λ m n ns. refl) ns c.is_sorted_by.result
    (c.is_sorted_by.ensures.cases (λ m n. not (eqb m n)) (always_returns_same _ _ _ (λ a r f' k. search rules)))
    ∙ sym (risen ns c.requires)
