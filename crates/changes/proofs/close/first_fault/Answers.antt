use Rattle.std.proofs.Common.{◌∙◌, rules, tests}
use Rattle.std.specs.List.{enumerate_from}
use Rattle.std.proofs.lemmas.Iterator.{YieldsList-from_slice}
use Rattle.std.proofs.lemmas.Iterator.Adapters.{position_from-zero}
use Rattle.std.proofs.lemmas.Iterator.Consumers.{YieldsList-from_enumerate}
use Rattle.std.proofs.lemmas.Iterator.Search.{position_from_yields_List}
use Rattle.changes.proofs.Faults.{faulty, faulty_is}
use Rattle.changes.proofs.close.first_fault.Goals as goal

pub returns : goal.returns
returns g c p h =
    let outs = c.args.outputs.now in
    let test = faulty p outs in
    position_from_yields_List test _ _ c.position.result c.position.ensures.ran (YieldsList-from_enumerate (YieldsList-from_slice outs cc) cc) (λ x b q k. search (rules, tests, h))
    ∙ position_from-zero test (enumerate_from 0 outs)
    ∙ faulty_is p outs
