use Rattle.std.proofs.Common.{length, sym, subst}
use Rattle.std.proofs.lemmas.Result.{IfOk-weaker}
use Rattle.windows.specs.SliceWindows.{Within, Longer, EachOnce}
use Rattle.windows.specs.Cursor.{left}
use Rattle.windows.proofs.WindowLists.{shrinking_once}
use Rattle.windows.proofs.slice_windows.cursor.shrinking_windows.Goals as goal

pub returns-clause-all : goal.returns-clause-all
returns-clause-all g c =
    let n = length c.args.tables.now in
    IfOk-weaker _ _ (λ w. EachOnce (Within n) Longer (left w)) (λ w e. subst (EachOnce (Within n) Longer) (sym e) (shrinking_once n)) c.windows.ensures.all
