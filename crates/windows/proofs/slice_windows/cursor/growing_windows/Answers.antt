use Rattle.std.proofs.Common.{length, sym, subst}
use Rattle.std.proofs.lemmas.Result.{IfOk-weaker}
use Rattle.windows.specs.SliceWindows.{Within, Shorter, EachOnce}
use Rattle.windows.specs.Cursor.{left}
use Rattle.windows.proofs.WindowLists.{growing_once}
use Rattle.windows.proofs.slice_windows.cursor.growing_windows.Goals as goal

pub returns-clause-all : goal.returns-clause-all
returns-clause-all g c =
    let n = length c.args.tables.now in
    IfOk-weaker _ _ (λ w. EachOnce (Within n) Shorter (left w)) (λ w e. subst (EachOnce (Within n) Shorter) (sym e) (growing_once n)) c.windows.ensures.all
