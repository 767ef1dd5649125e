use Rattle.std.proofs.Common.{ap, arith}
use Rattle.windows.proofs.WindowSums.{sum_grown, sum_moved}
use Rattle.windows.proofs.slice_windows.Place.further.Goals as goal

pub overflow_add-grown : goal.overflow_add-grown
overflow_add-grown g c =
    let up = sum_grown g.T.TableFile.bytes c.args.self.now.tables.now c.args.self.now.at.window.start c.args.self.now.at.window.len c.args.self.now.at.bytes c.index-self-start.result
    c.requires.within c.index-self-start.is c.args.self.now.right.window in
    omega (arith, up, c.file_size.ensures, ap g.T.TableFile.bytes c.index-self-start.is)

pub overflow_sub-result : goal.overflow_sub-result
overflow_sub-result g c =
    let moved = sum_moved g.T.TableFile.bytes c.args.self.now.tables.now c.args.self.now.at.window.start c.args.self.now.at.window.len c.args.self.now.at.bytes c.index-self-start.result c.index-self-start-2.result
    c.requires.within c.index-self-start.is c.index-self-start-2.is c.args.self.now.right.window in
    omega (arith, moved, c.file_size.ensures, c.file_size-2.ensures, ap g.T.TableFile.bytes c.index-self-start.is, ap g.T.TableFile.bytes c.index-self-start-2.is)

pub returns-clause-sums : goal.returns-clause-sums
returns-clause-sums g c =
    let moved = sum_moved g.T.TableFile.bytes c.args.self.now.tables.now c.args.self.now.at.window.start c.args.self.now.at.window.len c.args.self.now.at.bytes c.index-self-start.result c.index-self-start-2.result
    c.requires.within c.index-self-start.is c.index-self-start-2.is c.args.self.now.right.window in
    record { window = omega (arith, moved, c.file_size.ensures, c.file_size-2.ensures, ap g.T.TableFile.bytes c.index-self-start.is, ap g.T.TableFile.bytes c.index-self-start-2.is); front = c.args.self.now.right.front }
