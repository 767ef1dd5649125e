use Rattle.std.proofs.Common.{cond, ap, arith}
use Rattle.std.proofs.lemmas.List.Sums.{sum_by-take-le}
use Rattle.picks.specs.declared.fronts.Front.{Front}
use Rattle.picks.proofs.Counts.{sum_between, sum_reach}
use Rattle.picks.proofs.fronts.Front.advanced.Goals as goal

pub size-bytes-requires : goal.size-bytes-requires
size-bytes-requires g c =
    let f = g.T.TableFile.bytes in
    let ts = c.args.marked.now.level.run.tables.now in
    omega (arith, sum_between f ts c.args.self.at c.args.to, sum_by-take-le f ts c.args.to, c.args.marked.now.level.small)

pub overflow_add-result : goal.overflow_add-result
overflow_add-result g c =
    let f = g.T.TableFile.bytes in
    let ts = c.args.marked.now.level.run.tables.now in
    let sum = sum_reach f ts c.args.self.at c.args.to c.args.self.sum c.size-bytes.result c.requires.behind.0 (ap (λ (x : Front). x.sum) c.requires.here) c.size-bytes.ensures in
    omega (arith, sum_by-take-le f ts c.args.to, c.args.marked.now.level.small)

pub returns : goal.returns
returns g c =
    let f = g.T.TableFile.bytes in
    let ts = c.args.marked.now.level.run.tables.now in
    let marks = c.args.marked.now.marks in
    let at = c.args.self.at in
    let to = c.args.to in
    let here = c.requires.here in
    let sum = sum_reach f ts at to c.args.self.sum c.size-bytes.result c.requires.behind.0 (ap (λ (x : Front). x.sum) here) c.size-bytes.ensures in
    let hidden = sum_reach (λ m. cond m 1 0) marks at to c.args.self.hidden c.count_hidden-count.result c.requires.behind.0 (ap (λ (x : Front). x.hidden) here) c.count_hidden-count.ensures in
    cc
