use Rattle.std.proofs.Common.{subst, ap, ◌∙◌, rules}
use Rattle.std.specs.Iterator.Runs.{ItemsMapTo}
use Rattle.runs.proofs.Totals.{tried}
use Rattle.runs.proofs.sizes.total_size.Goals as goal

pub returns : goal.returns
returns g c =
    let ts = c.args.tables.now in
    let run = c.try_fold.ensures.runs in
    let yields = subst (λ us. ItemsMapTo run.0 (λ y. y.now) us) (ap (λ s. s.rest.now) run.1 ∙ c.iter.ensures.rest) (c.iter.ensures.runs run.0 run.0.seen) in
    tried _ g.T.TableFile.bytes c.args.most ts run.0 _ _ (λ b x v f' k. (search rules, search rules)) yields c.try_fold.result run.2
