use Rattle.std.proofs.Common.{rules}
use Rattle.sheets.specs.Tables.{unnamed}
use Rattle.edits.proofs.records.remove_all.Goals as goal

pub returns : goal.returns
returns g c =
    let p = unnamed c.args.numbers.now in
    record { count = c.keep_those.ensures.count p (λ t b h. search rules); sheet = c.keep_those.ensures.items p (λ t b h. search rules) }
