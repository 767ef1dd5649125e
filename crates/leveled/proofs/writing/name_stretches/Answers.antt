use Rattle.std.proofs.Common.{length, sym, ap, ◌∙◌}
use Rattle.std.proofs.lemmas.List.{length-map, map-append}
use Rattle.sheets.specs.Edits.{laid}
use Rattle.sheets.specs.Level.{numbers_of}
use Rattle.leveled.proofs.Written.{laid_behind}
use Rattle.leveled.proofs.writing.name_stretches.Goals as goal

pub returns-clause-ids : goal.returns-clause-ids
returns-clause-ids g c =
    let ts = c.args.first.now in
    let us = c.args.second.now in
    let ids = c.args.ids.now in
    laid_behind (numbers_of ts) (numbers_of us) ids c.list_ids.new.ids c.list_ids-2.new.ids (length ts) (sym (length-map ts (λ t. t.number))) c.list_ids.ensures c.list_ids-2.ensures
    ∙ ap (λ l. laid l ids) (sym (map-append (λ t. t.number) ts us))
