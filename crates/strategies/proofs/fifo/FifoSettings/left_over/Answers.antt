use Rattle.std.proofs.Common.{◌+◌, ◌-◌, sum_by, filter, ap, ◌∙◌, arith, rules, tests}
use Rattle.std.proofs.lemmas.Iterator.{YieldsList-from_slice}
use Rattle.std.proofs.lemmas.Iterator.Consumers.{YieldsList-from_filter, fold_from_yields_List}
use Rattle.runs.specs.declared.table.Table.{Table}
use Rattle.sheets.specs.Level.{size_of}
use Rattle.sheets.proofs.Levels.{level_less}
use Rattle.strategies.specs.Fifo.{weight, expired_first}
use Rattle.strategies.proofs.Taking.{taken_from}
use Rattle.strategies.proofs.Tested.{tested_stacked, tested_light}
use Rattle.strategies.proofs.fifo.FifoSettings.left_over.Goals as goal

pub level-requires : goal.level-requires
level-requires g c = tested_stacked g.met.K.KeyKind.total c.args.snapshot.now.tables.now c.args.snapshot.now.sound

pub size-requires : goal.size-requires
size-requires g c = omega (arith, ap size_of c.level.ensures.tables, level_less 0 c.args.snapshot.now.tables.now, tested_light g.met.K.KeyKind.total c.args.snapshot.now.tables.now c.args.snapshot.now.sound)

pub overflow_add-whole : goal.overflow_add-whole
overflow_add-whole g c = omega (arith, c.size.ensures, ap size_of c.level.ensures.tables, level_less 0 c.args.snapshot.now.tables.now, tested_light g.met.K.KeyKind.total c.args.snapshot.now.tables.now c.args.snapshot.now.sound, c.args.snapshot.now.blob)

pub returns : goal.returns
returns g c =
    let ts = c.args.snapshot.now.tables.now in
    let p = expired_first {K = g.row.K.Denot} c.args.self.now.ttl_seconds c.args.snapshot.now.clock in
    fold_from_yields_List _ (λ left (t : Table g.row.K.Denot). (left - t.size) - t.linked) _ c.fold.result c.fold.ensures.ran
    (YieldsList-from_filter _ p (YieldsList-from_slice ts cc) c.filter.ensures.closure (λ x b q k. search (rules, tests))) (λ a x b q k. search rules)
    ∙ taken_from _ (filter p ts) ∙ ap (λ n. (n + c.args.snapshot.now.blob_total) - sum_by weight (filter p ts)) (c.size.ensures ∙ ap size_of c.level.ensures.tables)
