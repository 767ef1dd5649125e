use Rattle.std.proofs.Common.{Ok, rules, sym, ap, ◌∙◌}
use Rattle.strategies.specs.declared.choice.Choice.TheVariants as C
use Rattle.strategies.specs.Answer.{returned, written}
use Rattle.strategies.specs.Fifo.{goes}
use Rattle.strategies.proofs.FifoSteps.{fifo_empty, fifo_many, fifo_hidden, fifo_none, fifo_drop, laid_none}
use Rattle.strategies.proofs.Tested.{tested_stacked, room_for_some}
use Rattle.strategies.proofs.fifo.FifoCompactionStrategy.choose.Goals as goal

pub level-requires : goal.level-requires
level-requires g c = tested_stacked g.met.K.KeyKind.total c.args.snapshot.now.tables.now c.args.snapshot.now.sound

pub run_count-requires : goal.run_count-requires
run_count-requires g c = tested_stacked g.met.K.KeyKind.total c.args.snapshot.now.tables.now c.args.snapshot.now.sound

pub name_those-named-requires-clause-room : goal.name_those-named-requires-clause-room
name_those-named-requires-clause-room g c =
    let s = c.args.settings.now in
    let p = goes s.ttl_seconds c.args.snapshot.now.clock s.limit c.left_over-left.result c.args.snapshot.now.tables.now in
    (p, λ t b h. search rules, room_for_some p c.args.snapshot.now.tables.now _ c.requires.room)

pub returns-then-is_empty : goal.returns-then-is_empty
returns-then-is_empty g c =
    let s = c.args.settings.now in
    let e = fifo_empty s.limit s.ttl_seconds c.args.snapshot.now.blob_total c.args.snapshot.now.clock c.args.snapshot.now.tables.now c.args.snapshot.now.hidden_set.now _ c.level.ensures.tables c.if-is_empty.ensures in
    record { answer = ap returned e; ids = ap (λ a. written a c.args.ids.now) e }

pub returns-then-run_count-gt-MOST_RUNS : goal.returns-then-run_count-gt-MOST_RUNS
returns-then-run_count-gt-MOST_RUNS g c =
    let s = c.args.settings.now in
    let e = fifo_many s.limit s.ttl_seconds c.args.snapshot.now.blob_total c.args.snapshot.now.clock c.args.snapshot.now.tables.now c.args.snapshot.now.hidden_set.now _ c.level.ensures.tables c.if-is_empty.ensures
    c.run_count.result c.run_count.ensures c.if-run_count-gt-MOST_RUNS.true in
    record { answer = ap returned e; ids = ap (λ a. written a c.args.ids.now) e }

pub returns-in-Some : goal.returns-in-Some
returns-in-Some g c =
    let s = c.args.settings.now in
    let e = fifo_hidden s.limit s.ttl_seconds c.args.snapshot.now.blob_total c.args.snapshot.now.clock c.args.snapshot.now.tables.now c.args.snapshot.now.hidden_set.now _ c.level.ensures.tables c.if-is_empty.ensures
    c.run_count.result c.run_count.ensures c.if-run_count-gt-MOST_RUNS.false c.in-Some.place c.in-Some.ensures in
    record { answer = ap returned e; ids = ap (λ a. written a c.args.ids.now) e }

pub returns-then-named-eq0 : goal.returns-then-named-eq0
returns-then-named-eq0 g c =
    let s = c.args.settings.now in
    let p = goes s.ttl_seconds c.args.snapshot.now.clock s.limit c.left_over-left.result c.args.snapshot.now.tables.now in
    let answer = c.name_those-named.ensures.answer p (λ t b h. search rules) in
    let none = sym (ap (λ n. n.count) answer) ∙ c.if-named-eq0.true in
    let e = fifo_none s.limit s.ttl_seconds c.args.snapshot.now.blob_total c.args.snapshot.now.clock c.args.snapshot.now.tables.now c.args.snapshot.now.hidden_set.now _ c.level.ensures.tables c.if-is_empty.ensures
    c.run_count.result c.run_count.ensures c.if-run_count-gt-MOST_RUNS.false c.in_default.ensures c.left_over-left.result c.left_over-left.ensures none in
    record { answer = ap returned e; ids = c.name_those-named.ensures.ids p (λ t b h. search rules) ∙ laid_none _ c.args.ids.now none ∙ ap (λ a. written a c.args.ids.now) e }

pub returns : goal.returns
returns g c =
    let s = c.args.settings.now in
    let p = goes s.ttl_seconds c.args.snapshot.now.clock s.limit c.left_over-left.result c.args.snapshot.now.tables.now in
    let answer = c.name_those-named.ensures.answer p (λ t b h. search rules) in
    let e = fifo_drop s.limit s.ttl_seconds c.args.snapshot.now.blob_total c.args.snapshot.now.clock c.args.snapshot.now.tables.now c.args.snapshot.now.hidden_set.now _ c.level.ensures.tables c.if-is_empty.ensures
    c.run_count.result c.run_count.ensures c.if-run_count-gt-MOST_RUNS.false c.in_default.ensures c.left_over-left.result c.left_over-left.ensures
    (λ z. c.if-named-eq0.false (ap (λ n. n.count) answer ∙ z)) in
    record { answer = ap (λ n. Ok (C.Drop n)) answer ∙ ap returned e; ids = c.name_those-named.ensures.ids p (λ t b h. search rules) ∙ ap (λ a. written a c.args.ids.now) e }
