use Rattle.std.proofs.Common.{map, sym, ◌∙◌}
use Rattle.slots.specs.View.{job_over, slot}
use Rattle.slots.proofs.Admitting.{own_numbers, one_hidden, one_crosses, is_admitted}
use Rattle.slots.proofs.sound.BookTest.admit.Goals as goal

pub returns-in-Some : goal.returns-in-Some
returns-in-Some g c =
    let test = c.args.self.now in
    let ns = c.args.numbers.now in
    one_hidden g.K.KeyKind.ranks test.tables.now test.hidden_set.now (map slot test.jobs.now) (job_over c.args.task ns) ns (own_numbers c.args.task ns) (sym c.if-is_empty.ensures) c.in-Some.place c.in-Some.ensures

pub returns-then-is_span_taken : goal.returns-then-is_span_taken
returns-then-is_span_taken g c =
    let test = c.args.self.now in
    let ns = c.args.numbers.now in
    one_crosses g.K.KeyKind.ranks test.tables.now test.hidden_set.now (map slot test.jobs.now) (job_over c.args.task ns) ns (own_numbers c.args.task ns) (sym c.if-is_empty.ensures) c.in_default.ensures c.if-is_span_taken.ensures

pub returns : goal.returns
returns g c =
    let test = c.args.self.now in
    let ns = c.args.numbers.now in
    c.ok_or.ensures.value
    ∙ is_admitted g.K.KeyKind.ranks test.tables.now test.hidden_set.now (map slot test.jobs.now) (job_over c.args.task ns) ns (own_numbers c.args.task ns) (sym c.if-is_empty.ensures) c.in_default.ensures c.if-is_span_taken.ensures c.free_place.result c.free_place.ensures
