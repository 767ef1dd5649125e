use Rattle.std.proofs.Common.{◌&&◌, ap, ◌∙◌}
use Rattle.slots.proofs.Running.{lawful, by_slots}
use Rattle.slots.proofs.sound.BookTest.is_passed.Goals as goal

pub returns-then-are_owned : goal.returns-then-are_owned
returns-then-are_owned g c =
    let cmp = g.K.KeyKind.ranks in
    let test = c.args.self.now in
    let hs = test.hidden_set.now in
    c.are_lawful.ensures ∙ ap (λ b. b && lawful cmp test.tables.now hs test.jobs.now) c.if-are_owned.ensures ∙ by_slots cmp test.tables.now hs test.jobs.now test.eight

pub returns-else-are_owned : goal.returns-else-are_owned
returns-else-are_owned g c =
    let cmp = g.K.KeyKind.ranks in
    let test = c.args.self.now in
    let hs = test.hidden_set.now in
    c.if-are_owned.false ∙ ap (λ b. b && lawful cmp test.tables.now hs test.jobs.now) c.if-are_owned.ensures ∙ by_slots cmp test.tables.now hs test.jobs.now test.eight
