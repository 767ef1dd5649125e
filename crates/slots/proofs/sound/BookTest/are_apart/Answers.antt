use Rattle.std.proofs.Common.{ap, ◌∙◌, rules}
use Rattle.sheets.specs.Tables.{named}
use Rattle.slots.specs.Held.{unmet}
use Rattle.slots.proofs.Holding.{marked_by}
use Rattle.slots.proofs.sound.BookTest.are_apart.Goals as goal

pub returns : goal.returns
returns g c =
    let p = named c.args.numbers.now in
    c.marked_are_apart.ensures ∙ ap (unmet g.K.KeyKind.ranks) (marked_by p c.marks_of-marks.result c.args.self.now.tables.now (c.marks_of-marks.ensures.marks p (λ t b h. search rules)))
