use Rattle.std.proofs.Common.{sym, ap, ◌∙◌}
use Rattle.strategies.specs.Answer.{returned, written}
use Rattle.standard.specs.Standard.{standard}
use Rattle.standard.proofs.standard.StandardCompactionStrategy.choose.Goals as goal

pub returns-in-Leveled : goal.returns-in-Leveled
returns-in-Leveled g c =
    let e = sym (ap (λ s. standard g.K.KeyKind.ranks s c.args.snapshot.now.tables.now c.args.snapshot.now.hidden_set.now c.args.snapshot.now.blob_total c.args.snapshot.now.clock) c.in-Leveled.is) in
    record { answer = c.choose.ensures.answer ∙ ap returned e; ids = c.choose.ensures.ids ∙ ap (λ a. written a c.args.ids.now) e }

pub returns-in-Fifo : goal.returns-in-Fifo
returns-in-Fifo g c =
    let e = sym (ap (λ s. standard g.K.KeyKind.ranks s c.args.snapshot.now.tables.now c.args.snapshot.now.hidden_set.now c.args.snapshot.now.blob_total c.args.snapshot.now.clock) c.in-Fifo.is) in
    record { answer = c.choose-in-Fifo.ensures.answer ∙ ap returned e; ids = c.choose-in-Fifo.ensures.ids ∙ ap (λ a. written a c.args.ids.now) e }
