use Rattle.std.proofs.Common.{rules, refl, sym, subst, Ok}
use Rattle.texts.specs.Reading.{Reads}
use Rattle.scripts.specs.declared.command.Command.TheVariants.{Table, Land, Propose, LookAhead, Book, Output}
use Rattle.scripts.specs.Command.{SaysCall, SaysTable, SaysFresh, SaysQuestion}
use Rattle.scripts.proofs.Readers.{mapped}
use Rattle.scripts.proofs.command.Command.read.Goals as goal

pub returns-in_ok-read_places-in-Sheet-clause-says : goal.returns-in_ok-read_places-in-Sheet-clause-says
returns-in_ok-read_places-in-Sheet-clause-says g c = rw c.in-Sheet.is (Ok c.in_ok-read_places-in-Sheet.field-0, c.in_ok-read_places-in-Sheet.ensures.says, refl)

pub returns-in_ok-read_places-in-Ids-clause-says : goal.returns-in_ok-read_places-in-Ids-clause-says
returns-in_ok-read_places-in-Ids-clause-says g c = rw c.in-Ids.is (Ok c.in_ok-read_places-in-Ids.field-0, c.in_ok-read_places-in-Ids.ensures.says, refl)

pub returns-in_ok-last_number-in-Open-clause-says : goal.returns-in_ok-last_number-in-Open-clause-says
returns-in_ok-last_number-in-Open-clause-says g c = rw c.in-Open.is (Ok c.in_ok-last_number-in-Open.field-0, c.in_ok-last_number-in-Open.ensures.says, refl)

pub returns-in_ok-last_number-in-Close-clause-says : goal.returns-in_ok-last_number-in-Close-clause-says
returns-in_ok-last_number-in-Close-clause-says g c = rw c.in-Close.is (Ok c.in_ok-last_number-in-Close.field-0, c.in_ok-last_number-in-Close.ensures.says, refl)

pub returns-in_ok-last_number-in-GiveUp-clause-says : goal.returns-in_ok-last_number-in-GiveUp-clause-says
returns-in_ok-last_number-in-GiveUp-clause-says g c = rw c.in-GiveUp.is (Ok c.in_ok-last_number-in-GiveUp.field-0, c.in_ok-last_number-in-GiveUp.ensures.says, refl)

pub returns-in-Table-clause-says : goal.returns-in-Table-clause-says
returns-in-Table-clause-says g c =
    subst (λ word. Reads (SaysCall g.K.KeyText.says word c.args.words.now) c.map.result) (sym c.in-Table.is)
    (mapped Table (SaysTable g.K.KeyText.says c.args.words.now) _ _ c.map.ensures.cases (λ s t h. search rules) c.read_table.ensures.says)

pub returns-in-Land-clause-says : goal.returns-in-Land-clause-says
returns-in-Land-clause-says g c =
    subst (λ word. Reads (SaysCall g.K.KeyText.says word c.args.words.now) c.map-in-Land.result) (sym c.in-Land.is)
    (mapped Land (SaysFresh g.K.KeyText.says c.args.words.now) _ _ c.map-in-Land.ensures.cases (λ s t h. search rules) c.read_fresh.ensures.says)

pub returns-in-Propose-clause-says : goal.returns-in-Propose-clause-says
returns-in-Propose-clause-says g c =
    subst (λ word. Reads (SaysCall g.K.KeyText.says word c.args.words.now) c.map-in-Propose.result) (sym c.in-Propose.is)
    (mapped Propose (SaysQuestion g.K.KeyText.says c.args.words.now) _ _ c.map-in-Propose.ensures.cases (λ s t h. search rules) c.read_question.ensures.says)

pub returns-in-LookAhead-clause-says : goal.returns-in-LookAhead-clause-says
returns-in-LookAhead-clause-says g c =
    subst (λ word. Reads (SaysCall g.K.KeyText.says word c.args.words.now) c.map-in-LookAhead.result) (sym c.in-LookAhead.is)
    (mapped LookAhead (SaysQuestion g.K.KeyText.says c.args.words.now) _ _ c.map-in-LookAhead.ensures.cases (λ s t h. search rules) c.read_question-in-LookAhead.ensures.says)

pub returns-in-Book-clause-says : goal.returns-in-Book-clause-says
returns-in-Book-clause-says g c =
    subst (λ word. Reads (SaysCall g.K.KeyText.says word c.args.words.now) c.map-in-Book.result) (sym c.in-Book.is)
    (mapped Book (SaysQuestion g.K.KeyText.says c.args.words.now) _ _ c.map-in-Book.ensures.cases (λ s t h. search rules) c.read_question-in-Book.ensures.says)

pub returns-in-Output-clause-says : goal.returns-in-Output-clause-says
returns-in-Output-clause-says g c =
    subst (λ word. Reads (SaysCall g.K.KeyText.says word c.args.words.now) c.map-in-Output.result) (sym c.in-Output.is)
    (mapped Output (SaysFresh g.K.KeyText.says c.args.words.now) _ _ c.map-in-Output.ensures.cases (λ s t h. search rules) c.read_fresh-in-Output.ensures.says)
