use Rattle.std.proofs.Common.{ap, ◌∙◌, rules, tests}
use Rattle.std.specs.List.{list_all}
use Rattle.std.proofs.lemmas.Iterator.{YieldsList-from_slice}
use Rattle.std.proofs.lemmas.Iterator.Search.{all_from_yields_List}
use Rattle.slots.specs.declared.job.Job.{Job}
use Rattle.slots.specs.Sound.{apart_by}
use Rattle.slots.specs.View.{slot}
use Rattle.slots.proofs.Apart.{apart_slots}
use Rattle.sheets.proofs.Each.{all_same}
use Rattle.slots.proofs.sound.BookTest.is_apart.Goals as goal

pub returns : goal.returns
returns g c =
    let cmp = g.K.KeyKind.ranks in
    let ts = c.args.self.now.tables.now in
    let a = slot c.args.job.now in
    let others = c.args.others.now in
    let walked = all_from_yields_List (λ (other : Job). apart_by cmp ts c.job_span-span.result a (slot other)) _ _ c.all.result c.all.ensures.ran (YieldsList-from_slice others cc) (λ x b q k. search (rules, tests)) in
    walked ∙ ap (λ s. list_all (λ (other : Job). apart_by cmp ts s a (slot other)) others) c.job_span-span.ensures ∙ all_same _ _ (λ other. apart_slots cmp ts a (slot other)) others
