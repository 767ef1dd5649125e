use Rattle.std.proofs.Common.{◌&&◌, Some, filter, sym, ap, ◌∙◌, rules, tests}
use Rattle.std.specs.List.{list_any}
use Rattle.std.proofs.lemmas.Iterator.{YieldsList-from_slice}
use Rattle.std.proofs.lemmas.Iterator.Search.{any_from_yields_List}
use Rattle.runs.specs.Run.{span_of}
use Rattle.sheets.specs.Tables.{named}
use Rattle.strategies.specs.Strategy.{spans_meet}
use Rattle.slots.specs.declared.job.Job.{Job}
use Rattle.slots.specs.Sound.{level_in, same_level, span_in}
use Rattle.slots.specs.View.{slot, job_over}
use Rattle.slots.proofs.Admitting.{own_numbers, span_taken}
use Rattle.slots.proofs.sound.BookTest.is_span_taken.Goals as goal

pub returns : goal.returns
returns g c =
    let cmp = g.K.KeyKind.ranks in
    let ts = c.args.self.now.tables.now in
    let jobs = c.args.self.now.jobs.now in
    let j = job_over c.args.task c.args.numbers.now in
    let walked = any_from_yields_List (λ (job : Job). same_level c.dest_level-level.result (level_in (slot job)) && spans_meet cmp c.span_held-span.result (span_in cmp ts (slot job))) _ _ c.any.result c.any.ensures.ran (YieldsList-from_slice jobs cc) (λ x b q k. search (rules, tests)) in
    let span = c.span_held-span.ensures ∙ ap (λ ns. span_of cmp (λ t. t.range) (filter (named ns) ts)) (sym (own_numbers c.args.task c.args.numbers.now)) in
    walked
    ∙ ap (λ l. list_any (λ (job : Job). same_level l (level_in (slot job)) && spans_meet cmp c.span_held-span.result (span_in cmp ts (slot job))) jobs) (c.dest_level-level.ensures c.args.numbers.now)
    ∙ ap (λ s. list_any (λ (job : Job). same_level (level_in (Some j)) (level_in (slot job)) && spans_meet cmp s (span_in cmp ts (slot job))) jobs) span
    ∙ span_taken cmp ts j jobs
