use Rattle.std.proofs.Common.{◌≡◌, ◌≤◌, length, take, Some, Ok, Err, set, rules, refl, sym, ap, ◌∙◌, subst, arith}
use Rattle.std.proofs.lemmas.List.{length-map}
use Rattle.std.proofs.lemmas.Result.{err_from_is_err_and}
use Rattle.refusals.specs.declared.refusal.Refusal.TheVariants.{IdsTooShort, NamesNoTable}
use Rattle.sheets.specs.HiddenSet.{hiding}
use Rattle.strategies.specs.Question.{count_in}
use Rattle.books.specs.Job.{job_number}
use Rattle.slots.specs.Admitted.{admitted}
use Rattle.slots.specs.View.{job_over, slot}
use Rattle.slots.proofs.Admitting.{own_numbers, admitted_few, admitted_within}
use Rattle.jobs.specs.View.{state, question}
use Rattle.jobs.proofs.Asked.{few, count_long, granted, refused}
use Rattle.jobs.proofs.Booked.{Does, admits, book_refused, book_short, book_untasked, book_barred, book_granted, started_state, front_laid, booking_is}
use Rattle.jobs.proofs.Options.{or_none, at_none, or_some, at_some}
use Rattle.jobs.proofs.job_book.JobBook.book.Goals as goal

pub returns-in_err-choice : goal.returns-in_err-choice
returns-in_err-choice g c =
    let laws = g.met.K.KeyKind.total in
    let book = c.args.self.now in
    let sheet = c.args.sheet.now in
    let st = state book sheet in
    let eight : length book.jobs ≡ 8 = search rules in
    let q = question g.S.CompactionStrategy.chooses c.args.settings.now book.blob_total c.args.clock in
    let law = g.met.S.CompactionStrategy.keeps c.args.settings.now book.blob_total c.args.clock in
    let e = c.in_err-choice.field-0.0 in
    let p = err_from_is_err_and c.from_residual.result c.from_residual.ensures.1 in
    rw (p.1, p.2) (book_refused g.K.KeyKind.ranks q st c.args.ids.now e (refused laws book sheet eight q law c.propose.new.ids c.propose.result c.propose.ensures e c.in_err-choice.was))

pub slice_bounds-numbers-end : goal.slice_bounds-numbers-end
slice_bounds-numbers-end g c =
    let laws = g.met.K.KeyKind.total in
    let book = c.args.self.now in
    let sheet = c.args.sheet.now in
    let st = state book sheet in
    let eight : length book.jobs ≡ 8 = search rules in
    let q = question g.S.CompactionStrategy.chooses c.args.settings.now book.blob_total c.args.clock in
    let law = g.met.S.CompactionStrategy.keeps c.args.settings.now book.blob_total c.args.clock in
    let w = granted laws book sheet eight q law c.propose.new.ids c.propose.result c.propose.ensures c.in_ok-choice.choice c.in_ok-choice.was in
    rw c.count.ensures (count_long c.in_ok-choice.choice c.propose.new.ids (q st.tables st.hidden) w.2)

pub returns-in_err-ids : goal.returns-in_err-ids
returns-in_err-ids g c =
    let laws = g.met.K.KeyKind.total in
    let book = c.args.self.now in
    let sheet = c.args.sheet.now in
    let st = state book sheet in
    let eight : length book.jobs ≡ 8 = search rules in
    let q = question g.S.CompactionStrategy.chooses c.args.settings.now book.blob_total c.args.clock in
    let law = g.met.S.CompactionStrategy.keeps c.args.settings.now book.blob_total c.args.clock in
    let w = granted laws book sheet eight q law c.propose.new.ids c.propose.result c.propose.ensures c.in_ok-choice.choice c.in_ok-choice.was in
    let choice = c.in_ok-choice.choice in
    let after = c.propose.new.ids in
    let p = err_from_is_err_and c.from_residual-in_err-ids.result c.from_residual-in_err-ids.ensures.1 in
    let n = or_none c.split_at_mut_checked.result c.in_err-ids.field-0.0 IdsTooShort c.in_err-ids.ensures.value in
    let short = at_none _ _ c.split_at_mut_checked.result n.0 c.split_at_mut_checked.ensures.cases in
    let long = ap (λ m. length (take m after)) c.count.ensures ∙ sym (count_long choice after (q st.tables st.hidden) w.2) in
    rw (p.1, p.2, n.1) (book_short g.K.KeyKind.ranks q st c.args.ids.now w.0 choice after w.2 (omega (arith, short, long)))

pub returns-in_err-task : goal.returns-in_err-task
returns-in_err-task g c =
    let laws = g.met.K.KeyKind.total in
    let book = c.args.self.now in
    let sheet = c.args.sheet.now in
    let st = state book sheet in
    let eight : length book.jobs ≡ 8 = search rules in
    let q = question g.S.CompactionStrategy.chooses c.args.settings.now book.blob_total c.args.clock in
    let law = g.met.S.CompactionStrategy.keeps c.args.settings.now book.blob_total c.args.clock in
    let w = granted laws book sheet eight q law c.propose.new.ids c.propose.result c.propose.ensures c.in_ok-choice.choice c.in_ok-choice.was in
    let choice = c.in_ok-choice.choice in
    let p = err_from_is_err_and c.from_residual-in_err-task.result c.from_residual-in_err-task.ensures.1 in
    let n = or_none c.task_of.result c.in_err-task.field-0.0 NamesNoTable c.in_err-task.ensures.value in
    let whole = at_some _ _ c.split_at_mut_checked.result (c.in_ok-ids.front, c.in_ok-ids.field-0-1) (or_some _ _ IdsTooShort c.in_ok-ids.ensures.value) c.split_at_mut_checked.ensures.cases in
    rw (p.1, p.2, n.1, ← whole.0) (book_untasked g.K.KeyKind.ranks q st c.args.ids.now w.0 choice c.propose.new.ids w.2 (subst (Does choice) n.0 c.task_of.ensures.job))

pub slice_bounds-test-end : goal.slice_bounds-test-end
slice_bounds-test-end g c =
    let laws = g.met.K.KeyKind.total in
    let book = c.args.self.now in
    let sheet = c.args.sheet.now in
    let st = state book sheet in
    let eight : length book.jobs ≡ 8 = search rules in
    let q = question g.S.CompactionStrategy.chooses c.args.settings.now book.blob_total c.args.clock in
    let law = g.met.S.CompactionStrategy.keeps c.args.settings.now book.blob_total c.args.clock in
    let w = granted laws book sheet eight q law c.propose.new.ids c.propose.result c.propose.ensures c.in_ok-choice.choice c.in_ok-choice.was in
    w.1.whole

pub invariant_of-test-clause-few : goal.invariant_of-test-clause-few
invariant_of-test-clause-few g c =
    let laws = g.met.K.KeyKind.total in
    let book = c.args.self.now in
    let sheet = c.args.sheet.now in
    let st = state book sheet in
    let eight : length book.jobs ≡ 8 = search rules in
    let q = question g.S.CompactionStrategy.chooses c.args.settings.now book.blob_total c.args.clock in
    let law = g.met.S.CompactionStrategy.keeps c.args.settings.now book.blob_total c.args.clock in
    let w = granted laws book sheet eight q law c.propose.new.ids c.propose.result c.propose.ensures c.in_ok-choice.choice c.in_ok-choice.was in
    few st w.1

pub returns-in_err-place : goal.returns-in_err-place
returns-in_err-place g c =
    let laws = g.met.K.KeyKind.total in
    let book = c.args.self.now in
    let sheet = c.args.sheet.now in
    let st = state book sheet in
    let eight : length book.jobs ≡ 8 = search rules in
    let q = question g.S.CompactionStrategy.chooses c.args.settings.now book.blob_total c.args.clock in
    let law = g.met.S.CompactionStrategy.keeps c.args.settings.now book.blob_total c.args.clock in
    let w = granted laws book sheet eight q law c.propose.new.ids c.propose.result c.propose.ensures c.in_ok-choice.choice c.in_ok-choice.was in
    let cmp = g.K.KeyKind.ranks in
    let choice = c.in_ok-choice.choice in
    let after = c.propose.new.ids in
    let task = c.in_ok-task.task in
    let p = err_from_is_err_and c.from_residual-in_err-place.result c.from_residual-in_err-place.ensures.1 in
    let whole = at_some _ _ c.split_at_mut_checked.result (c.in_ok-ids.front, c.in_ok-ids.field-0-1) (or_some _ _ IdsTooShort c.in_ok-ids.ensures.value) c.split_at_mut_checked.ensures.cases in
    let does = subst (Does choice) (or_some c.task_of.result task NamesNoTable c.in_ok-task.ensures.value) c.task_of.ensures.job in
    let long : count_in choice ≤ length c.args.ids.now = omega (arith, whole.4, ap (λ n. length (take n after)) c.count.ensures, count_long choice after (q st.tables st.hidden) w.2) in
    let e : Err c.in_err-place.field-0.0 ≡ admits cmp st choice after task = c.in_err-place.ensures ∙ ap (λ n. admitted cmp st.tables st.hidden st.slots (job_over task (take n after))) c.count.ensures in
    rw (p.1, p.2, ← whole.0) (book_barred cmp q st c.args.ids.now w.0 choice after w.2 task does long c.in_err-place.field-0.0 e)

pub start-requires-clause-within : goal.start-requires-clause-within
start-requires-clause-within g c =
    let st = state c.args.self.now c.args.sheet.now in
    let eight : length c.args.self.now.jobs ≡ 8 = search rules in
    admitted_within g.K.KeyKind.ranks st.tables st.hidden st.slots (job_over c.in_ok-task.task (take c.count.result c.propose.new.ids)) c.in_ok-place.place c.in_ok-place.ensures (length-map c.args.self.now.jobs slot ∙ eight)

pub start-requires-clause-few : goal.start-requires-clause-few
start-requires-clause-few g c =
    let st = state c.args.self.now c.args.sheet.now in
    let ns = take c.count.result c.propose.new.ids in
    let fits = admitted_few g.K.KeyKind.ranks st.tables st.hidden st.slots (job_over c.in_ok-task.task ns) c.in_ok-place.place c.in_ok-place.ensures in
    omega (arith, fits, ap length (own_numbers c.in_ok-task.task ns))

pub returns : goal.returns
returns g c =
    let laws = g.met.K.KeyKind.total in
    let book = c.args.self.now in
    let sheet = c.args.sheet.now in
    let st = state book sheet in
    let eight : length book.jobs ≡ 8 = search rules in
    let q = question g.S.CompactionStrategy.chooses c.args.settings.now book.blob_total c.args.clock in
    let law = g.met.S.CompactionStrategy.keeps c.args.settings.now book.blob_total c.args.clock in
    let w = granted laws book sheet eight q law c.propose.new.ids c.propose.result c.propose.ensures c.in_ok-choice.choice c.in_ok-choice.was in
    let cmp = g.K.KeyKind.ranks in
    let choice = c.in_ok-choice.choice in
    let after = c.propose.new.ids in
    let task = c.in_ok-task.task in
    let place = c.in_ok-place.place in
    let whole = at_some _ _ c.split_at_mut_checked.result (c.in_ok-ids.front, c.in_ok-ids.field-0-1) (or_some _ _ IdsTooShort c.in_ok-ids.ensures.value) c.split_at_mut_checked.ensures.cases in
    let does = subst (Does choice) (or_some c.task_of.result task NamesNoTable c.in_ok-task.ensures.value) c.task_of.ensures.job in
    let long : count_in choice ≤ length c.args.ids.now = omega (arith, whole.4, ap (λ n. length (take n after)) c.count.ensures, count_long choice after (q st.tables st.hidden) w.2) in
    let e : Ok place ≡ admits cmp st choice after task = c.in_ok-place.ensures ∙ ap (λ n. admitted cmp st.tables st.hidden st.slots (job_over task (take n after))) c.count.ensures in
    let named = ap (λ n. take n after) c.count.ensures in
    let new = started_state book c.start.new.self sheet _ _ c.start.ensures.kept (c.start.ensures.hidden ∙ ap (hiding book.hidden) named) (c.start.ensures.slots ∙ ap (λ ns. set st.slots place (Some (job_over task ns))) named) in
    let written = front_laid c.copy_from_slice.new.self c.in_ok-ids.field-0-1.now (take (count_in choice) after) c.args.ids.now _ (c.copy_from_slice.ensures.after ∙ named) whole.3 (ap length named) in
    booking_is new written refl (c.start.ensures.ticket ∙ ap job_number named) ∙ book_granted cmp q st c.args.ids.now w.0 choice after w.2 task does long place e
