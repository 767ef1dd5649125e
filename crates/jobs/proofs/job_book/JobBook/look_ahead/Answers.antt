use Rattle.std.proofs.Common.{◌≡◌, length, take, rules, ap, ◌∙◌, arith}
use Rattle.std.proofs.lemmas.Result.{err_from_is_err_and}
use Rattle.sheets.specs.HiddenSet.{hiding}
use Rattle.sheets.proofs.Hiding.{hiding_front}
use Rattle.books.proofs.Looking.{looks_within}
use Rattle.jobs.specs.View.{state, question}
use Rattle.jobs.proofs.Ahead.{look_refused, look_second}
use Rattle.jobs.proofs.Asked.{standing_ok, few, ahead_is, count_long, granted, refused}
use Rattle.jobs.proofs.job_book.JobBook.look_ahead.Goals as goal

pub returns-in_err-choice : goal.returns-in_err-choice
returns-in_err-choice g c =
    let laws = g.met.K.KeyKind.total in
    let book = c.args.self.now in
    let sheet = c.args.sheet.now in
    let st = state book sheet in
    let eight : length book.jobs ≡ 8 = search rules in
    let q = question g.S.CompactionStrategy.chooses c.args.settings.now book.blob_total c.args.clock in
    let law = g.met.S.CompactionStrategy.keeps c.args.settings.now book.blob_total c.args.clock in
    let e = c.in_err-choice.field-0.0 in
    let p = err_from_is_err_and c.from_residual.result c.from_residual.ensures.1 in
    rw (p.1, p.2) (look_refused g.K.KeyKind.ranks q st c.args.ids.now e (refused laws book sheet eight q law c.propose.new.ids c.propose.result c.propose.ensures e c.in_err-choice.was))

pub slice_bounds-hide-end : goal.slice_bounds-hide-end
slice_bounds-hide-end g c =
    let laws = g.met.K.KeyKind.total in
    let book = c.args.self.now in
    let sheet = c.args.sheet.now in
    let st = state book sheet in
    let eight : length book.jobs ≡ 8 = search rules in
    let q = question g.S.CompactionStrategy.chooses c.args.settings.now book.blob_total c.args.clock in
    let law = g.met.S.CompactionStrategy.keeps c.args.settings.now book.blob_total c.args.clock in
    let w = granted laws book sheet eight q law c.propose.new.ids c.propose.result c.propose.ensures c.in_ok-choice.choice c.in_ok-choice.was in
    rw c.count.ensures (count_long c.in_ok-choice.choice c.propose.new.ids (q st.tables st.hidden) w.2)

pub hide-ahead-requires : goal.hide-ahead-requires
hide-ahead-requires g c =
    let laws = g.met.K.KeyKind.total in
    let book = c.args.self.now in
    let sheet = c.args.sheet.now in
    let st = state book sheet in
    let eight : length book.jobs ≡ 8 = search rules in
    let q = question g.S.CompactionStrategy.chooses c.args.settings.now book.blob_total c.args.clock in
    let law = g.met.S.CompactionStrategy.keeps c.args.settings.now book.blob_total c.args.clock in
    let w = granted laws book sheet eight q law c.propose.new.ids c.propose.result c.propose.ensures c.in_ok-choice.choice c.in_ok-choice.was in
    let after = c.propose.new.ids in
    let hid = ap (λ n. hiding book.hidden (take n after)) c.count.ensures ∙ ahead_is c.in_ok-choice.choice after book.hidden (q st.tables st.hidden) w.2 in
    record { fits = omega (arith, ap length hid, looks_within g.K.KeyKind.ranks q st law w.1) }

pub invariant_of-snapshot : goal.invariant_of-snapshot
invariant_of-snapshot g c =
    let laws = g.met.K.KeyKind.total in
    let book = c.args.self.now in
    let sheet = c.args.sheet.now in
    let st = state book sheet in
    let eight : length book.jobs ≡ 8 = search rules in
    let q = question g.S.CompactionStrategy.chooses c.args.settings.now book.blob_total c.args.clock in
    let law = g.met.S.CompactionStrategy.keeps c.args.settings.now book.blob_total c.args.clock in
    let w = granted laws book sheet eight q law c.propose.new.ids c.propose.result c.propose.ensures c.in_ok-choice.choice c.in_ok-choice.was in
    record { sound = standing_ok g.K.KeyKind.ranks st w.0; few = few st w.1; blob = w.1.sheet.blob }

pub returns : goal.returns
returns g c =
    let laws = g.met.K.KeyKind.total in
    let book = c.args.self.now in
    let sheet = c.args.sheet.now in
    let st = state book sheet in
    let eight : length book.jobs ≡ 8 = search rules in
    let q = question g.S.CompactionStrategy.chooses c.args.settings.now book.blob_total c.args.clock in
    let law = g.met.S.CompactionStrategy.keeps c.args.settings.now book.blob_total c.args.clock in
    let w = granted laws book sheet eight q law c.propose.new.ids c.propose.result c.propose.ensures c.in_ok-choice.choice c.in_ok-choice.was in
    let choice = c.in_ok-choice.choice in
    let after = c.propose.new.ids in
    let hidden = c.hide-ahead.result.hidden_set.now in
    let hid = c.hide-ahead.ensures.hidden ∙ ap (λ n. hiding book.hidden (take n after)) c.count.ensures ∙ ahead_is choice after book.hidden (q st.tables st.hidden) w.2 in
    let shown =
    c.drop-ahead.ensures ∙ ap (λ n. take n hidden) c.hide-ahead.ensures.before ∙ ap (take (length book.hidden)) c.hide-ahead.ensures.hidden
    ∙ hiding_front book.hidden (take c.count.result after) in
    rw shown (look_second g.K.KeyKind.ranks q st c.args.ids.now choice after w.0 w.2 hidden hid c.ask.new.ids c.ask.ensures.ids c.ask.result c.ask.ensures.answer)
