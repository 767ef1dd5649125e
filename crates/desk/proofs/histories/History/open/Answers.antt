use Rattle.std.proofs.Common.{Ok, Err, refl, ◌∙◌}
use Rattle.std.proofs.lemmas.Result.{IfOk-weaker}
use Rattle.reports.specs.Report.{refused_line, opened_line}
use Rattle.desk.proofs.Opening.{opened_as, opens_none, opens_one}
use Rattle.desk.proofs.histories.History.open.Goals as goal

pub returns-in-Err-clause-opens : goal.returns-in-Err-clause-opens
returns-in-Err-clause-opens g c =
    let h = c.args.self.now in
    let n = c.len-standing.ensures ∙ h.sheet.ok.0 in
    let came = opened_as g.K.KeyKind.ranks c.args.blob_total h.places c.len-standing.result h.sheet.items c.in_ok-sheet.sheet.items _ (Err c.in-Err.refusal) c.in_ok-sheet.ensures c.as_slice.ensures.value n c.in-Err.ensures.opens in
    IfOk-weaker c.write_refusal.result _ _ (λ _ e. (refused_line c.in-Err.refusal, e, opens_none g.K.KeyKind.ranks c.args.blob_total h c.in-Err.refusal came)) c.write_refusal.ensures.line

pub returns-in-Ok-clause-opens : goal.returns-in-Ok-clause-opens
returns-in-Ok-clause-opens g c =
    let h = c.args.self.now in
    let n = c.len-standing.ensures ∙ h.sheet.ok.0 in
    let came = opened_as g.K.KeyKind.ranks c.args.blob_total h.places c.len-standing.result h.sheet.items c.in_ok-sheet.sheet.items _ (Ok c.in-Ok.book) c.in_ok-sheet.ensures c.as_slice.ensures.value n c.in-Ok.ensures.opens in
    IfOk-weaker c.write_opened.result _ _
    (λ _ e. (opened_line c.len-standing.result, e, opens_one g.K.KeyKind.ranks c.args.blob_total h _ _ c.len-standing.result came (record { opened = refl; table_places = refl; ids = refl; given = refl }) n))
    c.write_opened.ensures.line
