use Rattle.std.proofs.Common.{◌≡◌, ◌+◌, true, false, cond, not, take, unwrap_or, refl, sym, ap, ◌∙◌, arith, rules}
use Rattle.std.proofs.lemmas.List.{length-take-le}
use Rattle.std.proofs.lemmas.Iterator.{YieldsList-from_slice, IsFirst-from_position, index_from_first}
use borrow.Author.Tests.{tests}
use Rattle.sheets.specs.Tables.{sooner, place}
use Rattle.edits.proofs.order.place_of.Goals as goal

pub returns : goal.returns
returns g c =
    let before = place g.K.KeyKind.ranks c.args.table.now in
    let p = sooner g.K.KeyKind.ranks c.args.table.now in
    let us = take c.args.count c.args.sheet.now in
    let first = IsFirst-from_position _ _ c.position.result (λ u. p u ≡ true) (λ u. p u ≡ false) c.position.ensures.ran (YieldsList-from_slice us (cc)) (λ x q k. search (rules, tests)) (λ x q k. search (rules, tests)) in
    c.unwrap_or.ensures
    ∙ ap (unwrap_or c.position.result) (sym (length-take-le c.args.count c.args.sheet.now (omega arith)))
    ∙ sym (index_from_first before (λ u. p u ≡ true) (λ u. p u ≡ false) refl (λ u us e. ap (λ b. cond (not b) (1 + before us) 0) e) (λ u us e. ap (λ b. cond (not b) (1 + before us) 0) e ∙ omega arith) us c.position.result first)
