use Rattle.std.proofs.Common.{rules, [], sym, refl, append-nil}
use Rattle.std.proofs.lemmas.Result.{IfOk-weaker, MatchResult-weaker}
use Rattle.scripts.specs.declared.command.Command.TheVariants as C
use Rattle.jobs.specs.declared.call.Call.TheVariants as J
use Rattle.desk.specs.Malformed.{too_few_places}
use Rattle.desk.proofs.Malformed.{stands, unread_call, unrefused, well_formed, malformed_as, with_book, asked_open}
use Rattle.desk.proofs.histories.History.answer.Goals as goal

pub returns-in-Sheet-clause-does : goal.returns-in-Sheet-clause-does
returns-in-Sheet-clause-does g c =
    MatchResult-weaker c.set_places.result c.set_places.ensures
    (λ _ h. ([], sym (append-nil _), record { stands = stands _ c.in_ok-admit.ensures; command = C.Sheet c.in-Sheet.places; said = search rules; does = (h.0, h.1, refl) }))
    (λ _ _. tt)

pub returns-in-Sheet-clause-malformed : goal.returns-in-Sheet-clause-malformed
returns-in-Sheet-clause-malformed g c =
    malformed_as c.set_places.result _ _ _ c.set_places.ensures
    (λ expected h. (h.1, refl, too_few_places c.in-Sheet.places (stands _ c.in_ok-admit.ensures) (search rules) h.2 (let z = h.0 in cc)))

pub returns-in-Ids-clause-does : goal.returns-in-Ids-clause-does
returns-in-Ids-clause-does g c =
    ([], sym (append-nil _), record { stands = stands _ c.in_ok-admit.ensures; command = C.Ids c.in-Ids.places; said = search rules; does = (search rules, refl) })

pub returns-in_ok-push-in-Table-clause-does : goal.returns-in_ok-push-in-Table-clause-does
returns-in_ok-push-in-Table-clause-does g c =
    ([], sym (append-nil _), record { stands = stands _ c.in_ok-admit.ensures; command = C.Table c.in-Table.table; said = search rules; does = (search rules, refl) })

pub returns-in_ok-one-in-Land-clause-does : goal.returns-in_ok-one-in-Land-clause-does
returns-in_ok-one-in-Land-clause-does g c =
    IfOk-weaker c.make.result _ _
    (λ _ e. (e.0, e.1, record { stands = stands _ c.in_ok-admit.ensures; command = C.Land c.in-Land.table; said = search rules; does = e.2 }))
    (c.make.ensures.made (J.Land c.in-Land.table) (search rules))

pub returns-in_ok-one-in-Propose-clause-does : goal.returns-in_ok-one-in-Propose-clause-does
returns-in_ok-one-in-Propose-clause-does g c =
    IfOk-weaker c.make-in-Propose.result _ _
    (λ _ e. (e.0, e.1, record { stands = stands _ c.in_ok-admit.ensures; command = C.Propose c.in-Propose.question; said = search rules; does = e.2 }))
    (c.make-in-Propose.ensures.made (J.Propose (record { settings = c.in-Propose.question.settings; clock = c.in-Propose.question.clock })) (search rules))

pub returns-in_ok-one-in-LookAhead-clause-does : goal.returns-in_ok-one-in-LookAhead-clause-does
returns-in_ok-one-in-LookAhead-clause-does g c =
    IfOk-weaker c.make-in-LookAhead.result _ _
    (λ _ e. (e.0, e.1, record { stands = stands _ c.in_ok-admit.ensures; command = C.LookAhead c.in-LookAhead.question; said = search rules; does = e.2 }))
    (c.make-in-LookAhead.ensures.made (J.LookAhead (record { settings = c.in-LookAhead.question.settings; clock = c.in-LookAhead.question.clock })) (search rules))

pub returns-in_ok-one-in-Book-clause-does : goal.returns-in_ok-one-in-Book-clause-does
returns-in_ok-one-in-Book-clause-does g c =
    IfOk-weaker c.make-in-Book.result _ _
    (λ _ e. (e.0, e.1, record { stands = stands _ c.in_ok-admit.ensures; command = C.Book c.in-Book.question; said = search rules; does = e.2 }))
    (c.make-in-Book.ensures.made (J.Book (record { settings = c.in-Book.question.settings; clock = c.in-Book.question.clock })) (search rules))

pub returns-in_ok-one-in-GiveUp-clause-does : goal.returns-in_ok-one-in-GiveUp-clause-does
returns-in_ok-one-in-GiveUp-clause-does g c =
    IfOk-weaker c.make-in-GiveUp.result _ _
    (λ _ e. (e.0, e.1, record { stands = stands _ c.in_ok-admit.ensures; command = C.GiveUp c.in-GiveUp.ticket; said = search rules; does = e.2 }))
    (c.make-in-GiveUp.ensures.made (J.GiveUp c.in-GiveUp.ticket) (search rules))

pub returns-in_ok-one-in-Land-clause-refused : goal.returns-in_ok-one-in-Land-clause-refused
returns-in_ok-one-in-Land-clause-refused g c =
    unrefused c.make.result _
    (with_book c.args.self.now.phase c.make.result (asked_open g.K.KeyText.says c.args.word c.args.words.now (C.Land c.in-Land.table) c.args.self.now.phase _ (search rules) refl (stands _ c.in_ok-admit.ensures)) c.make.ensures.fails)

pub returns-in_ok-one-in-Land-clause-malformed : goal.returns-in_ok-one-in-Land-clause-malformed
returns-in_ok-one-in-Land-clause-malformed g c =
    well_formed c.make.result _
    (with_book c.args.self.now.phase c.make.result (asked_open g.K.KeyText.says c.args.word c.args.words.now (C.Land c.in-Land.table) c.args.self.now.phase _ (search rules) refl (stands _ c.in_ok-admit.ensures)) c.make.ensures.fails)

pub returns-in_ok-one-in-Propose-clause-refused : goal.returns-in_ok-one-in-Propose-clause-refused
returns-in_ok-one-in-Propose-clause-refused g c =
    unrefused c.make-in-Propose.result _
    (with_book c.args.self.now.phase c.make-in-Propose.result (asked_open g.K.KeyText.says c.args.word c.args.words.now (C.Propose c.in-Propose.question) c.args.self.now.phase _ (search rules) refl (stands _ c.in_ok-admit.ensures)) c.make-in-Propose.ensures.fails)

pub returns-in_ok-one-in-Propose-clause-malformed : goal.returns-in_ok-one-in-Propose-clause-malformed
returns-in_ok-one-in-Propose-clause-malformed g c =
    well_formed c.make-in-Propose.result _
    (with_book c.args.self.now.phase c.make-in-Propose.result (asked_open g.K.KeyText.says c.args.word c.args.words.now (C.Propose c.in-Propose.question) c.args.self.now.phase _ (search rules) refl (stands _ c.in_ok-admit.ensures)) c.make-in-Propose.ensures.fails)

pub returns-in_ok-one-in-LookAhead-clause-refused : goal.returns-in_ok-one-in-LookAhead-clause-refused
returns-in_ok-one-in-LookAhead-clause-refused g c =
    unrefused c.make-in-LookAhead.result _
    (with_book c.args.self.now.phase c.make-in-LookAhead.result (asked_open g.K.KeyText.says c.args.word c.args.words.now (C.LookAhead c.in-LookAhead.question) c.args.self.now.phase _ (search rules) refl (stands _ c.in_ok-admit.ensures)) c.make-in-LookAhead.ensures.fails)

pub returns-in_ok-one-in-LookAhead-clause-malformed : goal.returns-in_ok-one-in-LookAhead-clause-malformed
returns-in_ok-one-in-LookAhead-clause-malformed g c =
    well_formed c.make-in-LookAhead.result _
    (with_book c.args.self.now.phase c.make-in-LookAhead.result (asked_open g.K.KeyText.says c.args.word c.args.words.now (C.LookAhead c.in-LookAhead.question) c.args.self.now.phase _ (search rules) refl (stands _ c.in_ok-admit.ensures)) c.make-in-LookAhead.ensures.fails)

pub returns-in_ok-one-in-Book-clause-refused : goal.returns-in_ok-one-in-Book-clause-refused
returns-in_ok-one-in-Book-clause-refused g c =
    unrefused c.make-in-Book.result _
    (with_book c.args.self.now.phase c.make-in-Book.result (asked_open g.K.KeyText.says c.args.word c.args.words.now (C.Book c.in-Book.question) c.args.self.now.phase _ (search rules) refl (stands _ c.in_ok-admit.ensures)) c.make-in-Book.ensures.fails)

pub returns-in_ok-one-in-Book-clause-malformed : goal.returns-in_ok-one-in-Book-clause-malformed
returns-in_ok-one-in-Book-clause-malformed g c =
    well_formed c.make-in-Book.result _
    (with_book c.args.self.now.phase c.make-in-Book.result (asked_open g.K.KeyText.says c.args.word c.args.words.now (C.Book c.in-Book.question) c.args.self.now.phase _ (search rules) refl (stands _ c.in_ok-admit.ensures)) c.make-in-Book.ensures.fails)

pub returns-in_ok-one-in-GiveUp-clause-refused : goal.returns-in_ok-one-in-GiveUp-clause-refused
returns-in_ok-one-in-GiveUp-clause-refused g c =
    unrefused c.make-in-GiveUp.result _
    (with_book c.args.self.now.phase c.make-in-GiveUp.result (asked_open g.K.KeyText.says c.args.word c.args.words.now (C.GiveUp c.in-GiveUp.ticket) c.args.self.now.phase _ (search rules) refl (stands _ c.in_ok-admit.ensures)) c.make-in-GiveUp.ensures.fails)

pub returns-in_ok-one-in-GiveUp-clause-malformed : goal.returns-in_ok-one-in-GiveUp-clause-malformed
returns-in_ok-one-in-GiveUp-clause-malformed g c =
    well_formed c.make-in-GiveUp.result _
    (with_book c.args.self.now.phase c.make-in-GiveUp.result (asked_open g.K.KeyText.says c.args.word c.args.words.now (C.GiveUp c.in-GiveUp.ticket) c.args.self.now.phase _ (search rules) refl (stands _ c.in_ok-admit.ensures)) c.make-in-GiveUp.ensures.fails)

pub returns-in_ok-push-in-Output-clause-does : goal.returns-in_ok-push-in-Output-clause-does
returns-in_ok-push-in-Output-clause-does g c =
    ([], sym (append-nil _), record { stands = stands _ c.in_ok-admit.ensures; command = C.Output c.in-Output.table; said = search rules; does = (search rules, refl) })

pub returns-in_err-places-clause-malformed : goal.returns-in_err-places-clause-malformed
returns-in_err-places-clause-malformed g c =
    unread_call _ c.args.word c.args.words.now c.args.self.now _ _ _ c.from_residual-in_err-places.ensures.1 (stands _ c.in_ok-admit.ensures) c.in_err-places.ensures.says
