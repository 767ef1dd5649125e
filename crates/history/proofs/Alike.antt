-- Lists of calls of the four strategies that are equal but for keys which compare alike give equal replies.
use Rattle.std.proofs.Common.{◌≡◌, ℕ, List, length, Ordering, ap, ◌∙◌}
use Rattle.keys.specs.Pairing.{Both, nil, cons, CompareAlike}
use Rattle.standard.specs.declared.standard.Settings.{Settings}
use Rattle.standard.specs.Standard.{standard}
use Rattle.standard.proofs.StandardAlike.{standard_alike}
use Rattle.sheets.specs.Members.{In}
use Rattle.books.specs.Pairing.{twin, AnswerAlike, TwinDeed, landings, askings, lookings, bookings, closings, givings}
use Rattle.books.proofs.AlikeCalls.{runs_alike, lists_alike}
use Rattle.jobs.specs.declared.call.Call.{Call}
use Rattle.jobs.specs.declared.call.Query.{Query}
use Rattle.jobs.specs.Call.{deed}
use Rattle.jobs.specs.View.{question}
use Rattle.history.specs.declared.replay.Outcome.{Outcome}
use Rattle.history.specs.Alike.{TwinQuery, TwinCall, lands, proposes, looks_ahead, books, closes, gives_up, SameRoom, StandardAlike, CallsAlike}
use Rattle.history.specs.Replay.{deeds}

module _ {A B : Type 0} (cmp_a : A → A → Ordering) (cmp_b : B → B → Ordering) where
  module _ (R : A → B → Type 0) (alike : CompareAlike cmp_a cmp_b R) (blobs : ℕ) where
    -- questions that pair have one answer
    answer_alike : {p : Query (Settings A)} {q : Query (Settings B)} → TwinQuery R p q → AnswerAlike R (question (standard cmp_a) p.settings blobs p.clock) (question (standard cmp_b) q.settings blobs q.clock)
    answer_alike {p} {q} w ts us hidden v = standard_alike cmp_a cmp_b R alike w.settings v hidden blobs p.clock ∙ ap (λ clock. standard cmp_b q.settings us hidden blobs clock) w.clock

    deed_alike : {c : Call A (Settings A)} {d : Call B (Settings B)} → TwinCall R c d → (ids ids' : List ℕ) → length ids ≡ length ids' → TwinDeed R (deed (standard cmp_a) blobs c ids) (deed (standard cmp_b) blobs d ids')
    deed_alike (lands v) ids ids' long = landings v
    deed_alike (proposes {p} {q} w) ids ids' long = askings (answer_alike {p = p} {q = q} w) long
    deed_alike (looks_ahead {p} {q} w) ids ids' long = lookings (answer_alike {p = p} {q = q} w) long
    deed_alike (books {p} {q} w) ids ids' long = bookings (answer_alike {p = p} {q = q} w) long
    deed_alike (closes v) ids ids' long = closings v
    deed_alike gives_up ids ids' long = givings

    deeds_alike : {cs : List (Call A (Settings A))} {ds : List (Call B (Settings B))} → Both (TwinCall R) cs ds → {os ps : List Outcome} → Both SameRoom os ps
        → Both (TwinDeed R) (deeds (standard cmp_a) blobs cs os) (deeds (standard cmp_b) blobs ds ps)
    deeds_alike nil w = nil
    deeds_alike (cons v r) nil = nil
    deeds_alike (cons v r) (cons {x = o} {y = p} long w) = cons (deed_alike v o.ids.now p.ids.now long) (deeds_alike r w)

  standard_calls_alike : (R : A → B → Type 0) → StandardAlike cmp_a cmp_b R
  standard_calls_alike R alike cs ds os ps s t v long (twin {blobs = blobs} w) = runs_alike cmp_a cmp_b R alike _ _ _ _ (deeds_alike R alike blobs v long) (twin w)

  pub calls_alike : CallsAlike cmp_a cmp_b
  calls_alike = record { standard = λ pairs. standard_calls_alike (λ a b. In (a, b) pairs); questions = lists_alike cmp_a cmp_b }
