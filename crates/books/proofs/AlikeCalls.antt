-- Two lists of calls that are equal but for keys that compare alike, on two states that are, give equal replies and leave states that are.
use Rattle.std.proofs.Common.{◌≡◌, ℕ, ◌+◌, Bool, cond, ◌&&◌, eqb, ltb, leb, List, ◌∷◌, length, Err, Result, Ordering, sym, refl, ap, ◌∙◌, subst}
use Rattle.std.specs.List.{list_any}
use Rattle.refusals.specs.declared.refusal.Refusal.{Refusal}
use Rattle.refusals.specs.declared.refusal.Refusal.TheVariants.{NotSound, AlreadyHidden}
use Rattle.keys.specs.Pairing.{Both, nil, cons, CompareAlike}
use Rattle.keys.proofs.Alike.{cond_alike}
use Rattle.runs.specs.declared.table.Table.{Table}
use Rattle.runs.specs.Pairing.{Twin}
use Rattle.sheets.specs.Members.{In}
use Rattle.sheets.specs.Tables.{memb}
use Rattle.sheets.proofs.AlikeLevels.{some_alike}
use Rattle.sheets.proofs.Each.{some_same}
use Rattle.strategies.specs.declared.choice.Choice.{Choice}
use Rattle.strategies.specs.Answer.{Chosen, Answer, nothing, chooses, declines, asked, noted}
use Rattle.strategies.specs.Fifo.{place_of}
use Rattle.books.specs.Book as Ask
use Rattle.books.specs.Book.{Question, Booking, Left, job_of, ahead_of, second, look_on, taken, book_choice, book_answer}
use Rattle.books.specs.Booked.{crosses, state_ok}
use Rattle.books.specs.Deed.{Deed, Reply, ended, chosen, booked, names, perform, after, said}
use Rattle.books.specs.Job.{running}
use Rattle.books.specs.Pairing.{TwinState, twin, AnswerAlike, TwinDeed, landings, askings, lookings, bookings, closings, givings}
use Rattle.books.specs.Promise.{RunsAlike, ListsAlike}
use Rattle.books.specs.State.{State}
use Rattle.books.proofs.AlikeBook.{crosses_alike, state_alike}
use Rattle.books.proofs.AlikeEdits.{EndsAlike, land_alike, close_alike, give_up_alike}
use Rattle.books.proofs.IdSheets.{front_is, listed, asked_names}

place_alike : {X Y : Type 0} (S : X → Y → Type 0) (p : X → Bool) (q : Y → Bool) → ((x : X) (y : Y) → S x y → p x ≡ q y) → {xs : List X} {ys : List Y} → Both S xs ys → place_of p xs ≡ place_of q ys
place_alike S p q f nil = refl
place_alike S p q f (cons {x} {y} s r) = rw (f x y s, place_alike S p q f r)

module _ {A B : Type 0} (cmp_a : A → A → Ordering) (cmp_b : B → B → Ordering) (R : A → B → Type 0) (alike : CompareAlike cmp_a cmp_b R) where
  -- states that pair, one result, and the same numbers named
  abbrev LeftAlike : {T : Type 0} → (T → Choice) → Left A T → Left B T → Type 0
  LeftAlike choice l m = TwinState R l.state m.state × (l.result ≡ m.result) × (names choice l.result l.ids ≡ names choice m.result m.ids)

  -- ---- questions alone
  module _ (ids ids' : List ℕ) (long : length ids ≡ length ids') where
    -- one answer on two id sheets of one length
    told_alike : (a b : Answer) → a ≡ b → {s : State A} {t : State B} → TwinState R s t
        → LeftAlike (λ c. c) (record { state = s; ids = noted a ids; result = asked a (length ids) }) (record { state = t; ids = noted b ids'; result = asked b (length ids') })
    told_alike a b e w =
        (w, ap (λ x. asked x (length ids)) e ∙ ap (asked b) long, asked_names a ids ∙ (ap (λ x. listed x (length ids)) e ∙ (ap (listed b) long ∙ sym (asked_names b ids'))))

    module _ {g : Question A} {h : Question B} (same : AnswerAlike R g h) where
      propose_alike : {s : State A} {t : State B} → TwinState R s t → LeftAlike (λ c. c) (Ask.propose g s ids) (Ask.propose h t ids')
      propose_alike (twin {hidden = hidden} {ts = ts} {us = us} w) = told_alike (g ts hidden) (h us hidden) (same ts us hidden w) (twin w)

      second_alike : {s : State A} {t : State B} → TwinState R s t → second g s ≡ second h t
      second_alike (twin {hidden = hidden} {ts = ts} {us = us} w) = same ts us (ahead_of hidden (g ts hidden)) w ∙ ap (λ a. h us (ahead_of hidden a)) (same ts us hidden w)

      look_on_alike : (a : Answer) {s : State A} {t : State B} → TwinState R s t → LeftAlike (λ c. c) (look_on a g s ids) (look_on a h t ids')
      look_on_alike nothing w = told_alike _ _ (second_alike w) w
      look_on_alike (chooses c) w = told_alike _ _ (second_alike w) w
      look_on_alike (declines d) w = (w, refl, refl)

      look_ahead_alike : {s : State A} {t : State B} → TwinState R s t → LeftAlike (λ c. c) (Ask.look_ahead g s ids) (Ask.look_ahead h t ids')
      look_ahead_alike {s} {t} (twin {hidden = hidden} {ts = ts} {us = us} w) =
          subst (λ a. LeftAlike (λ c. c) (Ask.look_ahead g s ids) (look_on a h t ids')) (same ts us hidden w) (look_on_alike (g ts hidden) (twin w))

    -- ---- bookings
    choice_alike : (c : Chosen) {s : State A} {t : State B} → TwinState R s t → LeftAlike (λ b. b.choice) (book_choice cmp_a c s ids) (book_choice cmp_b c t ids')
    choice_alike c (twin {hidden = hidden} {slots = slots} {ts = ts} {us = us} w) =
        let Q = LeftAlike (λ (b : Booking). b.choice) in
        let ns = c.numbers in
        let hid : (t : Table A) (u : Table B) → Twin R t u → taken hidden c t ≡ taken hidden c u = λ t u v. ap (λ n. memb n ns && memb n hidden) v.number in
        cond_alike Q (ltb (length ids) (length ns)) (ltb (length ids') (length ns)) (ap (λ n. ltb n (length ns)) long) _ _ _ _ (twin w, refl, refl)
        (cond_alike Q (eqb (length ns) 0) _ refl _ _ _ _ (twin w, refl, refl)
        (cond_alike Q (list_any (taken hidden c) ts) (list_any (taken hidden c) us) (some_alike (Twin R) (taken hidden c) (taken hidden c) hid w) _ _ _ _
        (twin w, ap (λ n. Err (AlreadyHidden n)) (place_alike (Twin R) (taken hidden c) (taken hidden c) hid w), refl)
        (cond_alike Q (list_any (crosses cmp_a ts (job_of c)) (running slots)) (list_any (crosses cmp_b us (job_of c)) (running slots)) (some_same _ _ (crosses_alike cmp_a cmp_b R alike w (job_of c)) (running slots)) _ _ _ _ (twin w, refl, refl)
        (cond_alike Q (ltb (length (running slots)) 8 && leb (length hidden + length ns) 256) _ refl _ _ _ _
        (twin w, refl, front_is c.kind c ids ∙ sym (front_is c.kind c ids'))
        (twin w, refl, refl)))))

    answer_alike : (a : Answer) {s : State A} {t : State B} → TwinState R s t → LeftAlike (λ b. b.choice) (book_answer cmp_a a s ids) (book_answer cmp_b a t ids')
    answer_alike nothing w = (w, refl, refl)
    answer_alike (chooses c) w = choice_alike c w
    answer_alike (declines d) w = (w, refl, refl)

    book_alike : {g : Question A} {h : Question B} → AnswerAlike R g h → {s : State A} {t : State B} → TwinState R s t → LeftAlike (λ b. b.choice) (Ask.book cmp_a g s ids) (Ask.book cmp_b h t ids')
    book_alike {g} {h} same {s} {t} (twin {hidden = hidden} {ts = ts} {us = us} w) =
        subst (λ a. LeftAlike (λ b. b.choice) (Ask.book cmp_a g s ids) (book_answer cmp_b a t ids')) (same ts us hidden w) (answer_alike (g ts hidden) (twin w))

  -- ---- calls with the test before them
  abbrev Alike : State A × Reply → State B × Reply → Type 0
  Alike x y = TwinState R x.0 y.0 × (x.1 ≡ y.1)

  -- both pass the test, or neither does
  ends_alike : {s : State A} {t : State B} → TwinState R s t → {x : State A × Result (Unit {0}) Refusal} {y : State B × Result (Unit {0}) Refusal} → EndsAlike cmp_a cmp_b R alike x y
      → EndsAlike cmp_a cmp_b R alike (cond (state_ok cmp_a s) x (s, Err NotSound)) (cond (state_ok cmp_b t) y (t, Err NotSound))
  ends_alike w r = cond_alike (EndsAlike cmp_a cmp_b R alike) _ _ (state_alike cmp_a cmp_b R alike w) _ _ _ _ r (w, refl)

  left_alike : {T : Type 0} (choice : T → Choice) (ids ids' : List ℕ) {s : State A} {t : State B} → TwinState R s t → (l : Left A T) (m : Left B T) → LeftAlike choice l m
      → LeftAlike choice (cond (state_ok cmp_a s) l (record { state = s; ids = ids; result = Err NotSound })) (cond (state_ok cmp_b t) m (record { state = t; ids = ids'; result = Err NotSound }))
  left_alike choice ids ids' w l m r = cond_alike (LeftAlike choice) _ _ (state_alike cmp_a cmp_b R alike w) _ _ _ _ r (w, refl, refl)

  told : {T : Type 0} (f : Result T Refusal → List ℕ → Reply) {r r' : Result T Refusal} {ns ns' : List ℕ} → r ≡ r' → ns ≡ ns' → f r ns ≡ f r' ns'
  told f {r} {r'} {ns} {ns'} e q = ap (λ x. f x ns) e ∙ ap (f r') q

  perform_alike : {d : Deed A} {e : Deed B} → TwinDeed R d e → {s : State A} {t : State B} → TwinState R s t → Alike (perform cmp_a d s) (perform cmp_b e t)
  perform_alike (landings {f} {g} v) w = let r = ends_alike w (land_alike cmp_a cmp_b R alike f g v w) in (r.0, ap ended r.1)
  perform_alike (askings {g} {h} {ids} {ids'} same long) {s} {t} w = let r = left_alike (λ c. c) ids ids' w (Ask.propose g s ids) (Ask.propose h t ids') (propose_alike ids ids' long same w) in (r.0, told chosen r.1 r.2)
  perform_alike (lookings {g} {h} {ids} {ids'} same long) {s} {t} w = let r = left_alike (λ c. c) ids ids' w (Ask.look_ahead g s ids) (Ask.look_ahead h t ids') (look_ahead_alike ids ids' long same w) in (r.0, told chosen r.1 r.2)
  perform_alike (bookings {g} {h} {ids} {ids'} same long) {s} {t} w = let r = left_alike (λ b. b.choice) ids ids' w (Ask.book cmp_a g s ids) (Ask.book cmp_b h t ids') (book_alike ids ids' long same w) in (r.0, told booked r.1 r.2)
  perform_alike (closings {n} v) w = let r = ends_alike w (close_alike cmp_a cmp_b R alike n v w) in (r.0, ap ended r.1)
  perform_alike (givings {n}) w = let r = ends_alike w (give_up_alike cmp_a cmp_b R alike n w) in (r.0, ap ended r.1)

  calls_alike : {ds : List (Deed A)} {es : List (Deed B)} → Both (TwinDeed R) ds es → {s : State A} {t : State B} → TwinState R s t → TwinState R (after cmp_a ds s) (after cmp_b es t) × (said cmp_a ds s ≡ said cmp_b es t)
  calls_alike nil w = (w, refl)
  calls_alike (cons {x = d} {y = e} {xs = ds} {ys = es} v r) {s} {t} w =
      let c = perform_alike v w in
      let rest = calls_alike r c.0 in
      (rest.0, ap (λ x. x ∷ said cmp_a ds (perform cmp_a d s).0) c.1 ∙ ap (λ l. (perform cmp_b e t).1 ∷ l) rest.1)

pub runs_alike : {A B : Type 0} (cmp_a : A → A → Ordering) (cmp_b : B → B → Ordering) (R : A → B → Type 0) → RunsAlike cmp_a cmp_b R
runs_alike cmp_a cmp_b R alike ds es s t v w = calls_alike cmp_a cmp_b R alike v w

pub lists_alike : {A B : Type 0} (cmp_a : A → A → Ordering) (cmp_b : B → B → Ordering) → ListsAlike cmp_a cmp_b
lists_alike cmp_a cmp_b pairs = runs_alike cmp_a cmp_b (λ a b. In (a, b) pairs)
