-- On tables that are equal but for keys that compare alike, a landing and the end of a job leave alike and refuse alike.
use Rattle.std.proofs.Common.{◌≡◌, ℕ, zero, suc, ◌-◌, Bool, cond, not, ◌||◌, List, [], ◌∷◌, map, Some, None, Option, Result, Ordering, refl, ap, ◌∙◌, subst}
use Rattle.std.specs.List.{list_any}
use Rattle.std.specs.Option.{option_map}
use Rattle.refusals.specs.declared.refusal.Refusal.{Refusal}
use Rattle.keys.specs.declared.key_range.KeyRange.{KeyRange}
use Rattle.keys.specs.Pairing.{Both, nil, cons, CompareAlike}
use Rattle.keys.proofs.Alike.{cond_alike, length_alike, kept_alike, map_same, map_alike, lt_alike, meets_alike, inside_alike}
use Rattle.runs.specs.declared.fresh.Fresh.{Fresh}
use Rattle.runs.specs.declared.table.Table.{Table}
use Rattle.runs.specs.Pairing.{Twin, Fellow, TwinSpans, no_span, a_span}
use Rattle.sheets.specs.Level.{runs}
use Rattle.runs.specs.Fresh.{settled}
use Rattle.sheets.specs.Tables.{memb, named, placed}
use Rattle.sheets.proofs.Alike.{named_alike, without_alike, placed_alike, settled_alike, insert_alike, inserts_alike}
use Rattle.sheets.proofs.AlikeLevels.{some_alike, numbers_alike, size_alike, runs_alike}
use Rattle.strategies.specs.declared.choice.Kind.{Kind}
use Rattle.strategies.specs.declared.choice.Kind.TheVariants.{Move, Merge, Drop}
use Rattle.books.specs.Booked.{span_held}
use Rattle.books.specs.Close.{first_fault, in_run, rank, recounted, arrivals, closed, bad_table, in_span, follows, bad_output, bad_outputs, settled_or_full, unless_outputs, unless_tables, close_found, close, give_up_found, give_up}
use Rattle.books.specs.Job.{Running, found}
use Rattle.books.specs.Land.{has_room, fresh_ok, bars, landing_run, landed, land}
use Rattle.books.specs.Pairing.{TwinState, twin}
use Rattle.books.specs.State.{State}
use Rattle.books.proofs.AlikeBook.{span_held_alike}
use Rattle.books.proofs.Recounts.{again}

-- the first at fault stands at one place of lists that pair
module _ {X Y : Type 0} (S : X → Y → Type 0) (p : List X → X → Bool) (q : List Y → Y → Bool) (same : (seen : List X) (seen' : List Y) → Both S seen seen' → (x : X) (y : Y) → S x y → p seen x ≡ q seen' y) where
  pub fault_alike : {xs : List X} {ys : List Y} → Both S xs ys → {seen : List X} {seen' : List Y} → Both S seen seen' → first_fault p seen xs ≡ first_fault q seen' ys
  fault_alike nil v = refl
  fault_alike (cons {x} {y} {ys = ys} s r) {seen} {seen'} v =
      ap (λ o. cond (p seen x) (Some 0) (option_map suc o)) (fault_alike r (cons s v)) ∙ ap (λ b. cond b (Some 0) (option_map suc (first_fault q (y ∷ seen') ys))) (same seen seen' v x y s)

module _ {A B : Type 0} (R : A → B → Type 0) where
  -- ---- the recount
  in_run_alike : (r : ℕ) (t : Table A) (u : Table B) → Twin R t u → in_run r t ≡ in_run r u
  in_run_alike r t u v = rw (v.level, v.run)

  rank_alike : {ts : List (Table A)} {us : List (Table B)} → Both (Twin R) ts us → (r : ℕ) → rank ts r ≡ rank us r
  rank_alike w zero = refl
  rank_alike w (suc r) = rw (some_alike (Twin R) (in_run r) (in_run r) (in_run_alike r) w, rank_alike w r)

  again_alike : {ts : List (Table A)} {us : List (Table B)} → Both (Twin R) ts us → (t : Table A) (u : Table B) → Twin R t u → Twin R (again ts t) (again us u)
  again_alike w t u v = placed_alike R v.level (rw (v.level, v.run, rank_alike w u.run)) t u v

  pub recount_alike : {ts : List (Table A)} {us : List (Table B)} → Both (Twin R) ts us → Both (Twin R) (recounted ts) (recounted us)
  recount_alike {ts} {us} w = map_alike (Twin R) (Twin R) (again ts) (again us) (again_alike w) w

  -- ---- room, and what comes in
  pub room_alike : (room : ℕ) {ts : List (Table A)} {us : List (Table B)} → Both (Twin R) ts us → has_room room ts ≡ has_room room us
  room_alike room w = rw (length_alike (Twin R) w, size_alike R w)

  arrivals_alike : (k : Kind) (level : ℕ) (ns : List ℕ) {fs : List (Fresh A)} {gs : List (Fresh B)} → Both (Fellow R) fs gs → {ts : List (Table A)} {us : List (Table B)} → Both (Twin R) ts us → Both (Twin R) (arrivals k level ns fs ts) (arrivals k level ns gs us)
  arrivals_alike Move level ns v w = map_alike (Twin R) (Twin R) (placed level 0) (placed level 0) (placed_alike R refl refl) (kept_alike (Twin R) (named ns) (named ns) (named_alike R ns) w)
  arrivals_alike Merge level ns v w = map_alike (Fellow R) (Twin R) (settled level 0) (settled level 0) (settled_alike R refl refl) v
  arrivals_alike Drop level ns v w = nil

module _ {A B : Type 0} (cmp_a : A → A → Ordering) (cmp_b : B → B → Ordering) (R : A → B → Type 0) (alike : CompareAlike cmp_a cmp_b R) where
  -- ---- tests of fresh tables
  module _ {ts : List (Table A)} {us : List (Table B)} (w : Both (Twin R) ts us) where
    pub fresh_alike : (f : Fresh A) (g : Fresh B) → Fellow R f g → fresh_ok cmp_a ts f ≡ fresh_ok cmp_b us g
    fresh_alike f g v = rw (lt_alike cmp_a cmp_b R alike v.range.max v.range.min, v.size, v.linked, v.number, numbers_alike R w)

    bad_table_alike : (seen : List (Fresh A)) (seen' : List (Fresh B)) → Both (Fellow R) seen seen' → (f : Fresh A) (g : Fresh B) → Fellow R f g → bad_table cmp_a ts seen f ≡ bad_table cmp_b us seen' g
    bad_table_alike seen seen' r f g v =
        ap (λ b. not b || memb f.number (map (λ x. x.number) seen)) (fresh_alike f g v)
        ∙ ap (λ n. not (fresh_ok cmp_b us g) || memb n (map (λ x. x.number) seen)) v.number
        ∙ ap (λ ns. not (fresh_ok cmp_b us g) || memb g.number ns) (map_same (Fellow R) (λ x. x.number) (λ y. y.number) (λ x y z. z.number) r)

    pub tables_fault_alike : {fs : List (Fresh A)} {gs : List (Fresh B)} → Both (Fellow R) fs gs → first_fault (bad_table cmp_a ts) [] fs ≡ first_fault (bad_table cmp_b us) [] gs
    tables_fault_alike v = fault_alike (Fellow R) (bad_table cmp_a ts) (bad_table cmp_b us) bad_table_alike v nil

    -- ---- a landing
    bars_alike : (f : Fresh A) (g : Fresh B) → Fellow R f g → (n : ℕ) (t : Table A) (u : Table B) → Twin R t u → bars cmp_a f n t ≡ bars cmp_b g n u
    bars_alike f g v n t u x = rw (meets_alike cmp_a cmp_b R alike x.range v.range, x.level, x.run)

    pub landed_alike : (f : Fresh A) (g : Fresh B) → Fellow R f g → Both (Twin R) (landed cmp_a f ts) (landed cmp_b g us)
    landed_alike f g v =
        let n = runs_alike R w in
        let e : list_any (bars cmp_a f (runs ts)) ts ≡ list_any (bars cmp_b g (runs us)) us = ap (λ k. list_any (bars cmp_a f k) ts) n ∙ some_alike (Twin R) (bars cmp_a f (runs us)) (bars cmp_b g (runs us)) (bars_alike f g v (runs us)) w in
        let run : landing_run cmp_a f ts ≡ landing_run cmp_b g us = ap (λ b. cond b (runs ts) (runs ts - 1)) e ∙ ap (λ k. cond (list_any (bars cmp_b g (runs us)) us) k (k - 1)) n in
        insert_alike cmp_a cmp_b R alike (settled_alike R refl run f g v) w

    -- ---- a close
    pub closed_alike : (j : Running) {fs : List (Fresh A)} {gs : List (Fresh B)} → Both (Fellow R) fs gs → Both (Twin R) (closed cmp_a j fs ts) (closed cmp_b j gs us)
    closed_alike j v = recount_alike R (inserts_alike cmp_a cmp_b R alike (arrivals_alike R j.kind j.destination j.numbers v w) (without_alike R j.numbers w))

  -- ---- outputs
  in_span_alike : {o : Option (KeyRange A)} {p : Option (KeyRange B)} → TwinSpans R o p → (f : Fresh A) (g : Fresh B) → Fellow R f g → in_span cmp_a o f ≡ in_span cmp_b p g
  in_span_alike no_span f g v = refl
  in_span_alike (a_span x) f g v = inside_alike cmp_a cmp_b R alike x v.range

  follows_alike : {seen : List (Fresh A)} {seen' : List (Fresh B)} → Both (Fellow R) seen seen' → (f : Fresh A) (g : Fresh B) → Fellow R f g → follows cmp_a seen f ≡ follows cmp_b seen' g
  follows_alike nil f g v = refl
  follows_alike (cons x r) f g v = lt_alike cmp_a cmp_b R alike x.range.max v.range.min

  bad_output_alike : {o : Option (KeyRange A)} {p : Option (KeyRange B)} → TwinSpans R o p → (seen : List (Fresh A)) (seen' : List (Fresh B)) → Both (Fellow R) seen seen' → (f : Fresh A) (g : Fresh B) → Fellow R f g → bad_output cmp_a o seen f ≡ bad_output cmp_b p seen' g
  bad_output_alike {o} {p} x seen seen' r f g v = ap (λ b. not b || not (follows cmp_a seen f)) (in_span_alike x f g v) ∙ ap (λ b. not (in_span cmp_b p g) || not b) (follows_alike r f g v)

  pub outputs_alike : (k : Kind) {o : Option (KeyRange A)} {p : Option (KeyRange B)} → TwinSpans R o p → {fs : List (Fresh A)} {gs : List (Fresh B)} → Both (Fellow R) fs gs → bad_outputs cmp_a k o fs ≡ bad_outputs cmp_b k p gs
  outputs_alike Move x nil = refl
  outputs_alike Move x (cons v r) = refl
  outputs_alike Merge x nil = refl
  outputs_alike Merge {o} {p} x (cons v r) = fault_alike (Fellow R) (bad_output cmp_a o) (bad_output cmp_b p) (bad_output_alike x) (cons v r) nil
  outputs_alike Drop x nil = refl
  outputs_alike Drop x (cons v r) = refl

  -- ---- the calls, once the test is passed
  -- states that pair, and one result
  abbrev pub EndsAlike : State A × Result (Unit {0}) Refusal → State B × Result (Unit {0}) Refusal → Type 0
  EndsAlike x y = TwinState R x.0 y.0 × (x.1 ≡ y.1)

  pub land_alike : (f : Fresh A) (g : Fresh B) → Fellow R f g → {s : State A} {t : State B} → TwinState R s t → EndsAlike (land cmp_a f s) (land cmp_b g t)
  land_alike f g v (twin {room} {ts = ts} {us = us} w) =
      let x = landed_alike w f g v in
      let n = length_alike (Twin R) x in
      cond_alike EndsAlike _ _ (fresh_alike w f g v) _ _ _ _ (cond_alike EndsAlike _ _ (room_alike R room x) _ _ _ _ (rw n (twin x), refl) (twin w, refl)) (twin w, refl)

  settled_or_full_alike : (j : Running) {fs : List (Fresh A)} {gs : List (Fresh B)} → Both (Fellow R) fs gs → {s : State A} {t : State B} → TwinState R s t → EndsAlike (settled_or_full cmp_a j fs s) (settled_or_full cmp_b j gs t)
  settled_or_full_alike j v (twin {room} w) =
      let x = closed_alike w j v in
      let n = length_alike (Twin R) x in
      cond_alike EndsAlike _ _ (room_alike R room x) _ _ _ _ (rw n (twin x), refl) (twin w, refl)

  unless_outputs_alike : (p : Option ℕ) (j : Running) {fs : List (Fresh A)} {gs : List (Fresh B)} → Both (Fellow R) fs gs → {s : State A} {t : State B} → TwinState R s t → EndsAlike (unless_outputs cmp_a p j fs s) (unless_outputs cmp_b p j gs t)
  unless_outputs_alike None j v w = settled_or_full_alike j v w
  unless_outputs_alike (Some place) j v w = (w, refl)

  unless_tables_alike : (p : Option ℕ) (j : Running) {fs : List (Fresh A)} {gs : List (Fresh B)} → Both (Fellow R) fs gs → {s : State A} {t : State B} → TwinState R s t → EndsAlike (unless_tables cmp_a p j fs s) (unless_tables cmp_b p j gs t)
  unless_tables_alike None j {fs} {gs} v {s} {t} (twin {ts = ts} {us = us} w) =
      subst (λ p. EndsAlike (unless_tables cmp_a None j fs s) (unless_outputs cmp_b p j gs t)) (outputs_alike j.kind (span_held_alike cmp_a cmp_b R alike w j) v) (unless_outputs_alike (bad_outputs cmp_a j.kind (span_held cmp_a ts j) fs) j v (twin w))
  unless_tables_alike (Some place) j v w = (w, refl)

  close_found_alike : (o : Option Running) {fs : List (Fresh A)} {gs : List (Fresh B)} → Both (Fellow R) fs gs → {s : State A} {t : State B} → TwinState R s t → EndsAlike (close_found cmp_a o fs s) (close_found cmp_b o gs t)
  close_found_alike None v w = (w, refl)
  close_found_alike (Some j) {fs} {gs} v {s} {t} (twin {ts = ts} w) =
      subst (λ p. EndsAlike (close_found cmp_a (Some j) fs s) (unless_tables cmp_b p j gs t)) (tables_fault_alike w v) (unless_tables_alike (first_fault (bad_table cmp_a ts) [] fs) j v (twin w))

  pub close_alike : (n : ℕ) {fs : List (Fresh A)} {gs : List (Fresh B)} → Both (Fellow R) fs gs → {s : State A} {t : State B} → TwinState R s t → EndsAlike (close cmp_a n fs s) (close cmp_b n gs t)
  close_alike n v (twin {slots = slots} w) = close_found_alike (found n slots) v (twin w)

  give_up_found_alike : (o : Option Running) {s : State A} {t : State B} → TwinState R s t → EndsAlike (give_up_found cmp_a o s) (give_up_found cmp_b o t)
  give_up_found_alike None w = (w, refl)
  give_up_found_alike (Some j) (twin w) = (twin w, refl)

  pub give_up_alike : (n : ℕ) {s : State A} {t : State B} → TwinState R s t → EndsAlike (give_up cmp_a n s) (give_up cmp_b n t)
  give_up_alike n (twin {slots = slots} w) = give_up_found_alike (found n slots) (twin w)
