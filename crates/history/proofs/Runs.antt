-- A list of calls that is made up to a place.
use Rattle.std.proofs.Common.{◌≡◌, ℕ, ◌+◌, ◌<◌, ◌≤◌, ◌++◌, List, [], ◌∷◌, map, length, min, take, drop, get_or, set, Some, Option, Ordering, refl, sym, ap, ◌∙◌, append_assoc, inl, inr, arith}
use Rattle.std.proofs.lemmas.List.{drop_more, drop_all, drop-set-lt, map_push, map-append, take-append-drop, take_more_set}
use Rattle.std.proofs.lemmas.Bool.{cases_lt}
use Rattle.runs.specs.declared.table.Table.{Table}
use Rattle.sheets.specs.Edits.{laid}
use Rattle.strategies.specs.Answer.{Answer}
use Rattle.books.specs.Deed.{Deed, Reply, numbers_in, perform, after, said}
use Rattle.books.specs.State.{State}
use Rattle.books.proofs.BlobTotals.{perform_blobs}
use Rattle.jobs.specs.declared.call.Call.{Call}
use Rattle.jobs.specs.Call.{deed}
use Rattle.history.specs.declared.replay.Outcome.{Outcome}
use Rattle.history.specs.Replay.{deeds, sheet_after, shown, answered}

module _ {K S : Type 0} (cmp : K → K → Ordering) (chooses : S → List (Table K) → List ℕ → ℕ → ℕ → Answer) (calls : List (Call K S)) (begin : State K) (sheet : List (Table K)) (os : List Outcome) where
  -- the calls from a place on
  abbrev left : ℕ → List (Deed K)
  left i = deeds chooses begin.blobs (drop i calls) (drop i os)

  -- The first i calls are made: those that are left lead from here to the end of the whole list, and answer what it answers.
  pub record Half (i : ℕ) (at : State K) (held : List (Table K)) (now : List Outcome) : Type 0 where
    pub blobs : at.blobs ≡ begin.blobs
    pub state : after cmp (left i) at ≡ after cmp (left 0) begin
    pub outcomes : map shown (take i now) ++ answered (said cmp (left i) at) (map shown (drop i os)) ≡ answered (said cmp (left 0) begin) (map shown os)
    pub spare : sheet_after cmp (left i) at held ≡ sheet_after cmp (left 0) begin sheet
    pub rest : drop i now ≡ drop i os

  pub half_none : Half 0 begin sheet os
  half_none = record { blobs = refl; state = refl; outcomes = refl; spare = refl; rest = refl }

  -- the call at place i is made
  pub half_more : (i : ℕ) (at : State K) (held : List (Table K)) (now : List Outcome) (next : State K) (held' : List (Table K)) (call : Call K S) (none p : Outcome) (r : Reply)
      → i < length calls → i < length os → length now ≡ length os → call ≡ get_or calls i call
      → ◌≡◌ {A = State K × Reply} (next, r) (perform cmp (deed chooses at.blobs call (get_or now i none).ids.now) at)
      → (shown p).0 ≡ Some r → p.ids.now ≡ laid (numbers_in r) (get_or now i none).ids.now
      → held' ≡ laid next.tables held → Half i at held now → Half (i + 1) next held' (set now i p)
  half_more i at held now next held' call none p r h k long read performs told noted kept_rest half =
      let o = get_or now i none in
      let d = deed chooses begin.blobs call o.ids.now in
      let later = left (i + 1) in
      let kept = answered (said cmp later next) (map shown (drop (i + 1) os)) in
      let rest : drop i now ≡ drop i os = half.rest in
      let calls_cut : drop i calls ≡ call ∷ drop (i + 1) calls = drop_more calls i call h ∙ ap (λ c. c ∷ drop (i + 1) calls) (sym read) in
      let now_cut : drop i now ≡ o ∷ drop (i + 1) now = drop_more now i none (omega arith) in
      let os_cut_or : drop i os ≡ get_or os i o ∷ drop (i + 1) os = drop_more os i o k in
      let shows : shown p ≡ (Some r, laid (numbers_in r) o.ids.now) = ap (λ (x : Option Reply). (x, p.ids.now)) told ∙ ap (λ (ids : List ℕ). (Some r, ids)) noted in
      let later_same : drop (i + 1) now ≡ drop (i + 1) os = cc in
      let os_cut : drop i os ≡ o ∷ drop (i + 1) os = cc in
      let cut : left i ≡ d ∷ later = ap (λ cs. deeds chooses begin.blobs cs (drop i os)) calls_cut ∙ ap (λ xs. deeds chooses begin.blobs (call ∷ drop (i + 1) calls) xs) os_cut in
      let made : ◌≡◌ {A = State K × Reply} (next, r) (perform cmp d at) = performs ∙ ap (λ b. perform cmp (deed chooses b call o.ids.now) at) half.blobs in
      let next_is : next ≡ (perform cmp d at).0 = ap (λ (w : State K × Reply). w.0) made in
      let reply_is : r ≡ (perform cmp d at).1 = ap (λ (w : State K × Reply). w.1) made in
      let says : said cmp (left i) at ≡ r ∷ said cmp later next = ap (λ ds. said cmp ds at) cut ∙ ap (λ x. x ∷ said cmp later (perform cmp d at).0) (sym reply_is) ∙ ap (λ st. r ∷ said cmp later st) (sym next_is) in
      let answer : answered (said cmp (left i) at) (map shown (drop i os)) ≡ shown p ∷ kept = ap (λ rs. answered rs (map shown (drop i os))) says ∙ ap (λ xs. answered (r ∷ said cmp later next) (map shown xs)) os_cut ∙ ap (λ x. x ∷ kept) (sym shows) in
      record {
        blobs = ap (λ st. st.blobs) next_is ∙ perform_blobs cmp at d ∙ half.blobs;
        state = ap (after cmp later) next_is ∙ sym (ap (λ ds. after cmp ds at) cut) ∙ half.state;
        outcomes =
            ap (λ xs. map shown xs ++ kept) (take_more_set now i p (omega arith))
            ∙ ap (λ xs. xs ++ kept) (map_push shown (take i now) p)
            ∙ append_assoc (map shown (take i now)) (shown p ∷ []) kept
            ∙ sym (ap (λ xs. map shown (take i now) ++ xs) answer)
            ∙ half.outcomes;
        spare =
            ap (sheet_after cmp later next) kept_rest
            ∙ ap (λ st. sheet_after cmp later st (laid st.tables held)) next_is
            ∙ sym (ap (λ ds. sheet_after cmp ds at held) cut)
            ∙ half.spare;
        rest = drop-set-lt (i + 1) now i p (omega arith) ∙ later_same;
      }

  without_outcome : (cs : List (Call K S)) → deeds chooses begin.blobs cs [] ≡ []
  without_outcome [] = refl
  without_outcome (c ∷ cs) = refl

  -- no call is left where calls or outcomes are at their end
  none_left : (i : ℕ) → min (length calls) (length os) ≤ i → left i ≡ []
  none_left i h =
      elim (cases_lt i (length calls)) [
        | inl k ↦ ap (deeds chooses begin.blobs (drop i calls)) (drop_all i os (omega arith)) ∙ without_outcome (drop i calls)
        | inr k ↦ ap (λ cs. deeds chooses begin.blobs cs (drop i os)) (drop_all i calls k)
      ]

  -- as many calls are made as have an outcome
  pub half_all : (i : ℕ) (at : State K) (held : List (Table K)) (now : List Outcome) → min (length calls) (length os) ≤ i → Half i at held now
      → (at ≡ after cmp (left 0) begin) × (held ≡ sheet_after cmp (left 0) begin sheet) × (map shown now ≡ answered (said cmp (left 0) begin) (map shown os))
  half_all i at held now h half =
      let end : left i ≡ [] = none_left i h in
      let joined : map shown (take i now) ++ map shown (drop i os) ≡ map shown now =
      ap (λ xs. map shown (take i now) ++ map shown xs) (sym half.rest) ∙ sym (map-append shown (take i now) (drop i now)) ∙ ap (map shown) (take-append-drop i now)
      in (
        sym (ap (λ ds. after cmp ds at) end) ∙ half.state,
        sym (ap (λ ds. sheet_after cmp ds at held) end) ∙ half.spare,
        sym joined ∙ sym (ap (λ ds. map shown (take i now) ++ answered (said cmp ds at) (map shown (drop i os))) end) ∙ half.outcomes,
      )
