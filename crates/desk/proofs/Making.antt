-- What a call on an open book makes of a history.
use Rattle.std.proofs.Common.{◌≡◌, ℕ, min, List, [], length, Some, None, Option, Ordering, sym, refl, ap, ◌∙◌, subst}
use Rattle.std.specs.Option.{IsSomeAnd}
use Rattle.keys.specs.KeyKind.{Laws}
use Rattle.runs.specs.declared.fresh.Fresh.{Fresh}
use Rattle.runs.specs.declared.table.Table.{Table}
use Rattle.sheets.specs.Edits.{laid}
use Rattle.strategies.specs.Answer.{Answer}
use Rattle.standard.specs.declared.standard.Settings.{Settings}
use Rattle.standard.specs.Standard.{standard}
use Rattle.books.specs.Deed.{Deed, Reply, closing, perform}
use Rattle.books.specs.State.{State}
use Rattle.jobs.specs.declared.call.Call.{Call}
use Rattle.jobs.specs.declared.call.Call.TheVariants as C
use Rattle.jobs.specs.declared.job_book.JobBook.{JobBook}
use Rattle.jobs.specs.Call.{deed}
use Rattle.jobs.specs.View.{state}
use Rattle.desk.specs.declared.histories.History.{History}
use Rattle.desk.specs.declared.histories.Phase.TheVariants.{Open}
use Rattle.desk.specs.Calls.{done_by, Tells, ids_of, Made, Makes}
use Rattle.desk.specs.History.{state_in, state_of}
use Rattle.desk.proofs.Asking.{all_places}
use Rattle.desk.proofs.Replies.{told_so}

done_same : {K S : Type 0} (chooses : S → List (Table K) → List ℕ → ℕ → ℕ → Answer) (blobs : ℕ) (call : Call K S) (ids ids' : List ℕ) → done_by (deed chooses blobs call ids) ≡ done_by (deed chooses blobs call ids')
done_same chooses blobs (C.Land f) ids ids' = refl
done_same chooses blobs (C.Propose q) ids ids' = refl
done_same chooses blobs (C.LookAhead q) ids ids' = refl
done_same chooses blobs (C.Book q) ids ids' = refl
done_same chooses blobs (C.Close ticket outputs) ids ids' = refl
done_same chooses blobs (C.GiveUp ticket) ids ids' = refl

module _ {K : Type 0} {cmp : K → K → Ordering} (laws : Laws cmp) (call : Call K (Settings K)) (h : History K) (book book' : JobBook) (ids text : List ℕ) where
  -- the state and the reply after the call, on an id sheet
  abbrev came : List (Table K) → List ℕ → State K × Reply
  came sheet places = perform cmp (deed (standard cmp) book.blob_total call places) (state book sheet)

  -- what was made of a sheet
  abbrev Came : List (Table K) → List (Table K) → Type 0
  Came sheet sheet' =
      (state book' sheet' ≡ (came sheet ids).0)
      × (sheet' ≡ laid (state book' sheet').tables sheet)
      × Tells (done_by (deed (standard cmp) book.blob_total call ids)) (came sheet ids).1 text

  module _ (h' : History K) (sheet' : List (Table K)) (n : length ids ≡ min h.id_places 1024) (stands : state_of h' ≡ Some (state book' sheet')) (items : h'.sheet.items ≡ sheet')
      (places : h'.places ≡ h.places) (id_places : h'.id_places ≡ h.id_places) (kept : h'.outputs.items ≡ h.outputs.items) where
    made : Came h.sheet.items sheet' → Made cmp (deed (standard cmp) book.blob_total call (ids_of h)) (state book h.sheet.items) h.outputs.items h h' text
    made is =
        let same = all_places laws book h.sheet.items h.id_places ids n call in
        let left = is.0 ∙ ap (λ w. w.0) same in
        record {
          after = stands ∙ ap (λ st. Some st) left;
          told = told_so _ _ _ _ text (done_same (standard cmp) book.blob_total call ids (ids_of h)) (ap (λ w. w.1) same) is.2;
          rest = items ∙ (is.1 ∙ ap (λ st. laid st.tables h.sheet.items) left);
          table_places = places;
          ids = id_places;
          kept = kept;
        }

    pub makes : (sheet : List (Table K)) → h.phase ≡ Open book → sheet ≡ h.sheet.items → Came sheet sheet' → Makes cmp (λ st. deed (standard cmp) st.blobs call (ids_of h)) h.outputs.items h h' text
    makes sheet phase same is =
        subst (λ p. IsSomeAnd (state_in p h.sheet.items) (λ st. Made cmp (deed (standard cmp) st.blobs call (ids_of h)) st h.outputs.items h h' text)) (sym phase)
        (made (subst (λ s. Came s sheet') same is))

-- ---- a call from a history that differs in its outputs alone
some_weaker : {A : Type 0} (o : Option A) (P Q : A → Type 0) → ((a : A) → P a → Q a) → IsSomeAnd o P → IsSomeAnd o Q
some_weaker None P Q f h = h
some_weaker (Some a) P Q f h = f a h

module _ {K : Type 0} (cmp : K → K → Ordering) (call : State K → Deed K) (left : List (Fresh K)) (h h1 h' : History K) (text : List ℕ) where
  pub emptied : h1.phase ≡ h.phase → h1.sheet.items ≡ h.sheet.items → h1.places ≡ h.places → h1.id_places ≡ h.id_places → Makes cmp call left h1 h' text → Makes cmp call left h h' text
  emptied phase sheet places ids is =
      let same : state_of h1 ≡ state_of h = ap (λ p. state_in p h1.sheet.items) phase ∙ ap (state_in h.phase) sheet in
      subst (λ o. IsSomeAnd o (λ st. Made cmp (call st) st left h h' text)) same
      (some_weaker (state_of h1) (λ st. Made cmp (call st) st left h1 h' text) (λ st. Made cmp (call st) st left h h' text)
      (λ st m. record {
        after = m.after;
        told = m.told;
        rest = m.rest ∙ ap (λ s. laid (perform cmp (call st) st).0.tables s) sheet;
        table_places = m.table_places ∙ places;
        ids = m.ids ∙ ids;
        kept = m.kept;
      })
      is)

-- a close takes the outputs that were given, and leaves none
module _ {K : Type 0} (cmp : K → K → Ordering) (ticket : ℕ) (outs outs' left : List (Fresh K)) (h h1 h' : History K) (text : List ℕ) where
  pub used_up : h1.phase ≡ h.phase → h1.sheet.items ≡ h.sheet.items → h1.places ≡ h.places → h1.id_places ≡ h.id_places → outs ≡ outs' → left ≡ []
      → Makes cmp (λ st. closing ticket outs) left h1 h' text → Makes cmp (λ st. closing ticket outs') [] h h' text
  used_up phase sheet places ids e f is =
      emptied cmp (λ st. closing ticket outs') [] h h1 h' text phase sheet places ids
      (subst (λ l. Makes cmp (λ st. closing ticket outs') l h1 h' text) f (subst (λ o. Makes cmp (λ st. closing ticket o) left h1 h' text) e is))
