-- The reply to a list of one call.
use Rattle.std.proofs.Common.{◌≡◌, ℕ, List, [], ◌∷◌, map, get_or, Some, None, Option, Ordering, refl, ap, subst}
use Rattle.std.specs.Option.{option_map}
use Rattle.runs.specs.declared.table.Table.{Table}
use Rattle.strategies.specs.Answer.{Answer}
use Rattle.books.specs.Deed as D
use Rattle.books.specs.Deed.{perform, said}
use Rattle.books.specs.State.{State}
use Rattle.jobs.specs.declared.call.Call.{Call}
use Rattle.jobs.specs.declared.call.Reply.{Reply}
use Rattle.jobs.specs.Call.{deed, replied}
use Rattle.history.specs.declared.replay.Outcome.{Outcome}
use Rattle.history.specs.Replay.{deeds, shown, answered}
use Rattle.reports.specs.declared.report.Done.{Done}
use Rattle.desk.specs.Calls.{Tells}

some_reply : (o : Option Reply) (f : Reply → D.Reply) (x : D.Reply) → option_map f o ≡ Some x → (r : Reply) × (o ≡ Some r) × (f r ≡ x)
some_reply None f x e = absurd (let z : ◌≡◌ {A = Option D.Reply} None (Some x) = e in cc)
some_reply (Some r) f x e = let z : ◌≡◌ {A = Option D.Reply} (Some (f r)) (Some x) = e in (r, refl, cc)

module _ {K S : Type 0} (cmp : K → K → Ordering) (chooses : S → List (Table K) → List ℕ → ℕ → ℕ → Answer) (blobs : ℕ) (call : Call K S) (st : State K) (o : Outcome) where
  -- what the one outcome shows after a list of calls
  abbrev Once : List (Call K S) → List Outcome → Type 0
  Once calls os = map shown os ≡ answered (said cmp (deeds chooses blobs calls (o ∷ [])) st) (map shown (o ∷ []))

  abbrev made : State K × D.Reply
  made = perform cmp (deed chooses blobs call o.ids.now) st

  once_made : (os : List Outcome) (d : Outcome) → Once (call ∷ []) os → (r : Reply) × ((get_or os 0 d).reply ≡ Some r) × (replied r (get_or os 0 d).ids.now ≡ made.1)
  once_made [] d e = absurd (let z = e in cc)
  once_made (p ∷ os) d e =
      let first = ap (λ l. (get_or l 0 (shown d)).0) e in
      some_reply p.reply (λ r. replied r p.ids.now) made.1 first

  pub one_reply : (calls : List (Call K S)) (os : List Outcome) (d : Outcome) → calls ≡ call ∷ [] → Once calls os → (r : Reply) × ((get_or os 0 d).reply ≡ Some r) × (replied r (get_or os 0 d).ids.now ≡ made.1)
  one_reply calls os d one e = once_made os d (subst (λ cs. Once cs os) one e)

pub told_so : (d d' : Done) (x x' : D.Reply) (text : List ℕ) → d ≡ d' → x ≡ x' → Tells d x text → Tells d' x' text
told_so d d' x x' text e f h = subst (λ y. Tells d' y text) f (subst (λ z. Tells z x text) e h)
