-- The calls of a list that ask a strategy put questions that keep the law.
use Rattle.std.proofs.Common.{ℕ, List, [], ◌∷◌, Ordering}
use Rattle.runs.specs.declared.table.Table.{Table}
use Rattle.strategies.specs.Answer.{Answer}
use Rattle.strategies.specs.Strategy.{Law}
use Rattle.books.specs.Deed.{Keeps, Keep}
use Rattle.jobs.specs.declared.call.Call.{Call}
use Rattle.jobs.specs.declared.call.Call.TheVariants.{Land, Propose, LookAhead, Book, Close, GiveUp}
use Rattle.jobs.specs.Call.{deed}
use Rattle.history.specs.declared.replay.Outcome.{Outcome}
use Rattle.history.specs.Replay.{deeds}

module _ {K S : Type 0} (cmp : K → K → Ordering) (chooses : S → List (Table K) → List ℕ → ℕ → ℕ → Answer)
    (keeps : (s : S) (blobs clock : ℕ) → Law cmp (λ ts hs. chooses s ts hs blobs clock)) (blobs : ℕ) where
  call_lawful : (c : Call K S) (ids : List ℕ) → Keeps cmp (deed chooses blobs c ids)
  call_lawful (Land fresh) ids = tt
  call_lawful (Propose q) ids = keeps q.settings blobs q.clock
  call_lawful (LookAhead q) ids = keeps q.settings blobs q.clock
  call_lawful (Book q) ids = keeps q.settings blobs q.clock
  call_lawful (Close ticket outputs) ids = tt
  call_lawful (GiveUp ticket) ids = tt

  pub calls_lawful : (cs : List (Call K S)) (os : List Outcome) → Keep cmp (deeds chooses blobs cs os)
  calls_lawful [] os = tt
  calls_lawful (c ∷ cs) [] = tt
  calls_lawful (c ∷ cs) (o ∷ os) = (call_lawful c o.ids.now, calls_lawful cs os)
