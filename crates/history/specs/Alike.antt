-- Lists of calls that are equal but for keys, which pair: `R a b` says that a key of one kind pairs with one of another.
use Rattle.std.specs.Prelude.{◌≡◌, ℕ, List, length}
use Rattle.std.specs.Borrow.{Bor}
use Rattle.std.specs.declared.cmp.Ordering.{Ordering}
use Rattle.keys.specs.Pairing.{Both, CompareAlike}
use Rattle.runs.specs.declared.fresh.Fresh.{Fresh}
use Rattle.runs.specs.Pairing.{Fellow}
use Rattle.sheets.specs.Members.{In}
use Rattle.standard.specs.declared.standard.Settings.{Settings}
use Rattle.standard.specs.Standard.{standard, SameSettings}
use Rattle.books.specs.Deed.{after, said}
use Rattle.books.specs.Pairing.{TwinState}
use Rattle.books.specs.Promise.{ListsAlike}
use Rattle.books.specs.State.{State}
use Rattle.jobs.specs.declared.call.Call.{Call}
use Rattle.jobs.specs.declared.call.Call.TheVariants.{Land, Propose, LookAhead, Book, Close, GiveUp}
use Rattle.jobs.specs.declared.call.Query.{Query}
use Rattle.history.specs.declared.replay.Outcome.{Outcome}
use Rattle.history.specs.Replay.{deeds}

module _ {A B : Type 0} (R : A → B → Type 0) where
  -- two questions for one of the four strategies: the settings pair, and the clock is one
  pub record TwinQuery (p : Query (Settings A)) (q : Query (Settings B)) : Type 0 where
    pub settings : SameSettings R p.settings q.settings
    pub clock : p.clock ≡ q.clock

  -- two calls, which ask the four strategies
  pub data TwinCall : Call A (Settings A) → Call B (Settings B) → Type 0 where
    lands : {f : Fresh A} {g : Fresh B} → Fellow R f g → TwinCall (Land f) (Land g)
    proposes : {p : Query (Settings A)} {q : Query (Settings B)} → TwinQuery p q → TwinCall (Propose p) (Propose q)
    looks_ahead : {p : Query (Settings A)} {q : Query (Settings B)} → TwinQuery p q → TwinCall (LookAhead p) (LookAhead q)
    books : {p : Query (Settings A)} {q : Query (Settings B)} → TwinQuery p q → TwinCall (Book p) (Book q)
    closes : {n : ℕ} {fs : Bor (List (Fresh A))} {gs : Bor (List (Fresh B))} → Both (Fellow R) fs.now gs.now → TwinCall (Close n fs) (Close n gs)
    gives_up : {n : ℕ} → TwinCall (GiveUp n) (GiveUp n)

-- two id sheets are of one length, whatever they hold
abbrev pub SameRoom : Outcome → Outcome → Type 0
SameRoom o p = length o.ids.now ≡ length p.ids.now

module _ {A B : Type 0} (cmp_a : A → A → Ordering) (cmp_b : B → B → Ordering) where
  -- Where pairs of keys compare alike: calls, which ask the four strategies, and states that are equal but for keys that pair give equal replies, and states that are.
  abbrev pub StandardAlike : (A → B → Type 0) → Type 0
  StandardAlike R =
      CompareAlike cmp_a cmp_b R
      → (cs : List (Call A (Settings A))) (ds : List (Call B (Settings B))) (os ps : List Outcome) (s : State A) (t : State B)
      → Both (TwinCall R) cs ds → Both SameRoom os ps → TwinState R s t
      → TwinState R (after cmp_a (deeds (standard cmp_a) s.blobs cs os) s) (after cmp_b (deeds (standard cmp_b) t.blobs ds ps) t)
      × (said cmp_a (deeds (standard cmp_a) s.blobs cs os) s ≡ said cmp_b (deeds (standard cmp_b) t.blobs ds ps) t)

  -- So it is for every list of pairs of keys; and of any questions that answer alike, too.
  pub record CallsAlike : Type 0 where
    pub standard : (pairs : List (A × B)) → StandardAlike (λ a b. In (a, b) pairs)
    pub questions : ListsAlike cmp_a cmp_b
