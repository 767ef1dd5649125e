-- What carrying a line out does to the desk, and what it writes.
use Rattle.std.specs.Prelude.{◌≡◌, ℕ, ◌≤◌, List, [], ◌∷◌, ◌++◌, length, Ok, Err, Result, ◌⊎◌, ⊤}
use Rattle.std.specs.declared.cmp.Ordering.{Ordering}
use Rattle.refusals.specs.declared.refusal.Refusal.{Refusal}
use Rattle.keys.specs.ByteKey.{byte_ranks}
use Rattle.keys.specs.StopKey.{stop_ranks}
use Rattle.books.specs.Deed.{landing, asking, looking, booking, closing, giving}
use Rattle.texts.specs.KeyText.{StopWord, ByteWord, stop_text, byte_text}
use Rattle.texts.specs.declared.fault.Fault.{Fault}
use Rattle.texts.specs.declared.fault.Fault.TheVariants as F
use Rattle.texts.specs.Words.{words_of}
use Rattle.scripts.specs.declared.command.Command.{Command}
use Rattle.scripts.specs.declared.command.Command.TheVariants as C
use Rattle.scripts.specs.declared.command.KeyName.{KeyName}
use Rattle.scripts.specs.declared.command.KeyName.TheVariants as N
use Rattle.scripts.specs.declared.command.Line.{Line}
use Rattle.scripts.specs.declared.command.Line.TheVariants as L
use Rattle.scripts.specs.declared.command.Word.{Word}
use Rattle.scripts.specs.Command.{SaysCall, SaysLine}
use Rattle.desk.specs.declared.desk.Desk.{Desk}
use Rattle.desk.specs.declared.desk.Desk.TheVariants.{Stops, Bytes}
use Rattle.desk.specs.declared.histories.History.{History}
use Rattle.desk.specs.Desk.{Refuses}
use Rattle.desk.specs.Calls.{ids_of, asked_of, Makes}
use Rattle.desk.specs.History.{Stands, MayStand, IsFresh, Opens}
use Rattle.desk.specs.Show.{Shows}

-- a text of which P is true is written behind what was there
abbrev pub Appends : List ℕ → List ℕ → (List ℕ → Type 0) → Type 0
Appends before after P = (text : List ℕ) × (after ≡ before ++ text) × P text

-- what holds of a refusal, where a line is refused
abbrev pub OnRefused : Result (Unit {0}) Fault → (Refusal → Type 0) → Type 0
OnRefused (Ok _) P = ⊤
OnRefused (Err (F.Malformed expected)) P = ⊤
OnRefused (Err (F.Refused refusal)) P = P refusal
OnRefused (Err F.Memory) P = ⊤

-- no refusal
abbrev pub NotRefused : Result (Unit {0}) Fault → Type 0
NotRefused result = OnRefused result (λ _. ⊥)

module _ {K : Type 0} (says : List ℕ → Result K Refusal → Type 0) (spelt : K → List ℕ) (cmp : K → K → Ordering) where
  -- the history before and after a command, and what it answers
  abbrev pub Does : Command K → History K → History K → List ℕ → Type 0
  Does (C.Sheet places) h h' text = (length h.sheet.items ≤ places) × Stands h' places h.id_places h.sheet.items h.phase h.outputs.items × (text ≡ [])
  Does (C.Ids places) h h' text = Stands h' h.places places h.sheet.items h.phase h.outputs.items × (text ≡ [])
  Does (C.Table table) h h' text = Stands h' h.places h.id_places (h.sheet.items ++ (table ∷ [])) h.phase h.outputs.items × (text ≡ [])
  Does (C.Open blobs) h h' text = Opens cmp blobs h h' text
  Does (C.Land table) h h' text = Makes cmp (λ st. landing table) h.outputs.items h h' text
  Does (C.Propose question) h h' text = Makes cmp (λ st. asking (asked_of cmp question st) (ids_of h)) h.outputs.items h h' text
  Does (C.LookAhead question) h h' text = Makes cmp (λ st. looking (asked_of cmp question st) (ids_of h)) h.outputs.items h h' text
  Does (C.Book question) h h' text = Makes cmp (λ st. booking (asked_of cmp question st) (ids_of h)) h.outputs.items h h' text
  Does (C.Output table) h h' text = Stands h' h.places h.id_places h.sheet.items h.phase (h.outputs.items ++ (table ∷ [])) × (text ≡ [])
  Does (C.Close ticket) h h' text = Makes cmp (λ st. closing ticket h.outputs.items) [] h h' text
  Does (C.GiveUp ticket) h h' text = Makes cmp (λ st. giving ticket) h.outputs.items h h' text
  Does C.Show h h' text = (h' ≡ h) × Shows spelt h text

  -- a first word, which may stand, and the words behind it say a command, and it is carried out
  pub record CarriesCall (word : Word) (words : List (List ℕ)) (h h' : History K) (text : List ℕ) : Type 0 where
    pub stands : MayStand h word
    pub command : Command K
    pub said : SaysCall says word words (Ok command)
    pub does : Does command h h' text

-- a fresh history of a kind of keys
abbrev pub Starts : KeyName → Desk → Type 0
Starts N.Stop (Stops h) = IsFresh h
Starts N.Bytes (Bytes h) = IsFresh h
Starts _ _ = ⊥

-- the desk before and after a line, and what it answers
abbrev pub CarriesLine : Line → Desk → Desk → List ℕ → Type 0
CarriesLine L.Blank desk desk' text = (desk' ≡ desk) × (text ≡ [])
CarriesLine (L.Keys name) desk desk' text = Starts name desk' × (text ≡ [])
CarriesLine (L.Call word words) (Stops h) (Stops h') text = CarriesCall StopWord stop_text stop_ranks word words h h' text
CarriesLine (L.Call word words) (Bytes h) (Bytes h') text = CarriesCall ByteWord byte_text byte_ranks word words h h' text
CarriesLine _ _ _ _ = ⊥

-- a text says a line, and it is carried out
pub record CarriesOut (line : List ℕ) (desk desk' : Desk) (text : List ℕ) : Type 0 where
  pub said : Line
  pub reads : SaysLine (words_of line) said
  pub does : CarriesLine said desk desk' text

-- a key of the line is refused
abbrev pub RefusesKey : Line → Desk → Refusal → Type 0
RefusesKey (L.Call word words) (Stops h) refusal = MayStand h word × SaysCall StopWord word words (Err refusal)
RefusesKey (L.Call word words) (Bytes h) refusal = MayStand h word × SaysCall ByteWord word words (Err refusal)
RefusesKey _ _ _ = ⊥

-- a text says a line, and a key of the line is refused
pub record IsRefused (line : List ℕ) (desk : Desk) (refusal : Refusal) : Type 0 where
  pub said : Line
  pub reads : SaysLine (words_of line) said
  pub refuses : RefusesKey said desk refusal

-- a line is carried out, or a key of it is refused: then the line of that refusal is written, and nothing else is done
abbrev pub Answers : List ℕ → List ℕ → List ℕ → Desk → Desk → Type 0
Answers before after line desk desk' =
    Appends before after (CarriesOut line desk desk') ⊎ ((desk' ≡ desk) × Appends before after (λ text. (refusal : Refusal) × IsRefused line desk refusal × Refuses refusal text))
