-- States and calls that are equal but for keys, which pair: `R a b` says that a key of one kind pairs with one of another.
use Rattle.std.specs.Prelude.{◌≡◌, ℕ, List, length, Option}
use Rattle.keys.specs.Pairing.{Both}
use Rattle.runs.specs.declared.fresh.Fresh.{Fresh}
use Rattle.runs.specs.declared.table.Table.{Table}
use Rattle.runs.specs.Pairing.{Twin, Fellow}
use Rattle.books.specs.Book.{Question}
use Rattle.books.specs.Deed.{Deed, landing, asking, looking, booking, closing, giving}
use Rattle.books.specs.Job.{Running}
use Rattle.books.specs.State.{State}

module _ {A B : Type 0} (R : A → B → Type 0) where
  -- two states: all is equal but the tables, which pair place by place
  pub data TwinState : State A → State B → Type 0 where
    twin : {room standing blobs : ℕ} {hidden : List ℕ} {slots : List (Option Running)} {ts : List (Table A)} {us : List (Table B)} → Both (Twin R) ts us
        → TwinState
        (record { room = room; standing = standing; blobs = blobs; tables = ts; hidden = hidden; slots = slots })
        (record { room = room; standing = standing; blobs = blobs; tables = us; hidden = hidden; slots = slots })

  -- two questions have one answer on tables that pair
  abbrev pub AnswerAlike : Question A → Question B → Type 0
  AnswerAlike g h = (ts : List (Table A)) (us : List (Table B)) (hidden : List ℕ) → Both (Twin R) ts us → g ts hidden ≡ h us hidden

  -- two calls: id sheets are of one length, whatever they hold
  pub data TwinDeed : Deed A → Deed B → Type 0 where
    landings : {f : Fresh A} {g : Fresh B} → Fellow R f g → TwinDeed (landing f) (landing g)
    askings : {g : Question A} {h : Question B} {ids ids' : List ℕ} → AnswerAlike g h → length ids ≡ length ids' → TwinDeed (asking g ids) (asking h ids')
    lookings : {g : Question A} {h : Question B} {ids ids' : List ℕ} → AnswerAlike g h → length ids ≡ length ids' → TwinDeed (looking g ids) (looking h ids')
    bookings : {g : Question A} {h : Question B} {ids ids' : List ℕ} → AnswerAlike g h → length ids ≡ length ids' → TwinDeed (booking g ids) (booking h ids')
    closings : {n : ℕ} {fs : List (Fresh A)} {gs : List (Fresh B)} → Both (Fellow R) fs gs → TwinDeed (closing n fs) (closing n gs)
    givings : {n : ℕ} → TwinDeed (giving n) (giving n)
