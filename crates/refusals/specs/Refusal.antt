-- The number, layer and place of each refusal.
use Rattle.std.specs.Prelude.{ℕ}
use Rattle.refusals.specs.declared.refusal.Refusal.{Refusal}
use Rattle.refusals.specs.declared.refusal.Refusal.TheVariants.{NotSound, NoSuchJob, BadTable, BadOutputs, Full, BadSetting, ManyRuns, HiddenTable, IdsTooShort, NamesNoTable, AlreadyHidden, SpanTaken, BookFull, KeyTooLong}
use Rattle.refusals.specs.declared.refusal.Layer.{Layer}
use Rattle.refusals.specs.declared.refusal.Layer.TheVariants.{Book, Strategy, Table, Key}

-- refusals are numbered from 1 to 14
abbrev pub number_of : Refusal → ℕ
number_of NotSound = 1
number_of NoSuchJob = 2
number_of (BadTable at) = 3
number_of (BadOutputs at) = 4
number_of Full = 5
number_of BadSetting = 6
number_of ManyRuns = 7
number_of (HiddenTable at) = 8
number_of IdsTooShort = 9
number_of NamesNoTable = 10
number_of (AlreadyHidden at) = 11
number_of SpanTaken = 12
number_of BookFull = 13
number_of KeyTooLong = 14

-- the layer that refuses
abbrev pub layer_of : Refusal → Layer
layer_of NotSound = Book
layer_of NoSuchJob = Book
layer_of (BadTable at) = Table
layer_of (BadOutputs at) = Book
layer_of Full = Table
layer_of BadSetting = Strategy
layer_of ManyRuns = Strategy
layer_of (HiddenTable at) = Strategy
layer_of IdsTooShort = Book
layer_of NamesNoTable = Book
layer_of (AlreadyHidden at) = Book
layer_of SpanTaken = Book
layer_of BookFull = Book
layer_of KeyTooLong = Key

-- the place at fault; a key that is too long is at fault behind its 32 bytes; 0 where there is no place
abbrev pub place_of : Refusal → ℕ
place_of NotSound = 0
place_of NoSuchJob = 0
place_of (BadTable at) = at
place_of (BadOutputs at) = at
place_of Full = 0
place_of BadSetting = 0
place_of ManyRuns = 0
place_of (HiddenTable at) = at
place_of IdsTooShort = 0
place_of NamesNoTable = 0
place_of (AlreadyHidden at) = at
place_of SpanTaken = 0
place_of BookFull = 0
place_of KeyTooLong = 32

-- a layer's letter, by its code: J, S, T, K
abbrev pub letter_of : Layer → ℕ
letter_of Book = 74
letter_of Strategy = 83
letter_of Table = 84
letter_of Key = 75
