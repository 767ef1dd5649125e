-- What is said of a line that was not carried out.
use Rattle.std.specs.Prelude.{ℕ, List, ◌++◌, codes, decimal}
use Rattle.refusals.specs.Refusal.{number_of}
use Rattle.texts.specs.declared.fault.Expected.{Expected}
use Rattle.texts.specs.declared.fault.Expected.TheVariants.{Word, KeyName, Number, Key, StopKey, ByteKey, Bound, Ratio, Strategy, End, Keys, OpenBook, NoBook, Place}
use Rattle.texts.specs.declared.fault.Fault.{Fault}
use Rattle.texts.specs.declared.fault.Fault.TheVariants.{Malformed, Refused, Memory}
use Rattle.texts.specs.Field.{field_text}

-- what was expected
abbrev pub expected_text : Expected → List ℕ
expected_text Word = codes "a word of the script's, as table or propose"
expected_text KeyName = codes "stop or bytes"
expected_text (Number field) = field_text field
expected_text Key = codes "a key"
expected_text StopKey = codes "a stop key TOUR:STOP, two decimal numbers below 2^32"
expected_text ByteKey = codes "a byte key, two hex digits for each byte, or - for the empty key"
expected_text Bound = codes "a bound, * or [KEY or (KEY"
expected_text Ratio = codes "a ratio, a decimal as 10.0 or its bits as 0x41200000"
expected_text Strategy = codes "a strategy: leveled, fifo, major or drop-range"
expected_text End = codes "no further word on the line"
expected_text Keys = codes "a keys line before any other word"
expected_text OpenBook = codes "an open line before this word"
expected_text NoBook = codes "this word before the open line"
expected_text Place = codes "no more tables than the sheet has places"

-- why the line was not carried out
abbrev pub fault_text : Fault → List ℕ
fault_text (Malformed expected) = codes "expected " ++ expected_text expected
fault_text (Refused refusal) = codes "refused " ++ decimal (number_of refusal)
fault_text Memory = codes "there is no memory left"
