-- The widths and the names of a line's numbers.
use Rattle.std.specs.Prelude.{ℕ, ◌-◌, ◌^◌, List, ◌++◌, codes, decimal}
use Rattle.texts.specs.declared.field.Field.{Field}
use Rattle.texts.specs.declared.field.Field.TheVariants.{Places, Number, Level, Run, Size, Created, Linked, Blob, Clock, Ticket, Target, Threshold, Limit, Ttl}

-- a level has 8 bits, a run 16, a threshold 32
abbrev pub bits_of : Field → ℕ
bits_of Places = 64
bits_of Number = 64
bits_of Level = 8
bits_of Run = 16
bits_of Size = 64
bits_of Created = 64
bits_of Linked = 64
bits_of Blob = 64
bits_of Clock = 64
bits_of Ticket = 64
bits_of Target = 64
bits_of Threshold = 32
bits_of Limit = 64
bits_of Ttl = 64

-- the greatest number of that many bits
abbrev pub most_of : Field → ℕ
most_of field = 2 ^ bits_of field - 1

-- its name in the grammar of scripts
abbrev pub field_name : Field → List ℕ
field_name Places = codes "N"
field_name Number = codes "NUMBER"
field_name Level = codes "LEVEL"
field_name Run = codes "RUN"
field_name Size = codes "SIZE"
field_name Created = codes "CREATED"
field_name Linked = codes "LINKED"
field_name Blob = codes "BLOB"
field_name Clock = codes "CLOCK"
field_name Ticket = codes "TICKET"
field_name Target = codes "TARGET"
field_name Threshold = codes "THRESHOLD"
field_name Limit = codes "LIMIT"
field_name Ttl = codes "TTL"

-- what is said of a number that was expected
abbrev pub field_text : Field → List ℕ
field_text field = field_name field ++ (codes ", a decimal number up to " ++ decimal (most_of field))
