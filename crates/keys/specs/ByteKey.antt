-- The order of byte keys: byte by byte, a prefix first.
use Rattle.std.specs.Prelude.{ℕ, List}
use Rattle.std.specs.declared.cmp.Ordering.{Ordering}
use Rattle.std.specs.Ordering.{nat_cmp}
use Rattle.std.specs.Cmp.Lexicographic.{slice_cmp}
use Rattle.keys.specs.declared.byte_key.ByteKey.{ByteKey}

-- The first bytes that differ decide; where one string ends first, it is before.
abbrev pub lex : List ℕ → List ℕ → Ordering
lex = slice_cmp nat_cmp

-- byte keys go by their bytes
abbrev pub byte_ranks : ByteKey → ByteKey → Ordering
byte_ranks = lex
