use Rattle.std.proofs.Common.{◌≡◌, ◌++◌, take, string_bytes}
use Rattle.desk.specs.Desk.{table_lines}
use Rattle.desk.proofs.show.write_tables.Given as goal

abbrev pub invariant-loop-table : goal.invariant-loop-table
invariant-loop-table g l = string_bytes l.out ≡ string_bytes l.initial.out ++ table_lines g.K.KeyText.spelt (take l.table-index l.tables)
