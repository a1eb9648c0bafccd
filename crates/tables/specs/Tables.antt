-- What a table means.
use Rattle.std.specs.Prelude.{ℕ, List, Result}
use Rattle.rows.specs.Rows.{Row}
use Rattle.mem_table.specs.declared.fault.TableFault.{TableFault}
use Rattle.tables.specs.declared.table.RowTable.{RowTable}
use Rattle.mem_table.specs.Meaning.{Meaning}
use Rattle.tables.specs.Shelves.{ComesLast, rows_of, shelf_means}

abbrev pub table_means : {log : ℕ} → RowTable log → Meaning
table_means t = shelf_means t.shelf

-- the rows of all slots; in a log, every row that came, in the order of arrival
abbrev pub arrivals : {log : ℕ} → RowTable log → List Row
arrivals t = rows_of t.shelf

-- `put` on a log: a row that is taken comes last, and a refused one is not kept
abbrev pub Logged : {log : ℕ} → RowTable log → RowTable log → Row → Result (Unit {0}) TableFault → Type 0
Logged before after = ComesLast before.shelf after.shelf
