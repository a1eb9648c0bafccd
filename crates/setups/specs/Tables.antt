-- What a table of either kind means.
use Rattle.mem_table.specs.Meaning.{Meaning}
use Rattle.tables.specs.Tables as table
use Rattle.setups.specs.declared.fresh_table.AnyTable.{AnyTable}
use Rattle.setups.specs.declared.fresh_table.AnyTable.TheVariants.{Sorted, Log}

abbrev pub table_means : AnyTable → Meaning
table_means (Sorted t) = table.table_means t
table_means (Log t) = table.table_means t
