-- The row that an entry stands for.
use Rattle.rows.specs.declared.entry.RowEntry.{RowEntry}
use Rattle.rows.specs.Rows.{Row, row}

abbrev pub row_of : RowEntry → Row
row_of e = row e.seq e.create_ts e.expire_ts e.key.now e.value
