-- The row that a buffer holds.
use Rattle.rows.specs.Rows.{Row}
use Rattle.mem_table.specs.declared.buffer.RowBuf.TheInside.{Inside}

abbrev pub held_by : Inside → Row
held_by b = record {
  seq = b.seq;
  kind = b.kind;
  created = b.create_ts;
  expires = b.expire_ts;
  key = b.key;
  value = b.value;
}
