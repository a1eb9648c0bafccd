use Rattle.mem_table.proofs.Counting.{one_count}
use Rattle.mem_table.proofs.TableLaws.{one_put, last_stands, exact_room}
use Rattle.mem_table.proofs.laws.table_stands.Goals as goal

pub returns : goal.returns
returns c = record { one_put = one_put; one_count = one_count; last = last_stands; room = exact_room }
