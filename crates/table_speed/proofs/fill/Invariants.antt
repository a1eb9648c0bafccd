use Rattle.std.proofs.Common.{◌≡◌, ◌-◌, length}
use Rattle.table_speed.proofs.fill.Given as goal

abbrev pub invariant-loop-table : goal.invariant-loop-table
invariant-loop-table g l = l.reader.text.now ≡ l.text

abbrev pub decreases-loop-table : goal.decreases-loop-table
decreases-loop-table g l = length l.text - l.reader.place
