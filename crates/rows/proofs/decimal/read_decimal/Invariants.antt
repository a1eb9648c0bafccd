use Rattle.std.proofs.Common.{take}
use Rattle.rows.proofs.DecimalLaws.{SoFar}
use Rattle.rows.proofs.decimal.read_decimal.Given as goal

abbrev pub invariant-loop-i : goal.invariant-loop-i
invariant-loop-i l = SoFar l.low l.top (take l.i l.text) l.n
