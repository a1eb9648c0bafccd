use Rattle.std.proofs.Common.{length}
use Rattle.script.specs.Scripts.{rest}
use Rattle.script.proofs.Reading.{Begun}
use Rattle.script.proofs.script.Script.text.Given as goal

abbrev pub invariant-loop-line : goal.invariant-loop-line
invariant-loop-line l = Begun l.initial.self l.self l.long

abbrev pub decreases-loop-line : goal.decreases-loop-line
decreases-loop-line l = length (rest l.self)
