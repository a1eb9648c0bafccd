use Rattle.std.proofs.Common.{length}
use Rattle.script.specs.Scripts.{left}
use Rattle.running.proofs.console.perform.Given as goal

abbrev pub decreases-loop-call : goal.decreases-loop-call
decreases-loop-call g l = length (left l.script)
