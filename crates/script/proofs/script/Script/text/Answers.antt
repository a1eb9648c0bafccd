use Rattle.std.proofs.Common.{rules}
use Rattle.script.proofs.Reading.{body_none, body_more}
use Rattle.script.proofs.script.Script.text.Goals as goal

pub loop-line-init : goal.loop-line-init
loop-line-init c = body_none _

pub loop-line-preserved : goal.loop-line-preserved
loop-line-preserved c =
    let took = c.in-Some.ensures in
    body_more _ _ _ _ _ c.loop-line.invariant took.0 took.1 (search rules)
