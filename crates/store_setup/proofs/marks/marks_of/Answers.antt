use Rattle.std.proofs.Common.{subst}
use Rattle.store_setup.proofs.Marking.{SoFar, mark_end}
use Rattle.store_setup.proofs.marks.marks_of.Goals as goal

pub returns : goal.returns
returns c = mark_end _ _ (subst (SoFar _ _) c.in-None.ensures.steps.0 c.loop-word.invariant)
