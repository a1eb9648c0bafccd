use Rattle.std.proofs.Common.{vec_items}
use Rattle.script.specs.Words.{listed}
use Rattle.store_setup.proofs.Marking.{SoFar}
use Rattle.store_setup.proofs.marks.marks_of.Given as goal

abbrev pub invariant-loop-word : goal.invariant-loop-word
invariant-loop-word l = SoFar (listed l.words) (vec_items l.marks) (listed l.word-iterator)
