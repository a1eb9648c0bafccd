use Rattle.std.proofs.Common.{Result}
use Rattle.console.specs.declared.options.Changes.{Changes}
use Rattle.script.specs.declared.reason.Reason.{Reason}
use Rattle.console.specs.Settings.{Changed, none}
use Rattle.script.specs.Words.{listed}
use Rattle.console.proofs.options.changes_of.Given as goal

abbrev pub invariant-loop-word : goal.invariant-loop-word
invariant-loop-word l = (r : Result Changes Reason) → Changed (listed l.word-iterator) l.changes r → Changed (listed l.words) none r
