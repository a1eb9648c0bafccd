use Rattle.std.proofs.Common.{Result}
use Rattle.commands.specs.declared.options.Options.{Options}
use Rattle.script.specs.declared.reason.Reason.{Reason}
use Rattle.commands.specs.Settings.{Changed}
use Rattle.script.specs.Words.{listed}
use Rattle.commands.proofs.options.Options.changed.Given as goal

abbrev pub invariant-loop-word : goal.invariant-loop-word
invariant-loop-word l = (r : Result Options Reason) → Changed (listed l.word-iterator) l.options r → Changed (listed l.words) l.initial.options r
