-- Why a run ends early.
use Rattle.std.specs.Prelude.{ℕ}
use Rattle.running.specs.declared.failure.Failure.{Failure}
use Rattle.running.specs.declared.failure.Failure.TheVariants as failure
use Rattle.store_setup.specs.declared.stop.Stop.{Stop}
use Rattle.store_setup.specs.declared.stop.Stop.TheVariants.{Script, NoMemory}

-- a line that is not performed, by its number
abbrev pub failed : ℕ → Stop → Failure
failed n (Script reason) = failure.Script (record { line = n; reason = reason })
failed n NoMemory = failure.NoMemory
