-- Why a line is not performed.
use Rattle.script.specs.declared.hex.TextFault.{TextFault}
use Rattle.script.specs.declared.hex.TextFault.TheVariants.{NotHex, NoMemory}
use Rattle.script.specs.declared.reason.Reason.TheVariants as reason
use Rattle.store_setup.specs.declared.stop.Stop.{Stop}
use Rattle.store_setup.specs.declared.stop.Stop.TheVariants as stop

-- why a line is not performed whose text cannot be had
abbrev pub stopped : TextFault → Stop
stopped NotHex = stop.Script reason.NotHex
stopped NoMemory = stop.NoMemory
