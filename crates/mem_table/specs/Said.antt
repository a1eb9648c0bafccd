-- What the answers of a table say, by the numbers of their causes.
use Rattle.std.specs.Prelude.{[], ◌∷◌, Ok, Err, Result}
use Rattle.causes.specs.Said.{Said, refused, granted}
use Rattle.mem_table.specs.declared.fault.TableFault.{TableFault}
use Rattle.mem_table.specs.declared.fault.TableFault.TheVariants.{NoRoom}

-- the number and the values of each cause
abbrev pub fault : TableFault → Said
fault (NoRoom n) = refused 3 (n ∷ [])

-- what an answer without a value says
abbrev pub said : Result (Unit {0}) TableFault → Said
said (Ok u) = granted []
said (Err f) = fault f
