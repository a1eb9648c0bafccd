-- What the answers of a replay say, by the numbers of their causes.
use Rattle.std.specs.Prelude.{[], ◌∷◌, Ok, Err, Result}
use Rattle.causes.specs.Said.{Said, refused, granted}
use Rattle.wal.specs.Said.{fault as wal-fault}
use Rattle.wal_replay.specs.declared.fault.ReplayFault.{ReplayFault}
use Rattle.wal_replay.specs.declared.fault.ReplayFault.TheVariants.{Wal, TableInUse, TableFull}

-- the number and the values of each cause
abbrev pub fault : ReplayFault → Said
fault (Wal f) = wal-fault f
fault (TableInUse rows) = refused 21 (rows ∷ [])
fault (TableFull id) = refused 22 (id ∷ [])

-- what an answer without a value says: the end is no refusal
abbrev pub said : Result (Unit {0}) ReplayFault → Said
said (Ok u) = granted []
said (Err f) = fault f
