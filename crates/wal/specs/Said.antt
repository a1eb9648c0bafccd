-- What the answers of the journal say, by the numbers of their causes.
use Rattle.std.specs.Prelude.{ℕ, [], ◌∷◌, Ok, Err, Result}
use Rattle.causes.specs.Said.{Said, refused, granted}
use Rattle.store.specs.Said.{fault as store-fault}
use Rattle.wal.specs.declared.fault.WalFault.{WalFault}
use Rattle.wal.specs.declared.fault.WalFault.TheVariants.{Store, Fenced, WalTruncated, Closed, DataError, InternalError, InvalidSSTBatchSize, InvalidDBState, IdsSpent, Attempts, OutOfOrder, WriterFull, Busy, TicketsSpent, NotReplayed, BlockSize}

-- the number and the values of each cause
abbrev pub fault : WalFault → Said
fault (Store f) = store-fault f
fault (Fenced id) = refused 7 (id ∷ [])
fault (WalTruncated id) = refused 8 (id ∷ [])
fault Closed = refused 9 []
fault (DataError file line place) = refused 10 (file ∷ line ∷ place ∷ [])
fault (InternalError id least greatest) = refused 11 (id ∷ least ∷ greatest ∷ [])
fault (InvalidSSTBatchSize window) = refused 12 (window ∷ [])
fault (InvalidDBState start) = refused 13 (start ∷ [])
fault (IdsSpent id) = refused 14 (id ∷ [])
fault (Attempts id) = refused 15 (id ∷ [])
fault (OutOfOrder line) = refused 16 (line ∷ [])
fault (WriterFull over) = refused 17 (over ∷ [])
fault (Busy tickets requests) = refused 18 (tickets ∷ requests ∷ [])
fault TicketsSpent = refused 19 (65535 ∷ [])
fault (NotReplayed fence) = refused 23 (fence ∷ [])
fault (BlockSize size) = refused 24 (size ∷ [])

-- what an answer of an id and a number of calls says
abbrev pub said_pair : Result (ℕ × ℕ) WalFault → Said
said_pair (Ok p) = granted (p.0 ∷ p.1 ∷ [])
said_pair (Err f) = fault f
