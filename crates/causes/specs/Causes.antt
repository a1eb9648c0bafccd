-- The causes by number and name, and refusals as they are printed.
use Rattle.std.specs.Prelude.{ℕ, List, [], ◌∷◌, ◌++◌, codes, decimal}
use Rattle.causes.specs.declared.cause.Cause.{Cause}
use Rattle.causes.specs.declared.cause.Cause.TheVariants.{Exists, Missing, NoRoom, TooLong, Short, Unavailable, Fenced, WalTruncated, Closed, DataError, InternalError, InvalidSSTBatchSize, InvalidDBState, IdsSpent, Attempts, OutOfOrder, WriterFull, Busy, TicketsSpent, NotMine, TableInUse, TableFull, NotReplayed, BlockSize}
use Rattle.causes.specs.declared.refusal.Refusal.{Refusal}
use Rattle.causes.specs.declared.refusal.Values.{Values}
use Rattle.causes.specs.declared.refusal.Values.TheVariants as values
use Rattle.causes.specs.Said.{Said, refused}

abbrev pub number : Cause → ℕ
number Exists = 1
number Missing = 2
number NoRoom = 3
number TooLong = 4
number Short = 5
number Unavailable = 6
number Fenced = 7
number WalTruncated = 8
number Closed = 9
number DataError = 10
number InternalError = 11
number InvalidSSTBatchSize = 12
number InvalidDBState = 13
number IdsSpent = 14
number Attempts = 15
number OutOfOrder = 16
number WriterFull = 17
number Busy = 18
number TicketsSpent = 19
number NotMine = 20
number TableInUse = 21
number TableFull = 22
number NotReplayed = 23
number BlockSize = 24

abbrev pub name : Cause → List ℕ
name Exists = codes "Exists"
name Missing = codes "Missing"
name NoRoom = codes "NoRoom"
name TooLong = codes "TooLong"
name Short = codes "Short"
name Unavailable = codes "Unavailable"
name Fenced = codes "Fenced"
name WalTruncated = codes "WalTruncated"
name Closed = codes "Closed"
name DataError = codes "DataError"
name InternalError = codes "InternalError"
name InvalidSSTBatchSize = codes "InvalidSSTBatchSize"
name InvalidDBState = codes "InvalidDBState"
name IdsSpent = codes "IdsSpent"
name Attempts = codes "Attempts"
name OutOfOrder = codes "OutOfOrder"
name WriterFull = codes "WriterFull"
name Busy = codes "Busy"
name TicketsSpent = codes "TicketsSpent"
name NotMine = codes "NotMine"
name TableInUse = codes "TableInUse"
name TableFull = codes "TableFull"
name NotReplayed = codes "NotReplayed"
name BlockSize = codes "BlockSize"

abbrev pub listed : Values → List ℕ
listed values.None = []
listed (values.One a) = a ∷ []
listed (values.Two a b) = a ∷ b ∷ []
listed (values.Three a b c) = a ∷ b ∷ c ∷ []

-- what a refusal says
abbrev pub says : Refusal → Said
says r = refused (number r.cause) (listed r.values)

-- each value behind a space
abbrev pub shown_values : Values → List ℕ
shown_values values.None = []
shown_values (values.One a) = codes " " ++ decimal a
shown_values (values.Two a b) = codes " " ++ (decimal a ++ (codes " " ++ decimal b))
shown_values (values.Three a b c) = codes " " ++ (decimal a ++ (codes " " ++ (decimal b ++ (codes " " ++ decimal c))))

-- number, name and values
abbrev pub told : Refusal → List ℕ
told r = decimal (number r.cause) ++ (codes " " ++ (name r.cause ++ shown_values r.values))
