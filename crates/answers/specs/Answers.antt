-- What is printed of the answers, and the account of them.
use Rattle.std.specs.Prelude.{ℕ, ◌+◌, ◌-◌, ◌^◌, min, Bool, true, false, List, ◌++◌, is_err, Ok, Err, codes, decimal, Result}
use Rattle.row_text.specs.declared.fault.CheckFault.{CheckFault}
use Rattle.row_text.specs.declared.fault.CheckFault.TheVariants.{Damaged, BlockSize}
use Rattle.row_text.specs.declared.text.Checked.{Checked}
use Rattle.answers.specs.declared.answer.Answer.{Answer}
use Rattle.answers.specs.declared.answer.Answer.TheVariants.{Check, Put, Head, Read}
use Rattle.store.specs.declared.fault.StoreFault.{StoreFault}
use Rattle.store.specs.declared.fault.StoreFault.TheVariants.{Exists, Missing, NoRoom, TooLong, Short, Unavailable}
use Rattle.store.specs.Said.{fault}
use Rattle.printing.specs.Tallies.{no_calls}
use Rattle.printing.specs.Tallies as tallies
use Rattle.answers.specs.declared.account.Account.{Account}

-- what a text holds, or the number and name of the cause that refused it
abbrev pub verdict : Result Checked CheckFault → List ℕ
verdict (Ok k) = codes "rows " ++ (decimal k.rows ++ (codes " size " ++ (decimal k.size ++ (codes " wal " ++ (decimal k.wal ++ (codes " compacted " ++ decimal k.compacted))))))
verdict (Err (Damaged d)) = codes "refused 10 DataError 0 " ++ (decimal d.line ++ (codes " " ++ decimal d.place))
verdict (Err (BlockSize n)) = codes "refused 24 BlockSize " ++ decimal n

-- the names of a store's causes
abbrev pub name : StoreFault → List ℕ
name (Exists id) = codes "Exists"
name (Missing id) = codes "Missing"
name (NoRoom id) = codes "NoRoom"
name (TooLong id) = codes "TooLong"
name (Short n) = codes "Short"
name (Unavailable id) = codes "Unavailable"

-- the value that each returns
abbrev pub value : StoreFault → ℕ
value (Exists id) = id
value (Missing id) = id
value (NoRoom id) = id
value (TooLong id) = id
value (Short n) = n
value (Unavailable id) = id

-- a store's refusal, by number, name and value
abbrev pub refusal : StoreFault → List ℕ
refusal f = codes "refused " ++ (decimal (fault f).number ++ (codes " " ++ (name f ++ (codes " " ++ decimal (value f)))))

abbrev pub measured : Result ℕ StoreFault → List ℕ
measured (Ok n) = codes "length " ++ decimal n
measured (Err f) = refusal f

-- a call's line without its text, and the answer
abbrev pub answered : Answer → List ℕ
answered (Check r) = codes "check -> " ++ verdict r
answered (Put id (Ok u)) = codes "put " ++ (decimal id ++ codes " -> ok")
answered (Put id (Err f)) = codes "put " ++ (decimal id ++ (codes " -> " ++ refusal f))
answered (Head id r) = codes "head " ++ (decimal id ++ (codes " -> " ++ measured r))
answered (Read id r) = codes "read " ++ (decimal id ++ (codes " -> " ++ measured r))

-- the account before the first call
abbrev pub no_account : Account
no_account = record { texts = no_calls; rows = 0; store = no_calls; files = 0; bytes = 0 }

-- a store's call, refused or not
abbrev pub counted : Account → Bool → Account
counted a denied = record { texts = a.texts; rows = a.rows; store = tallies.counted a.store denied; files = a.files; bytes = a.bytes }

-- the account after one more answer
abbrev pub noted : Account → Answer → Account
noted a (Check (Ok k)) = record { texts = tallies.counted a.texts false; rows = min (a.rows + k.rows) (2 ^ 128 - 1); store = a.store; files = a.files; bytes = a.bytes }
noted a (Check (Err f)) = record { texts = tallies.counted a.texts true; rows = a.rows; store = a.store; files = a.files; bytes = a.bytes }
noted a (Put id r) = counted a (is_err r)
noted a (Head id r) = counted a (is_err r)
noted a (Read id r) = counted a (is_err r)

-- the account with what the store holds
abbrev pub holding : Account → ℕ → ℕ → Account
holding a f b = record { texts = a.texts; rows = a.rows; store = a.store; files = f; bytes = b }

-- the account for a person: what was checked, and what was asked of the store and is held there
abbrev pub told_texts : Account → List ℕ
told_texts a = codes "texts checked: " ++ (decimal a.texts.calls ++ (codes "\nrows in them: " ++ (decimal a.rows ++ (codes "\ntexts refused: " ++ decimal a.texts.refused))))

abbrev pub told_store : Account → List ℕ
told_store a =
    codes "store calls: " ++ (decimal a.store.calls ++ (codes "\nstore calls refused: " ++ (decimal a.store.refused
    ++ (codes "\nfiles in the store: " ++ (decimal a.files ++ (codes "\nbytes in them: " ++ decimal a.bytes))))))

abbrev pub told : Account → List ℕ
told a = codes "account\n" ++ (told_texts a ++ (codes "\n" ++ told_store a))
