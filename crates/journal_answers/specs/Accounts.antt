-- The account of the answers.
use Rattle.std.specs.Prelude.{ℕ, ◌+◌, ◌-◌, ◌^◌, min, Bool, true, false, List, ◌++◌, codes, decimal}
use Rattle.printing.specs.Tallies.{counted, no_calls, told_calls}
use Rattle.journal_answers.specs.declared.account.Account.{Account}
use Rattle.journal_answers.specs.declared.account.Part.{Part}
use Rattle.journal_answers.specs.declared.account.Part.TheVariants.{Text, Table, Store, Journal}
use Rattle.journal_answers.specs.declared.answer.Answer.{Answer}
use Rattle.journal_answers.specs.declared.answer.Answer.TheVariants as answer

-- the account before the first call
abbrev pub no_account : Account
no_account = record { texts = no_calls; rows = 0; tables = no_calls; store = no_calls; journal = no_calls; files = 0; bytes = 0 }

abbrev pub is_refused : Answer → Bool
is_refused (answer.Checked k) = false
is_refused answer.Done = false
is_refused (answer.Length n) = false
is_refused (answer.Text n) = false
is_refused (answer.Loaded x) = false
is_refused (answer.Tail id heads) = false
is_refused (answer.Opened fence attempts) = false
is_refused (answer.Asked b) = false
is_refused (answer.Replayed rows size last) = false
is_refused answer.End = false
is_refused (answer.Refused x) = true

abbrev pub checked_rows : Answer → ℕ
checked_rows (answer.Checked k) = k.rows
checked_rows answer.Done = 0
checked_rows (answer.Length n) = 0
checked_rows (answer.Text n) = 0
checked_rows (answer.Loaded x) = 0
checked_rows (answer.Tail id heads) = 0
checked_rows (answer.Opened fence attempts) = 0
checked_rows (answer.Asked b) = 0
checked_rows (answer.Replayed rows size last) = 0
checked_rows answer.End = 0
checked_rows (answer.Refused x) = 0

-- the account after one more answer
abbrev pub noted : Account → Part → Answer → Account
noted a Text x = record { texts = counted a.texts (is_refused x); rows = min (a.rows + checked_rows x) (2 ^ 128 - 1); tables = a.tables; store = a.store; journal = a.journal; files = a.files; bytes = a.bytes }
noted a Table x = record { texts = a.texts; rows = a.rows; tables = counted a.tables (is_refused x); store = a.store; journal = a.journal; files = a.files; bytes = a.bytes }
noted a Store x = record { texts = a.texts; rows = a.rows; tables = a.tables; store = counted a.store (is_refused x); journal = a.journal; files = a.files; bytes = a.bytes }
noted a Journal x = record { texts = a.texts; rows = a.rows; tables = a.tables; store = a.store; journal = counted a.journal (is_refused x); files = a.files; bytes = a.bytes }

-- the account with what the store holds
abbrev pub holding : Account → ℕ → ℕ → Account
holding a f b = record { texts = a.texts; rows = a.rows; tables = a.tables; store = a.store; journal = a.journal; files = f; bytes = b }

-- the account for a person: how many calls there were of each kind, and what the store holds
abbrev pub told_store : Account → List ℕ
told_store a = codes "journal calls: " ++ (told_calls a.journal ++ (codes "\nstore calls: " ++ (told_calls a.store ++ (codes "\nfiles in the store: " ++ (decimal a.files ++ (codes "\nbytes in them: " ++ decimal a.bytes))))))

abbrev pub told : Account → List ℕ
told a =
    codes "account\ntexts checked: " ++ (told_calls a.texts ++ (codes "\nrows in them: " ++ (decimal a.rows
    ++ (codes "\ntables loaded: " ++ (told_calls a.tables ++ (codes "\n" ++ told_store a))))))
