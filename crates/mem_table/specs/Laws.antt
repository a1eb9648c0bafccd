-- What holds of every table, by the promises of its calls alone.
use Rattle.std.specs.Prelude.{◌≡◌, ℕ, ◌≤◌, false, List, length, Some, Ok, Result}
use Rattle.rows.specs.Rows.{Row}
use Rattle.rows.specs.Sizes.{weight, size, total}
use Rattle.mem_table.specs.declared.fault.TableFault.{TableFault}
use Rattle.mem_table.specs.Order.{has}
use Rattle.mem_table.specs.Meaning.{Held, Meaning, Listed}
use Rattle.mem_table.specs.Calls.{Fit, Put}

-- two outcomes of one put agree
abbrev pub OnePut : Type 0
OnePut = (before a b : Meaning) (row : Row) (r s : Result (Unit {0}) TableFault) → Put before a row r → Put before b row s → (r ≡ s) × (a.held ≡ b.held)

-- two orders of the same rows have as many rows, of the same size
abbrev pub OneCount : Type 0
OneCount = (a b : Meaning) → Listed a → Listed b → a.held.rows ≡ b.held.rows → (length a.order ≡ length b.order) × (total size a.order ≡ total size b.order)

-- a row that was put is found under its key and number, and every other row stays
abbrev pub LastStands : Type 0
LastStands =
    (before after : Meaning) (row : Row) → Put before after row (Ok tt)
    → (after.held.rows row.key row.seq ≡ Some row)
    × ((k : List ℕ) (n : ℕ) → has row k n ≡ false → after.held.rows k n ≡ before.held.rows k n)

-- rows fit one behind the other exactly if there is a put for each, and the bytes of all
abbrev pub ExactRoom : Type 0
ExactRoom =
    (h : Held) (rs : List Row)
    → ((length rs ≤ h.puts) × (total weight rs ≤ h.bytes) → Fit h rs)
    × (Fit h rs → (length rs ≤ h.puts) × (total weight rs ≤ h.bytes))
