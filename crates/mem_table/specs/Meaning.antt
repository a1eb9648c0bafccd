-- What a table means: its rows by key and number, the room left, and an enumeration of the rows.
use Rattle.std.specs.Prelude.{◌≡◌, ℕ, ◌+◌, ◌-◌, ◌<◌, ◌≤◌, min, false, cond, List, [], ◌∷◌, length, get_or, Some, None, Option, slice_index_or}
use Rattle.rows.specs.Rows.{Row}
use Rattle.rows.specs.Sizes.{weight, total}
use Rattle.mem_table.specs.Order.{no_row, below, has}

-- what a table holds: rows by key and number, puts left, bytes left
pub record Held : Type 0 where
  pub rows : List ℕ → ℕ → Option Row
  pub puts : ℕ
  pub bytes : ℕ

pub record Meaning : Type 0 where
  pub held : Held
  pub order : List Row

-- the row of a key and number in an enumeration
abbrev pub lookup : List Row → List ℕ → ℕ → Option Row
lookup [] k n = None
lookup (r ∷ rs) k n = cond (has r k n) (Some r) (lookup rs k n)

-- the order enumerates the rows, each once, their keys ascending; rows and room keep the limits
pub record Listed (m : Meaning) : Type 0 where
  pub rows : m.held.rows ≡ lookup m.order
  pub ascends : (i j : ℕ) → i < j → j < length m.order → below (get_or m.order j no_row).key (get_or m.order i no_row).key ≡ false
  pub once : (i j : ℕ) → i < j → j < length m.order → has (slice_index_or m.order i no_row) (get_or m.order j no_row).key (get_or m.order j no_row).seq ≡ false
  pub count : length m.order + m.held.puts ≤ 65536
  pub weighs : total weight m.order + m.held.bytes ≤ 16777216

-- the same rows with one put over them
abbrev pub with_row : (List ℕ → ℕ → Option Row) → Row → List ℕ → ℕ → Option Row
with_row rows r k n = cond (has r k n) (Some r) (rows k n)

-- what is held with one row put: a put and the bytes of key and value are taken, whether a row was replaced or not
abbrev pub added : Held → Row → Held
added h r = record { rows = with_row h.rows r; puts = h.puts - 1; bytes = h.bytes - weight r }

-- what is held with rows put, one behind the other
abbrev pub all_added : Held → List Row → Held
all_added h [] = h
all_added h (r ∷ rs) = all_added (added h r) rs

-- what a table without rows means, made with that room and cut to the limits
abbrev pub empty : ℕ → ℕ → Meaning
empty puts bytes = record {
  held = record { rows = λ k n. None; puts = min puts 65536; bytes = min bytes 16777216 };
  order = [];
}
