-- How large rows are, and the texts of tables that would hold them.
use Rattle.std.specs.Prelude.{ℕ, ◌+◌, ◌-◌, ◌*◌, ◌/◌, cond, List, [], ◌∷◌, length, ℤ, Some, None, Option, ◌==◌}
use Rattle.rows.specs.Rows.{Row}

-- the bytes of key and value: two digits each
abbrev pub weight : Row → ℕ
weight r = length r.key / 2 + length r.value / 2

abbrev pub tick_size : Option ℤ → ℕ
tick_size None = 0
tick_size (Some t) = 8

-- key, value, the number, and each tick that is there
abbrev pub size : Row → ℕ
size r = weight r + 8 + tick_size r.created + tick_size r.expires

abbrev pub total : (Row → ℕ) → List Row → ℕ
total f [] = 0
total f (r ∷ rs) = f r + total f rs

-- how many blocks n rows of size s take
abbrev pub blocks : ℕ → ℕ → ℕ → ℕ
blocks n s block = (s + 9 * n + (block - 1)) / block

-- a table of n rows of size s, with so many bytes for each block and so many at its end
abbrev pub encoded_size : ℕ → ℕ → ℕ → ℕ → ℕ → ℕ
encoded_size for_block at_end n s block = cond (n == 0) 0 (s + 11 * n + for_block * blocks n s block + at_end)

-- the estimates of the table that n rows of size s would make
abbrev pub wal_size : ℕ → ℕ → ℕ → ℕ
wal_size = encoded_size 14 85

abbrev pub compacted_size : ℕ → ℕ → ℕ → ℕ
compacted_size = encoded_size 24 137
