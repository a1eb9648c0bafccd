-- What each call of a table answers and leaves.
use Rattle.std.specs.Prelude.{◌≡◌, ℕ, ◌<◌, ◌≤◌, Bool, true, false, cond, ◌||◌, List, [], ◌∷◌, length, Result, ◌==◌, nat_lt, slice_index_or}
use Rattle.rows.specs.Rows.{Row}
use Rattle.rows.specs.Sizes.{weight, size, total}
use Rattle.mem_table.specs.declared.fault.TableFault.{TableFault}
use Rattle.causes.specs.Said.{Said, refused, granted}
use Rattle.mem_table.specs.Said.{said}
use Rattle.mem_table.specs.Order.{no_row}
use Rattle.mem_table.specs.Meaning.{Held, Meaning, Listed, added}

-- there is no put left, or fewer bytes than key and value have
abbrev pub lacks : Held → Row → Bool
lacks h r = nat_lt h.puts 1 || nat_lt h.bytes (weight r)

-- each row finds room behind those before it
abbrev pub Fit : Held → List Row → Type 0
Fit h [] = Unit {0}
Fit h (r ∷ rs) = (lacks h r ≡ false) × Fit (added h r) rs

abbrev pub put_says : Held → Row → Said
put_says h r = cond (lacks h r) (refused 3 (r.seq ∷ [])) (granted [])

abbrev pub put_leaves : Held → Row → Held
put_leaves h r = cond (lacks h r) h (added h r)

-- `put`: the answer, and what is held after it; a refusal leaves the order too
pub record Put (before after : Meaning) (row : Row) (r : Result (Unit {0}) TableFault) : Type 0 where
  pub answer : said r ≡ put_says before.held row
  pub held : after.held ≡ put_leaves before.held row
  pub order : lacks before.held row ≡ true → after.order ≡ before.order
  pub listed_before : Listed before
  pub listed : Listed after

-- `metadata`: how many rows, and the sum of their sizes
pub record Metadata (m : Meaning) (r : ℕ × ℕ) : Type 0 where
  pub count : r.0 ≡ length m.order
  pub size : r.1 ≡ total size m.order
  pub listed : Listed m

-- `room`: the puts and the bytes left
pub record Room (m : Meaning) (r : ℕ × ℕ) : Type 0 where
  pub puts : r.0 ≡ m.held.puts
  pub bytes : r.1 ≡ m.held.bytes
  pub listed : Listed m

-- `is_empty`: whether there is no row
pub record Empty (m : Meaning) (r : Bool) : Type 0 where
  pub answer : r ≡ (length m.order == 0)
  pub listed : Listed m

-- `nth`: the row at a place of the order; where there is none the buffer stays as it was
pub record Nth (m : Meaning) (i : ℕ) (before after : Row) (r : Bool) : Type 0 where
  pub answer : r ≡ nat_lt i (length m.order)
  pub row : i < length m.order → after ≡ slice_index_or m.order i no_row
  pub none : length m.order ≤ i → after ≡ before
  pub listed : Listed m
