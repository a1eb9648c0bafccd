-- The order in which the tables keep their rows: by key, and of one key the greater number first.
use Rattle.std.specs.Prelude.{◌≡◌, ℕ, ◌<◌, ◌≤◌, Bool, true, false, cond, List, length, get_or, nat_lt, slice_index_or}
use Rattle.std.specs.declared.cmp.Ordering.{Ordering}
use Rattle.std.specs.Ordering.{nat_cmp, ordering_then}
use Rattle.std.specs.Cmp.Lexicographic.{slice_cmp}
use Rattle.rows.specs.Rows.{Row}
use Rattle.mem_table.specs.Order.{no_row, below}

-- which comes first, key k with number m or key l with number n
abbrev pub rank_of : List ℕ → ℕ → List ℕ → ℕ → Ordering
rank_of k m l n = ordering_then (slice_cmp nat_cmp k l) (nat_cmp n m)

-- key k with number m comes before key l with number n: by key, then the greater number first
abbrev pub ahead : List ℕ → ℕ → List ℕ → ℕ → Bool
ahead k m l n = cond (below k l) true (cond (below l k) false (nat_lt n m))

abbrev pub Precedes : Row → Row → Type 0
Precedes r s = ahead r.key r.seq s.key s.seq ≡ true

-- each row precedes each later one
abbrev pub Ascending : List Row → Type 0
Ascending rs = (i j : ℕ) → (i < j) × (j < length rs) → Precedes (slice_index_or rs i no_row) (slice_index_or rs j no_row)

-- the row of key k and number n stands at place i
pub record At (rs : List Row) (k : List ℕ) (n i : ℕ) : Type 0 where
  pub bound : i < length rs
  pub key : (get_or rs i no_row).key ≡ k
  pub seq : (get_or rs i no_row).seq ≡ n

-- the rows below place i come before key k and number n
abbrev pub Front : List Row → List ℕ → ℕ → ℕ → Type 0
Front rs k n i = (j : ℕ) → j < i → ahead (get_or rs j no_row).key (get_or rs j no_row).seq k n ≡ true

-- the rows from place i on come after key k and number n
abbrev pub Back : List Row → List ℕ → ℕ → ℕ → Type 0
Back rs k n i = (j : ℕ) → i ≤ j → j < length rs → ahead k n (get_or rs j no_row).key (get_or rs j no_row).seq ≡ true

-- a row of key k and number n would stand at place i
pub record Between (rs : List Row) (k : List ℕ) (n i : ℕ) : Type 0 where
  pub bound : i ≤ length rs
  pub front : Front rs k n i
  pub back : Back rs k n i
