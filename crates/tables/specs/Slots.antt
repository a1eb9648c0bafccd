-- Rows that slots cut out of a text of digits.
use Rattle.std.specs.Prelude.{◌≡◌, ℕ, ◌+◌, ◌*◌, ◌%◌, ◌^◌, ◌<◌, ◌≤◌, true, List, map, length, take, drop, Some, None, Option, slice_index, slice_index_or}
use Rattle.rows.specs.declared.types.Kind.TheVariants.{Value}
use Rattle.rows.specs.Rows.{Row, hex_digit, fits, room}
use Rattle.rows.specs.Sizes.{weight, size, total}
use Rattle.tables.specs.declared.slot.Slot.{Slot}
use Rattle.std.specs.declared.cmp.Ordering.{Ordering}
use Rattle.std.specs.declared.cmp.Ordering.TheVariants.{Less}
use Rattle.tables.specs.Ranks.{Ascending, rank_of}

abbrev pub no_slot : Slot
no_slot = record { seq = 0; kind = Value; create_ts = None; expire_ts = None; start = 0; key_len = 0; value_len = 0 }

abbrev pub row_at : List ℕ → Slot → Row
row_at text s = record {
  seq = s.seq;
  kind = s.kind;
  created = s.create_ts;
  expires = s.expire_ts;
  key = take s.key_len (drop s.start text);
  value = take s.value_len (drop (s.start + s.key_len) text);
}

-- the rows of the slots whose numbers these are
abbrev pub standing : List ℕ → List Slot → List ℕ → List Row
standing text slots ranks = map (λ k. row_at text (slice_index_or slots k no_slot)) ranks

-- how the row of a slot stands to key k and number n; where there is no slot, before them
abbrev pub stands : List ℕ → Option Slot → List ℕ → ℕ → Ordering
stands text (Some s) k n = rank_of (row_at text s).key (row_at text s).seq k n
stands text None k n = Less

-- the digits of a slot lie within n
abbrev pub Placed : ℕ → Slot → Type 0
Placed n s = s.start + s.key_len + s.value_len ≤ n

-- number, ticks, and digits of key and value are what a row may have
abbrev pub Marked : Slot → Type 0
Marked s = (s.seq < 2 ^ 64) × (fits s.create_ts ≡ true) × (fits s.expire_ts ≡ true)

abbrev pub Keyed : Slot → Type 0
Keyed s = (s.key_len % 2 ≡ 0) × (s.key_len ≤ 128)

abbrev pub Valued : Slot → Type 0
Valued s = (s.value_len % 2 ≡ 0) × (s.value_len ≤ room s.kind)

-- a slot of a row that lies within n
pub record Lies (n : ℕ) (s : Slot) : Type 0 where
  pub placed : Placed n s
  pub marked : Marked s
  pub keyed : Keyed s
  pub valued : Valued s

abbrev pub Each : (Slot → Type 0) → List Slot → Type 0
Each P slots = (i : ℕ) → i < length slots → P (slice_index_or slots i no_slot)

-- every byte is a hexadecimal digit
abbrev pub Digits : List ℕ → Type 0
Digits text = (i : ℕ) → i < length text → hex_digit (slice_index text i) ≡ true

-- each number is that of a slot
abbrev pub Inside : List ℕ → ℕ → Type 0
Inside ranks n = (i : ℕ) → i < length ranks → slice_index ranks i < n

-- what holds of a text, slots and ranks with that room left and rows of that size
pub record Kept (text : List ℕ) (slots : List Slot) (ranks : List ℕ) (puts bytes sum : ℕ) : Type 0 where
  pub counted : length slots + puts ≤ 65536
  pub limited : length text + 2 * bytes ≤ 33554432
  pub fewer : length ranks ≤ length slots
  pub inside : Inside ranks (length slots)
  pub digits : Digits text
  pub sound : Each (Lies (length text)) slots
  pub ordered : Ascending (standing text slots ranks)
  pub weighed : 2 * total weight (standing text slots ranks) ≤ length text
  pub sized : sum ≡ total size (standing text slots ranks)
