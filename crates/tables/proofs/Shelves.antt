-- What holds of every shelf.
use Rattle.std.proofs.Common.{◌≡◌, ℕ, ◌+◌, ◌<◌, ◌≤◌, false, List, length, get_or, vec_items, refl, ◌∙◌, arith}
use Rattle.std.proofs.lemmas.List.{get_or_default}
use Rattle.rows.specs.Sizes.{size}
use Rattle.rows.specs.declared.entry.RowEntry.{RowEntry}
use Rattle.rows.specs.Entries.{row_of}
use Rattle.mem_table.specs.Calls.{lacks}
use Rattle.mem_table.proofs.Room.{has_room}
use Rattle.tables.proofs.Totals.{size_most, sizes_most, total_set}
use Rattle.rows.specs.Rows.{Row}
use Rattle.mem_table.specs.Order.{no_row}
use Rattle.tables.specs.declared.shelf.Shelf.{Shelf}
use Rattle.tables.specs.declared.slot.Slot.{Slot}
use Rattle.mem_table.specs.Meaning.{Meaning, Listed, lookup}
use Rattle.tables.specs.Slots.{no_slot, standing, Lies, Kept}
use Rattle.tables.specs.Shelves.{holds, order_of, shelf_means}
use Rattle.tables.proofs.Ordered.{rising, once}
use Rattle.tables.proofs.Standing.{standing_length}

pub long : (s : Shelf) → length (order_of s) ≡ length (vec_items s.ranks)
long s = standing_length (vec_items s.text) (vec_items s.slots) (vec_items s.ranks)

-- what the parts of a shelf mean
abbrev pub meaning : List ℕ → List Slot → List ℕ → ℕ → ℕ → Meaning
meaning text slots ranks puts bytes = record { held = record { rows = lookup (standing text slots ranks); puts = puts; bytes = bytes }; order = standing text slots ranks }

-- the order enumerates the rows
pub kept_listed : {text : List ℕ} {slots : List Slot} {ranks : List ℕ} {puts bytes sum : ℕ} → Kept text slots ranks puts bytes sum → Listed (meaning text slots ranks puts bytes)
kept_listed {text = text} {slots = slots} {ranks = ranks} k = record {
  rows = refl;
  ascends = rising (standing text slots ranks) k.ordered;
  once = once (standing text slots ranks) k.ordered;
  count = omega (arith, standing_length text slots ranks, k.fewer, k.counted);
  weighs = omega (arith, k.weighed, k.limited);
}

pub listed : (s : Shelf) → Listed (shelf_means s)
listed s = kept_listed s.kept

-- the slot of a row that stands
pub sound_at : (s : Shelf) (i : ℕ) → i < length (vec_items s.ranks) → Lies (length (vec_items s.text)) (get_or (vec_items s.slots) (get_or (vec_items s.ranks) i 0) no_slot)
sound_at s i l = s.kept.sound (get_or (vec_items s.ranks) i 0) (s.kept.inside i l)

-- the sizes of all rows and one more
pub size_bound : (s : Shelf) (e : RowEntry) → lacks (holds s) (row_of e) ≡ false → s.size + size (row_of e) ≤ 40000000
size_bound s e room = omega (arith, s.kept.sized, sizes_most (order_of s), long s, s.kept.fewer, s.kept.counted, s.kept.weighed, s.kept.limited, size_most (row_of e), (has_room (holds s) (row_of e) room).1)

-- one row's size is within that of all
pub size_within : (s : Shelf) (r : Row) (i : ℕ) → i < length (order_of s) → size (get_or (order_of s) i no_row) ≤ s.size + size r
size_within s r i l = omega (arith, total_set size (order_of s) i r l, s.kept.sized)

-- the number read at a place of the order
pub rank_is : (s : Shelf) (i n : ℕ) → n ≡ get_or (vec_items s.ranks) i n → i < length (order_of s) → n ≡ get_or (vec_items s.ranks) i 0
rank_is s i n e l = e ∙ get_or_default (vec_items s.ranks) i n 0 (omega (arith, long s))
