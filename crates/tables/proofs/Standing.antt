-- The rows that stand, as slots come in.
use Rattle.std.proofs.Common.{◌≡◌, ℕ, ◌<◌, List, length, get_or}
use Rattle.std.proofs.lemmas.List.{length-map, get_or-map}
use Rattle.tables.specs.declared.slot.Slot.{Slot}
use Rattle.mem_table.specs.Order.{no_row}
use Rattle.tables.specs.Slots.{no_slot, row_at, standing}

pub standing_length : (text : List ℕ) (slots : List Slot) (ranks : List ℕ) → length (standing text slots ranks) ≡ length ranks
standing_length text slots ranks = length-map ranks (λ k. row_at text (get_or slots k no_slot))

pub standing_at : (text : List ℕ) (slots : List Slot) (ranks : List ℕ) (i : ℕ) → i < length ranks → get_or (standing text slots ranks) i no_row ≡ row_at text (get_or slots (get_or ranks i 0) no_slot)
standing_at text slots ranks i l = get_or-map (λ k. row_at text (get_or slots k no_slot)) ranks i 0 no_row l
