-- The room that a row needs.
use Rattle.std.proofs.Common.{◌≡◌, ◌<◌, ◌≤◌, false, ltb}
use Rattle.std.proofs.lemmas.Bool.{or_parts, ltb-false}
use Rattle.rows.specs.Rows.{Row}
use Rattle.rows.specs.Sizes.{weight}
use Rattle.mem_table.specs.Meaning.{Held}
use Rattle.mem_table.specs.Calls.{lacks}

-- the room that a row needs is there
pub has_room : (h : Held) (r : Row) → lacks h r ≡ false → (0 < h.puts) × (weight r ≤ h.bytes)
has_room h r e =
    let p = or_parts (ltb h.puts 1) (ltb h.bytes (weight r)) e in
    (ltb-false h.puts 1 p.0, ltb-false h.bytes (weight r) p.1)
