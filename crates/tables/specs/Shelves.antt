-- What a shelf means.
use Rattle.std.specs.Prelude.{◌≡◌, List, [], ◌∷◌, ◌++◌, map, Ok, Err, Result, vec_items}
use Rattle.rows.specs.Rows.{Row}
use Rattle.tables.specs.declared.shelf.Shelf.{Shelf}
use Rattle.mem_table.specs.Meaning.{Held, Meaning, lookup}
use Rattle.tables.specs.Slots.{row_at, standing}
use Rattle.mem_table.specs.declared.fault.TableFault.{TableFault}

abbrev pub order_of : Shelf → List Row
order_of s = standing (vec_items s.text) (vec_items s.slots) (vec_items s.ranks)

-- the rows of all slots, those that no longer stand too
abbrev pub rows_of : Shelf → List Row
rows_of s = map (row_at (vec_items s.text)) (vec_items s.slots)

abbrev pub holds : Shelf → Held
holds s = record { rows = lookup (order_of s); puts = s.puts; bytes = s.bytes }

abbrev pub shelf_means : Shelf → Meaning
shelf_means s = record { held = holds s; order = order_of s }

-- a row that is taken comes behind all that came before, and a refused one is not kept
abbrev pub ComesLast : Shelf → Shelf → Row → Result (Unit {0}) TableFault → Type 0
ComesLast before after row (Ok u) = rows_of after ≡ rows_of before ++ row ∷ []
ComesLast before after row (Err f) = rows_of after ≡ rows_of before
