-- Examples of rows, their sizes and their lines.
use Rattle.std.specs.Prelude.{◌≡◌, ℕ, List, [], ◌∷◌, pos, Some, None}
use Rattle.rows.specs.declared.types.Kind.TheVariants.{Value}
use Rattle.rows.specs.Rows.{Row, Valid}
use Rattle.rows.specs.Lines.{line, DamagedText}
use Rattle.rows.specs.Sizes.{size, wal_size, compacted_size}

-- 7 V 100 - 6131 00ff
abbrev pub row_7 : Row
row_7 = record { seq = 7; kind = Value; created = Some (pos 100); expires = None; key = 54 ∷ 49 ∷ 51 ∷ 49 ∷ []; value = 48 ∷ 48 ∷ 102 ∷ 102 ∷ [] }

-- its line, with tabs between the fields
abbrev pub text_7 : List ℕ
text_7 = 55 ∷ 9 ∷ 86 ∷ 9 ∷ 49 ∷ 48 ∷ 48 ∷ 9 ∷ 45 ∷ 9 ∷ 54 ∷ 49 ∷ 51 ∷ 49 ∷ 9 ∷ 48 ∷ 48 ∷ 102 ∷ 102 ∷ 10 ∷ []

-- the line of row 7, its size 20, and the estimates 130 and 192 at a block size of 4,096
abbrev pub RowsAndSizes : Type 0
RowsAndSizes =
    Valid row_7 × (line row_7 ≡ text_7) × (size row_7 ≡ 20) × (wal_size 1 20 4096 ≡ 130) × (compacted_size 1 20 4096 ≡ 192)

-- 8 T - - 61 00, with tabs between the fields
abbrev pub text_8 : List ℕ
text_8 = 56 ∷ 9 ∷ 84 ∷ 9 ∷ 45 ∷ 9 ∷ 45 ∷ 9 ∷ 54 ∷ 49 ∷ 9 ∷ 48 ∷ 48 ∷ 10 ∷ []

-- a tombstone has no value: line 1, place 11
abbrev pub DamagedLine : Type 0
DamagedLine = DamagedText text_8 (record { line = 1; place = 11 })
