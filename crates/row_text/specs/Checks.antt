-- What a whole text is said to have.
use Rattle.std.specs.Prelude.{◌≡◌, ℕ, ◌⊎◌, List, [], ◌∷◌, ◌++◌, length, Ok, Err, codes, decimal, Result}
use Rattle.causes.specs.Said.{Said, refused}
use Rattle.rows.specs.declared.types.Damage.{Damage}
use Rattle.rows.specs.declared.totals.Totals.{Totals}
use Rattle.row_text.specs.declared.text.Checked.{Checked}
use Rattle.row_text.specs.declared.fault.CheckFault.{CheckFault}
use Rattle.row_text.specs.declared.fault.CheckFault.TheVariants.{Damaged, BlockSize}
use Rattle.rows.specs.Rows.{Row}
use Rattle.rows.specs.Lines.{TextOf, WellFormed, DamagedText}
use Rattle.rows.specs.Sizes.{total, size, wal_size, compacted_size}
use Rattle.rows.specs.Blocks.{Bad}

-- t has n rows, whose sizes add up to s
pub record Holds (t : List ℕ) (n s : ℕ) : Type 0 where
  pub rows : List Row
  pub text : TextOf rows t
  pub count : n ≡ length rows
  pub sum : s ≡ total size rows

abbrev pub Totalled : List ℕ → Result Totals Damage → Type 0
Totalled t (Ok x) = Holds t x.rows x.size
Totalled t (Err d) = DamagedText t d

pub record Estimated (t : List ℕ) (block : ℕ) (x : Checked) : Type 0 where
  pub holds : Holds t x.rows x.size
  pub good : Bad block → ⊥
  pub wal : x.wal ≡ wal_size x.rows x.size block
  pub compacted : x.compacted ≡ compacted_size x.rows x.size block

-- the number and the values of each cause: a checked text has no file, so its id is 0
abbrev pub fault : CheckFault → Said
fault (Damaged d) = refused 10 (0 ∷ d.line ∷ d.place ∷ [])
fault (BlockSize n) = refused 24 (n ∷ [])

-- the text is damaged
pub record Damages (t : List ℕ) (s : Said) : Type 0 where
  pub damage : Damage
  pub text : DamagedText t damage
  pub says : s ≡ refused 10 (0 ∷ damage.line ∷ damage.place ∷ [])

-- the text is in order, and there is no such block size
pub record Misfits (t : List ℕ) (block : ℕ) (s : Said) : Type 0 where
  pub text : WellFormed t
  pub block_size : Bad block
  pub says : s ≡ refused 24 (block ∷ [])

-- damage is reported first
abbrev pub Checks : List ℕ → ℕ → Result Checked CheckFault → Type 0
Checks t block (Ok x) = Estimated t block x
Checks t block (Err e) = Damages t (fault e) ⊎ Misfits t block (fault e)

-- what is printed of a text that was checked
abbrev pub shown : Checked → List ℕ
shown k = codes "rows " ++ (decimal k.rows ++ (codes " size " ++ (decimal k.size ++ (codes " wal " ++ (decimal k.wal ++ (codes " compacted " ++ decimal k.compacted))))))
