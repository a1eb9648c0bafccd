-- A text of rows put into a table.
use Rattle.std.specs.Prelude.{◌≡◌, ℕ, true, ◌⊎◌, List, [], ◌∷◌, ◌++◌, length, take, drop, Ok, Err, Result}
use Rattle.std.specs.List.{flat_map}
use Rattle.std.specs.declared.alloc.AllocError.{AllocError}
use Rattle.causes.specs.Said.{Said, refused}
use Rattle.rows.specs.Rows.{Row}
use Rattle.rows.specs.Lines.{line, TextOf, WellFormed}
use Rattle.rows.specs.Sizes.{size, total}
use Rattle.row_text.specs.Checks.{Damages}
use Rattle.mem_table.specs.Calls.{Fit, lacks}
use Rattle.mem_table.specs.Meaning.{Held, Meaning, Listed, all_added}
use Rattle.mem_table.specs.Said as table
use Rattle.loader.specs.declared.fault.LoadFault.{LoadFault}
use Rattle.loader.specs.declared.fault.LoadFault.TheVariants.{Damaged, Table}
use Rattle.loader.specs.declared.loading.Loaded.{Loaded}

-- the number and the values of each cause: the text is no file, so its id is 0
abbrev pub fault : LoadFault → Said
fault (Damaged d) = refused 10 (0 ∷ d.line ∷ d.place ∷ [])
fault (Table f) = table.fault f

-- all rows of the text are put
pub record Whole (t : List ℕ) (before after : Held) : Type 0 where
  pub rows : List Row
  pub text : TextOf rows t
  pub fit : Fit before rows
  pub held : after ≡ all_added before rows

-- the rows of the first bytes are put, and the row whose line is next finds no room
pub record Stopped (t : List ℕ) (before after : Held) (s : Said) : Type 0 where
  pub place : ℕ
  pub rows : List Row
  pub text : TextOf rows (take place t)
  pub row : Row
  pub rest : List ℕ
  pub next : drop place t ≡ line row ++ rest
  pub fit : Fit before rows
  pub full : lacks (all_added before rows) row ≡ true
  pub held : after ≡ all_added before rows
  pub says : s ≡ refused 3 (row.seq ∷ [])

-- a text that may be damaged: rows are put up to the damage
abbrev pub Begun : List ℕ → Held → Held → Result (Unit {0}) LoadFault → Type 0
Begun t before after (Ok u) = Whole t before after
Begun t before after (Err e) = Damages t (fault e) ⊎ Stopped t before after (fault e)

-- what the table holds and has left
pub record Counted (m : Meaning) (x : Loaded) : Type 0 where
  pub rows : x.rows ≡ length m.order
  pub size : x.size ≡ total size m.order
  pub puts : x.puts ≡ m.held.puts
  pub bytes : x.bytes ≡ m.held.bytes
  pub listed : Listed m

-- `load`: damage is found before any row is put
abbrev pub Loads : List ℕ → Meaning → Meaning → Result Loaded LoadFault → Type 0
Loads t before after (Ok x) = Whole t before.held after.held × Counted after x
Loads t before after (Err e) = (Damages t (fault e) × (after.held ≡ before.held)) ⊎ (WellFormed t × Stopped t before.held after.held (fault e))

-- the lines of rows stand behind what was there; for want of memory only some bytes
abbrev pub Lists : List Row → List ℕ → List ℕ → Result (Unit {0}) AllocError → Type 0
Lists rows before after (Ok u) = after ≡ before ++ flat_map line rows
Lists rows before after (Err e) = (x : List ℕ) × (after ≡ before ++ x)
