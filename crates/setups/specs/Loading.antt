-- A text loaded into a table, whose rows are then written out.
use Rattle.std.specs.Prelude.{◌≡◌, ℕ, List, [], Ok, Err, Result}
use Rattle.std.specs.List.{flat_map}
use Rattle.rows.specs.Lines.{line}
use Rattle.mem_table.specs.Meaning.{Meaning}
use Rattle.loader.specs.Loads.{Loads}
use Rattle.loader.specs.declared.fault.LoadFault.{LoadFault}
use Rattle.loader.specs.declared.loading.Loaded.{Loaded}

-- the lines of the rows that a table has; none where the text was refused
abbrev pub Lines : Meaning → List ℕ → Result Loaded LoadFault → Type 0
Lines m out (Ok x) = out ≡ flat_map line m.order
Lines m out (Err e) = out ≡ []

pub record Listing (before : Meaning) (text out : List ℕ) (r : Result Loaded LoadFault) : Type 0 where
  pub after : Meaning
  pub loads : Loads text before after r
  pub lines : Lines after out r
