-- The options of a script.
use Rattle.std.specs.Prelude.{◌≡◌, ℕ, ◌⊎◌, List, [], ◌∷◌, ◌++◌, Some, None, Ok, Err, codes, Result, ◌≢◌}
use Rattle.std.specs.Option.{unwrap_or}
use Rattle.console.specs.declared.options.Changes.{Changes}
use Rattle.console.specs.declared.options.Options.{Options}
use Rattle.console.specs.declared.options.Setting.{Setting}
use Rattle.console.specs.declared.options.Setting.TheVariants.{BlockSize}
use Rattle.script.specs.declared.reason.Reason.{Reason}
use Rattle.script.specs.declared.reason.Reason.TheVariants.{UnknownOption}
use Rattle.commands.specs.Arguments.{NumberIs}

-- what a word sets: an option's name, `=` and its number
abbrev pub Sets : List ℕ → Result Setting Reason → Type 0
Sets word (Ok (BlockSize n)) = (v : List ℕ) × (word ≡ codes "block_size=" ++ v) × NumberIs v (Ok n)
Sets word (Err e) = (((v : List ℕ) → word ≢ codes "block_size=" ++ v) × (e ≡ UnknownOption))
    ⊎ ((v : List ℕ) × (word ≡ codes "block_size=" ++ v) × NumberIs v (Err e))

-- no option is changed
abbrev pub none : Changes
none = record { block_size = None }

-- a later setting of an option stands for an earlier one
abbrev pub with : Changes → Setting → Changes
with c (BlockSize n) = record { block_size = Some n }

-- the words set options one after another; the first that does not is the fault
abbrev pub Changed : List (List ℕ) → Changes → Result Changes Reason → Type 0
Changed [] c r = r ≡ Ok c
Changed (w ∷ ws) c r = ((s : Setting) × Sets w (Ok s) × Changed ws (with c s) r) ⊎ ((e : Reason) × Sets w (Err e) × (r ≡ Err e))

-- an option that is left out keeps its value
abbrev pub changed : Options → Changes → Options
changed o c = record { block_size = unwrap_or c.block_size o.block_size }
