-- The bytes of a text.
use Rattle.std.specs.Prelude.{◌≡◌, ℕ, List}
use Rattle.script.specs.declared.call.Text.{Text}
use Rattle.script.specs.declared.call.Text.TheVariants.{Lines, Hex}
use Rattle.script.specs.declared.hex.TextFault.{TextFault}
use Rattle.script.specs.declared.hex.TextFault.TheVariants.{NotHex, NoMemory}
use Rattle.script.specs.Hexadecimal.{Paired, pairs}

-- the bytes that a text is
abbrev pub Is : Text → List ℕ → Type 0
Is (Lines text) bytes = bytes ≡ text.now
Is (Hex d) bytes = pairs bytes ≡ d.now

-- why they cannot be had
abbrev pub Lacks : Text → TextFault → Type 0
Lacks (Lines text) f = ⊥
Lacks (Hex d) NotHex = Paired d.now → ⊥
Lacks (Hex d) NoMemory = Paired d.now
