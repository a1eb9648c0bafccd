-- A text written again from its rows.
use Rattle.std.specs.Prelude.{◌≡◌, ℕ, List, ◌++◌, Ok, Err, Result}
use Rattle.row_text.specs.declared.again.RewriteFault.{RewriteFault}
use Rattle.row_text.specs.declared.again.RewriteFault.TheVariants.{Damaged, NoMemory}
use Rattle.rows.specs.Lines.{WellFormed, DamagedText}

-- what stands behind the bytes that were there
abbrev pub Rewrites : List ℕ → List ℕ → List ℕ → Result (Unit {0}) RewriteFault → Type 0
Rewrites t before after (Ok u) = WellFormed t × (after ≡ before ++ t)
Rewrites t before after (Err (Damaged d)) = DamagedText t d × (after ≡ before)
Rewrites t before after (Err NoMemory) = after ≡ before

-- the same where a refusal leaves some lines behind
abbrev pub Begun : List ℕ → List ℕ → List ℕ → Result (Unit {0}) RewriteFault → Type 0
Begun t before after (Ok u) = WellFormed t × (after ≡ before ++ t)
Begun t before after (Err (Damaged d)) = DamagedText t d × ((x : List ℕ) × (after ≡ before ++ x))
Begun t before after (Err NoMemory) = (x : List ℕ) × (after ≡ before ++ x)
