-- What is appended to a text.
use Rattle.std.specs.Prelude.{◌≡◌, ℕ, List, ◌++◌, Ok, Err, Result}
use Rattle.std.specs.declared.alloc.AllocError.{AllocError}

-- the whole, or as much of something as there was memory for
abbrev pub Appended : List ℕ → List ℕ → List ℕ → Result (Unit {0}) AllocError → Type 0
Appended whole before after (Ok u) = after ≡ before ++ whole
Appended whole before after (Err e) = (part : List ℕ) × (after ≡ before ++ part)
