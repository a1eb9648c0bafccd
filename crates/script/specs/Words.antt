-- The words of a line.
use Rattle.std.specs.Prelude.{◌≡◌, ℕ, cond, List, [], ◌∷◌, ◌++◌, Some, None, Option, ◌==◌}
use Rattle.std.specs.Option.{option_map}
use Rattle.script.specs.declared.words.Words.{Words}
use Rattle.script.specs.Lines.{begun}
use Rattle.script.specs.Parts.{Free}

-- what single spaces part
abbrev pub words : List ℕ → List (List ℕ)
words [] = [] ∷ []
words (b ∷ bs) = cond (b == 32) ([] ∷ words bs) (begun b (words bs))

-- the words of a line of which there may be nothing more
abbrev pub others : Option (List ℕ) → List (List ℕ)
others None = []
others (Some line) = words line

-- the words that are still to come
abbrev pub listed : Words → List (List ℕ)
listed ws = others (option_map (λ x. x.now) ws.line)

-- a space and each further word behind another
abbrev pub more : List (List ℕ) → List ℕ
more [] = []
more (w ∷ ws) = 32 ∷ (w ++ more ws)

-- the words with single spaces between them
abbrev pub spaced : List (List ℕ) → List ℕ
spaced [] = []
spaced (w ∷ ws) = w ++ more ws

abbrev pub Spaceless : List (List ℕ) → Type 0
Spaceless [] = Unit {0}
Spaceless (w ∷ ws) = Free 32 w × Spaceless ws

-- joined by single spaces the words are the line again, and none has a space
pub record Worded (line : List ℕ) : Type 0 where
  pub joined : spaced (words line) ≡ line
  pub parted : Spaceless (words line)
