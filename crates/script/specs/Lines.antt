-- The lines of a text.
use Rattle.std.specs.Prelude.{◌≡◌, ℕ, suc, ◌<◌, Bool, true, cond, ◌⊎◌, List, [], ◌∷◌, ◌++◌, length, ◌==◌}
use Rattle.script.specs.Parts.{Free}

-- one byte in front of the first line, which it begins where there is none
abbrev pub begun : ℕ → List (List ℕ) → List (List ℕ)
begun b [] = (b ∷ []) ∷ []
begun b (l ∷ ls) = (b ∷ l) ∷ ls

-- each line without its end; a last line without one counts
abbrev pub lines : List ℕ → List (List ℕ)
lines [] = []
lines (b ∷ bs) = cond (b == 10) ([] ∷ lines bs) (begun b (lines bs))

-- the lines, each with its end
abbrev pub ended : List (List ℕ) → List ℕ
ended [] = []
ended (l ∷ ls) = l ++ (10 ∷ ended ls)

-- line is the text's first line, and rest is what follows its end
pub record Line (text line rest : List ℕ) : Type 0 where
  pub some : 0 < length text
  pub whole : (text ≡ line ++ (10 ∷ rest)) ⊎ ((text ≡ line) × (rest ≡ []))
  pub free : Free 10 line

-- empty, or beginning with `#`
abbrev pub idle : List ℕ → Bool
idle [] = true
idle (b ∷ bs) = b == 35

-- how many idle lines come first
abbrev pub idles : List (List ℕ) → ℕ
idles [] = 0
idles (l ∷ ls) = cond (idle l) (suc (idles ls)) 0

-- the line that ends a text: a lone dot
abbrev pub Stop : List ℕ → Type 0
Stop l = l ≡ 46 ∷ []

-- none of the lines ends a text
abbrev pub Plain : List (List ℕ) → Type 0
Plain [] = Unit {0}
Plain (l ∷ ls) = (Stop l → ⊥) × Plain ls
