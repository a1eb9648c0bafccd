-- What is read of a script.
use Rattle.std.specs.Prelude.{◌≡◌, ℕ, ◌+◌, List, [], ◌∷◌, ◌++◌, length, drop, Some, None, Option}
use Rattle.script.specs.declared.script.Script.{Script}
use Rattle.script.specs.declared.script.lines.CallLine.{CallLine}
use Rattle.script.specs.Lines.{Line, Plain, ended, idles, lines}

-- the bytes of a script that are to be read
abbrev pub rest : Script → List ℕ
rest s = s.rest.now

-- how many of its lines were read
abbrev pub line : Script → ℕ
line s = s.line

-- the lines that are to be read
abbrev pub left : Script → List (List ℕ)
left s = lines (rest s)

-- the first line is taken, where there is one
abbrev pub Takes : Script → Option (List ℕ) → Script → Type 0
Takes s None t = (rest s ≡ []) × (rest t ≡ []) × (line t ≡ line s)
Takes s (Some l) t = Line (rest s) l (rest t) × (line t ≡ line s + 1)

-- the first line that is not idle is taken with its number, where there is one
abbrev pub Finds : Script → Option CallLine → Script → Type 0
Finds s None t = (drop (idles (left s)) (left s) ≡ []) × (rest t ≡ []) × (line t ≡ line s + idles (left s))
Finds s (Some l) t = (drop (idles (left s)) (left s) ≡ l.bytes.now ∷ left t) × (l.number ≡ line s + idles (left s) + 1) × (line t ≡ l.number)

-- the lines up to the first lone dot are taken as a text, and the dot too
pub record Body (s : Script) (text : List ℕ) (t : Script) : Type 0 where
  pub body : List (List ℕ)
  pub cut : left s ≡ body ++ ((46 ∷ []) ∷ left t)
  pub plain : Plain body
  pub whole : text ≡ ended body
  pub count : line t ≡ line s + length body + 1

-- the text that the next lines give, if a lone dot ends it
abbrev pub Gives : Script → Option (List ℕ) → Script → Type 0
Gives s None t = Plain (left s) × (rest t ≡ []) × (line t ≡ line s + length (left s))
Gives s (Some text) t = Body s text t
