-- A text and the marks that part it.
use Rattle.std.specs.Prelude.{◌≡◌, ℕ, ◌<◌, List, [], ◌∷◌, ◌++◌, length, Some, None, Option, ◌≢◌, slice_index}

-- no byte of the text is the mark
abbrev pub Free : ℕ → List ℕ → Type 0
Free mark text = (k : ℕ) → k < length text → slice_index text k ≢ mark

-- a mark and what stands behind it, if there is one
abbrev pub marked : ℕ → Option (List ℕ) → List ℕ
marked mark None = []
marked mark (Some behind) = mark ∷ behind

-- front is what the text has before its first mark, behind what it has after it
pub record Parts (mark : ℕ) (text front : List ℕ) (behind : Option (List ℕ)) : Type 0 where
  pub whole : text ≡ front ++ marked mark behind
  pub free : Free mark front

-- what stands before a mark, and the mark, if there is one
abbrev pub led : ℕ → Option (List ℕ) → List ℕ
led mark None = []
led mark (Some before) = before ++ (mark ∷ [])

-- last is what the text has after its last mark, before what it has ahead of it
pub record Ends (mark : ℕ) (text : List ℕ) (before : Option (List ℕ)) (last : List ℕ) : Type 0 where
  pub whole : text ≡ led mark before ++ last
  pub free : Free mark last
