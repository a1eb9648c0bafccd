-- What a store means: its files by id, the room that is left, and whether it is steady.
use Rattle.std.specs.Prelude.{ℕ, ◌-◌, ◌≤◌, Bool, true, cond, List, length, Some, None, Option, ◌==◌}

-- what a store holds: the text of each id that has a file, and how many more files and bytes it takes
pub record Held : Type 0 where
  pub files : ℕ → Option (List ℕ)
  pub places : ℕ
  pub bytes : ℕ

-- a steady store never answers Unavailable
pub record Meaning : Type 0 where
  pub held : Held
  pub steady : Bool

-- a file, where there is one, has at most 16,384 bytes
abbrev pub WithinLimit : Option (List ℕ) → Type 0
WithinLimit None = Unit {0}
WithinLimit (Some text) = length text ≤ 16384

-- the same files and one more
abbrev pub with_file : (ℕ → Option (List ℕ)) → ℕ → List ℕ → ℕ → Option (List ℕ)
with_file files id text k = cond (k == id) (Some text) (files k)

-- what is held with one file more: it takes one place and the length of its text
abbrev pub added : Held → ℕ → List ℕ → Held
added h id text = record {
  files = with_file h.files id text;
  places = h.places - 1;
  bytes = h.bytes - length text;
}

-- no files yet, and so much room
abbrev pub empty : ℕ → ℕ → Held
empty n m = record { files = λ k. None; places = n; bytes = m }

-- a steady store that holds this
abbrev pub steady_store : Held → Meaning
steady_store h = record { held = h; steady = true }
