-- The store that a script works on.
use Rattle.std.specs.Prelude.{◌≡◌, ℕ, ◌⊎◌, List, [], ◌∷◌, take, Some, None, Ok, Err, vec_items, codes, Option, Result, Vec, ◌≢◌}
use Rattle.std.specs.declared.alloc.Global.{Global}
use Rattle.store.specs.declared.marks.Mark.{Mark}
use Rattle.store.specs.declared.marks.Mark.TheVariants.{Fair, Lost, Late}
use Rattle.store.specs.declared.memory.MemoryStore.{MemoryStore}
use Rattle.store.specs.declared.script.FaultScript.{FaultScript}
use Rattle.store.specs.Meaning.{empty, steady_store}
use Rattle.store.specs.Memory.{memory_means}
use Rattle.store.specs.Scripted.{marks_left}
use Rattle.script.specs.declared.reason.Reason.TheVariants.{UnknownMark}
use Rattle.store_setup.specs.declared.stop.Stop.{Stop}
use Rattle.store_setup.specs.declared.stop.Stop.TheVariants.{Script, NoMemory}

-- an empty store with this room, under the first 64 of the marks
pub record Fresh (places bytes : ℕ) (marks : List Mark) (s : FaultScript MemoryStore) : Type 0 where
  pub below : memory_means s.below ≡ steady_store (empty places bytes)
  pub script : marks_left s ≡ take 64 marks

-- the word for each mark
abbrev pub mark_word : Mark → List ℕ
mark_word Fair = codes "fair"
mark_word Lost = codes "lost"
mark_word Late = codes "late"

abbrev pub MarkOf : List ℕ → Option Mark → Type 0
MarkOf w (Some m) = w ≡ mark_word m
MarkOf w None = (m : Mark) → w ≢ mark_word m

-- the marks that words are, one behind the other
abbrev pub MarksAre : List (List ℕ) → List Mark → Type 0
MarksAre [] ms = ms ≡ []
MarksAre (w ∷ ws) [] = ⊥
MarksAre (w ∷ ws) (m ∷ ms) = (w ≡ mark_word m) × MarksAre ws ms

-- some word is no mark
abbrev pub NoMark : List (List ℕ) → Type 0
NoMark [] = ⊥
NoMark (w ∷ ws) = ((m : Mark) → w ≢ mark_word m) ⊎ NoMark ws

abbrev pub Marked : List (List ℕ) → Result (Vec Mark Global) Stop → Type 0
Marked ws (Ok v) = MarksAre ws (vec_items v)
Marked ws (Err (Script e)) = NoMark ws × (e ≡ UnknownMark)
Marked ws (Err NoMemory) = Unit {0}
