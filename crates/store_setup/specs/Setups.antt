-- What the lines of a script leave of its store.
use Rattle.std.specs.Prelude.{◌≡◌, ℕ, true, false, ◌⊎◌, List, [], Ok, Err, vec_items, Result}
use Rattle.script.specs.declared.reason.Reason.TheVariants.{TooLate}
use Rattle.store.specs.Meaning.{Meaning}
use Rattle.store.specs.Memory.{memory_means}
use Rattle.store.specs.Scripted.{scripted}
use Rattle.store_setup.specs.Marks.{Fresh, Marked, MarksAre}
use Rattle.store_setup.specs.declared.setup.StoreSetup.{StoreSetup}
use Rattle.store_setup.specs.declared.stop.Stop.{Stop}
use Rattle.store_setup.specs.declared.stop.Stop.TheVariants.{Script, NoMemory}

-- what the store means
abbrev pub store_of : StoreSetup → Meaning
store_of s = scripted memory_means s.store

-- before the first line
pub record Begins (s : StoreSetup) : Type 0 where
  pub begun : s.begun ≡ false
  pub places : s.places ≡ 1024
  pub bytes : s.bytes ≡ 16777216
  pub marks : vec_items s.marks ≡ []
  pub store : Fresh 1024 16777216 [] s.store

-- `store`: before the first call a store with this room
pub record NewRoom (s : StoreSetup) (places bytes : ℕ) (t : StoreSetup) : Type 0 where
  pub early : s.begun ≡ false
  pub store : Fresh places bytes (vec_items s.marks) t.store
  pub room : (t.places ≡ places) × (t.bytes ≡ bytes)
  pub marks : t.marks ≡ s.marks
  pub begun : t.begun ≡ false

abbrev pub SetsRoom : StoreSetup → ℕ → ℕ → Result (Unit {0}) Stop → StoreSetup → Type 0
SetsRoom s places bytes (Ok u) t = NewRoom s places bytes t
SetsRoom s places bytes (Err (Script e)) t = (s.begun ≡ true) × (e ≡ TooLate) × (t ≡ s)
SetsRoom s places bytes (Err NoMemory) t = (s.begun ≡ false) × (t ≡ s)

-- `script`: before the first call the store anew under these marks
pub record NewMarks (s : StoreSetup) (ws : List (List ℕ)) (t : StoreSetup) : Type 0 where
  pub early : s.begun ≡ false
  pub marks : MarksAre ws (vec_items t.marks)
  pub store : Fresh s.places s.bytes (vec_items t.marks) t.store
  pub room : (t.places ≡ s.places) × (t.bytes ≡ s.bytes)
  pub begun : t.begun ≡ false

abbrev pub SetsMarks : StoreSetup → List (List ℕ) → Result (Unit {0}) Stop → StoreSetup → Type 0
SetsMarks s ws (Ok u) t = NewMarks s ws t
SetsMarks s ws (Err (Script e)) t = (((s.begun ≡ true) × (e ≡ TooLate)) ⊎ ((s.begun ≡ false) × Marked ws (Err (Script e)))) × (t ≡ s)
SetsMarks s ws (Err NoMemory) t = (s.begun ≡ false) × (t ≡ s)
