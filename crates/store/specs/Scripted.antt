-- A store under a fault script: what it means, and what each call asks of the store below.
use Rattle.std.specs.Prelude.{◌≡◌, ℕ, ◌&&◌, List, [], ◌∷◌, Result}
use Rattle.store.specs.declared.fault.StoreFault.{StoreFault}
use Rattle.store.specs.declared.marks.Mark.{Mark}
use Rattle.store.specs.declared.marks.Mark.TheVariants.{Fair, Lost, Late}
use Rattle.store.specs.declared.script.FaultScript.{FaultScript}
use Rattle.causes.specs.Said.{refused}
use Rattle.store.specs.Said.{said, said_length}
use Rattle.store.specs.Meaning.{Meaning}
use Rattle.store.specs.Calls.{Put, Head, Read}
use Rattle.store.specs.Marks.{next_mark, one_used, all_fair}

-- the marks that a script has left
abbrev pub marks_left : {S : Type 0} → FaultScript S → List Mark
marks_left s = s.script

-- what the store below means, and steady only where no mark that is left is lost or late
abbrev pub scripted : {S : Type 0} → (S → Meaning) → FaultScript S → Meaning
scripted means s = record { held = (means s.below).held; steady = (means s.below).steady && all_fair (marks_left s) }

-- `put` at each mark: it is asked below, it is not asked, it is asked and its answer is lost
abbrev pub put_at : Mark → (asked : Result (Unit {0}) StoreFault → Type 0) → (untouched : Type 0) → ℕ → Result (Unit {0}) StoreFault → Type 0
put_at Fair asked untouched id r = asked r
put_at Lost asked untouched id r = untouched × (said r ≡ refused 6 (id ∷ []))
put_at Late asked untouched id r = ((q : Result (Unit {0}) StoreFault) × asked q) × (said r ≡ refused 6 (id ∷ []))

-- `head` and `read` at each mark: asked below, or not asked
abbrev pub query_at : Mark → (asked : Result ℕ StoreFault → Type 0) → (untouched : Type 0) → ℕ → Result ℕ StoreFault → Type 0
query_at Fair asked untouched id r = asked r
query_at Lost asked untouched id r = untouched × (said_length r ≡ refused 6 (id ∷ []))
query_at Late asked untouched id r = untouched × (said_length r ≡ refused 6 (id ∷ []))

-- each call uses one mark, and goes as that mark says
module _ {S : Type 0} (means : S → Meaning) (before after : FaultScript S) where
  pub record ScriptedPut (id : ℕ) (text : List ℕ) (r : Result (Unit {0}) StoreFault) : Type 0 where
    pub uses : marks_left after ≡ one_used (marks_left before)
    pub goes : put_at (next_mark (marks_left before)) (Put (means before.below) (means after.below) id text) (after.below ≡ before.below) id r

  pub record ScriptedHead (id : ℕ) (r : Result ℕ StoreFault) : Type 0 where
    pub uses : marks_left after ≡ one_used (marks_left before)
    pub goes : query_at (next_mark (marks_left before)) (Head (means before.below) (means after.below) id) (after.below ≡ before.below) id r

  pub record ScriptedRead (id : ℕ) (buffer left : List ℕ) (r : Result ℕ StoreFault) : Type 0 where
    pub uses : marks_left after ≡ one_used (marks_left before)
    pub goes : query_at (next_mark (marks_left before)) (Read (means before.below) (means after.below) id buffer left) ((after.below ≡ before.below) × (left ≡ buffer)) id r
