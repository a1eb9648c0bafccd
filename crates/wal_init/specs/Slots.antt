-- What an event does at a slot.
use Rattle.std.specs.Prelude.{◌≡◌, ℕ, Bool, true, false, Ok, Err, Result}
use Rattle.store.specs.declared.fault.StoreFault.{StoreFault}
use Rattle.store.specs.Meaning.{Meaning}
use Rattle.store.specs.Calls.{Head}
use Rattle.wal_init.specs.declared.slot.SlotState.{SlotState}
use Rattle.wal_init.specs.declared.slot.SlotState.TheVariants.{Waiting, Arrived, Refused}
use Rattle.wal_init.specs.declared.slot.Event.{Event}
use Rattle.wal_init.specs.declared.slot.Event.TheVariants.{Arrival, Taking}

abbrev pub is_waiting : SlotState → Bool
is_waiting Waiting = true
is_waiting (Arrived n) = false
is_waiting (Refused f) = false

-- the state that keeps an answer
abbrev pub keeps : Result ℕ StoreFault → SlotState
keeps (Ok n) = Arrived n
keeps (Err f) = Refused f

-- an answer of a slot: asked now where it waits, else the one that it keeps
abbrev pub Says : Meaning → Meaning → SlotState → ℕ → Result ℕ StoreFault → Type 0
Says s s' Waiting id a = Head s s' id a
Says s s' (Arrived n) id a = (s' ≡ s) × (a ≡ Ok n)
Says s s' (Refused f) id a = (s' ≡ s) × (a ≡ Err f)

-- an arrival leaves the answer kept, a taking leaves the slot free
abbrev pub leaves : Event → Result ℕ StoreFault → SlotState
leaves Arrival a = keeps a
leaves Taking a = Waiting

pub record Meets (s s' : Meaning) (slot slot' : SlotState) (id : ℕ) (event : Event) (r : Result ℕ StoreFault) : Type 0 where
  pub answer : Says s s' slot id r
  pub left : slot' ≡ leaves event r
