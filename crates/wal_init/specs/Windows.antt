-- What a window is in contracts, and what each of its calls does.
use Rattle.std.specs.Prelude.{◌≡◌, ℕ, ◌+◌, ◌-◌, ◌^◌, ◌<◌, ◌≤◌, min, Bool, true, false, ◌&&◌, List, [], ◌∷◌, ◌++◌, length, drop, replicate, Some, None, Option, Result, nat_lt, slice_index_or, slice_set}
use Rattle.store.specs.declared.fault.StoreFault.{StoreFault}
use Rattle.store.specs.Meaning.{Meaning}
use Rattle.store.specs.Calls.{Head}
use Rattle.wal_init.specs.declared.slot.SlotState.{SlotState}
use Rattle.wal_init.specs.declared.slot.SlotState.TheVariants.{Waiting}
use Rattle.wal_init.specs.declared.window.Front.{Front}
use Rattle.wal_init.specs.Slots.{is_waiting, keeps, Says}

pub record Windowed : Type 0 where
  -- the next unread id, and the last to read
  pub next : ℕ
  pub end : ℕ
  -- how many slots there are at most
  pub most : ℕ
  -- for the next id and those behind it
  pub slots : List SlotState

-- what holds of every window: its last id is one that a file may have, and it has 1 to 16 slots
pub record Sound (w : Windowed) : Type 0 where
  pub small : w.end ≤ 2 ^ 62
  pub covered : w.next ≤ w.end + 1
  pub some : 0 < w.most
  pub narrow : w.most ≤ 16
  pub long : length w.slots ≡ 16

-- a window of which no file was asked for
abbrev pub begun : ℕ → ℕ → ℕ → Windowed
begun next end most = record { next = next; end = end; most = most; slots = replicate 16 Waiting }

-- a window with nothing left to read
abbrev pub over : Windowed → Windowed
over w = begun (w.end + 1) w.end w.most

-- how many slots there are: as many as fit before the end
abbrev pub open_slots : Windowed → ℕ
open_slots w = min w.most (w.end + 1 - w.next)

-- the slot so far behind the front
abbrev pub slot_at : Windowed → ℕ → SlotState
slot_at w k = slice_index_or w.slots k Waiting

-- there is a slot so far behind the front, and it was not asked
abbrev pub unasked : Windowed → ℕ → Bool
unasked w k = nat_lt k (open_slots w) && is_waiting (slot_at w k)

-- the window with an answer kept in one slot
abbrev pub with_answer : Windowed → ℕ → Result ℕ StoreFault → Windowed
with_answer w k a = record { next = w.next; end = w.end; most = w.most; slots = slice_set w.slots k (keeps a) }

-- the window behind the front
abbrev pub moved_on : Windowed → Windowed
moved_on w = record { next = w.next + 1; end = w.end; most = w.most; slots = drop 1 w.slots ++ Waiting ∷ [] }

-- asked for, with the answer kept in that slot; else nothing changes
abbrev pub Asks : Meaning → Meaning → Windowed → Windowed → ℕ → Bool → Type 0
Asks s s' w w' k true = (a : Result ℕ StoreFault) × Head s s' (w.next + k) a × (w' ≡ with_answer w k a)
Asks s s' w w' k false = (s' ≡ s) × (w' ≡ w)

-- an arrival so far behind the front
pub record Arrives (s s' : Meaning) (w w' : Windowed) (k : ℕ) (r : Bool) : Type 0 where
  pub answer : r ≡ unasked w k
  pub asks : Asks s s' w w' k r

-- the front's file with the answer of its slot, and the window behind it; none where no id is left
abbrev pub Fronts : Meaning → Meaning → Windowed → Windowed → Option Front → Type 0
Fronts s s' w w' None = (w.end < w.next) × (s' ≡ s) × (w' ≡ w)
Fronts s s' w w' (Some f) =
    (w.next ≤ w.end) × (f.wal_id ≡ w.next) × Says s s' (slot_at w 0) w.next f.answer × (w' ≡ moved_on w)

pub record Takes (s s' : Meaning) (w w' : Windowed) (r : Option Front) : Type 0 where
  pub front : Fronts s s' w w' r
