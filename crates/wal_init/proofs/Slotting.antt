-- An event at a slot of a window.
use Rattle.std.proofs.Common.{◌≡◌, ℕ, ◌+◌, ◌<◌, ◌&&◌, List, set, Result, sym, refl, ap, ◌∙◌}
use lib.Seq.{set-get_or}
use Rattle.std.proofs.lemmas.Bool.{lt-ltb}
use Rattle.store.specs.declared.fault.StoreFault.{StoreFault}
use Rattle.store.specs.Meaning.{Meaning}
use Rattle.wal_init.specs.declared.slot.SlotState.{SlotState}
use Rattle.wal_init.specs.declared.slot.SlotState.TheVariants.{Waiting, Arrived, Refused}
use Rattle.wal_init.specs.declared.slot.Event.TheVariants.{Arrival}
use Rattle.wal_init.specs.Slots.{is_waiting, keeps, Meets}
use Rattle.wal_init.specs.Windows.{Windowed, open_slots, slot_at, Asks, Arrives}

-- the window with one slot as it is after an event
abbrev pub with_slot : Windowed → ℕ → SlotState → Windowed
with_slot w k slot = record { next = w.next; end = w.end; most = w.most; slots = set w.slots k slot }

module _ (s s' : Meaning) (w : Windowed) (k : ℕ) (slot' : SlotState) (a : Result ℕ StoreFault) where
  unchanged : slot' ≡ slot_at w k → with_slot w k slot' ≡ w
  unchanged e = let f : List SlotState → Windowed = λ l. record { next = w.next; end = w.end; most = w.most; slots = l } in
      ap (λ x. f (set w.slots k x)) e ∙ ap f (set-get_or w.slots k Waiting)

  asks : (st : SlotState) → slot_at w k ≡ st → Meets s s' st slot' (w.next + k) Arrival a → Asks s s' w (with_slot w k slot') k (is_waiting st)
  asks Waiting e m = (a, m.answer, ap (λ x. with_slot w k x) m.left)
  asks (Arrived n) e m = (m.answer.0, unchanged (m.left ∙ ap keeps m.answer.1 ∙ sym e))
  asks (Refused f) e m = (m.answer.0, unchanged (m.left ∙ ap keeps m.answer.1 ∙ sym e))

  pub arrives : k < open_slots w → Meets s s' (slot_at w k) slot' (w.next + k) Arrival a → Arrives s s' w (with_slot w k slot') k (is_waiting (slot_at w k))
  arrives h m = record {
    answer = sym (ap (λ t. t && is_waiting (slot_at w k)) (lt-ltb k (open_slots w) h));
    asks = asks (slot_at w k) refl m;
  }
