-- The outcomes of an arrival and of a taking.
use Rattle.std.proofs.Common.{◌≡◌, ℕ, ◌+◌, Bool, true, false, Some, None, Option, Result, sym, refl, ap, ◌∙◌, subst, arith}
use Rattle.store.specs.declared.fault.StoreFault.{StoreFault}
use Rattle.store.specs.Meaning as store
use Rattle.store.proofs.Outcomes.{one_head}
use Rattle.wal_init.specs.declared.slot.SlotState.{SlotState}
use Rattle.wal_init.specs.declared.slot.SlotState.TheVariants.{Waiting, Arrived, Refused}
use Rattle.wal_init.specs.declared.window.Front.{Front}
use Rattle.wal_init.specs.Slots.{Says}
use Rattle.wal_init.specs.Windows.{Windowed, slot_at, with_answer, Asks, Fronts}
use Rattle.wal_init.specs.Opening.{Meaning, with_window}
use Rattle.wal_init.specs.Laws.{OneArrival, OneTaking}

module _ (before x y : store.Meaning) (st : before.steady ≡ true) where
  one_asking : (w u v : Windowed) (k : ℕ) (b : Bool) → Asks before x w u k b → Asks before y w v k b → (x ≡ y) × (u ≡ v)
  one_asking w u v k true p q =
      let h = one_head before x y (w.next + k) p.0 q.0 st p.1 q.1 in
      (h.1, p.2 ∙ ap (with_answer w k) h.0 ∙ sym q.2)
  one_asking w u v k false p q = (p.0 ∙ sym q.0, p.1 ∙ sym q.1)

  one_answer : (slot : SlotState) (id : ℕ) (a b : Result ℕ StoreFault) → Says before x slot id a → Says before y slot id b → (a ≡ b) × (x ≡ y)
  one_answer Waiting id a b p q = one_head before x y id a b st p q
  one_answer (Arrived n) id a b p q = (p.1 ∙ sym q.1, p.0 ∙ sym q.0)
  one_answer (Refused f) id a b p q = (p.1 ∙ sym q.1, p.0 ∙ sym q.0)

  one_front : (w u v : Windowed) (r s : Option Front) → Fronts before x w u r → Fronts before y w v s → (r ≡ s) × (x ≡ y) × (u ≡ v)
  one_front w u v None None p q = (refl, p.1 ∙ sym q.1, p.2 ∙ sym q.2)
  one_front w u v None (Some g) p q = absurd (omega arith)
  one_front w u v (Some f) None p q = absurd (omega arith)
  one_front w u v (Some f) (Some g) p q =
      let a = one_answer (slot_at w 0) w.next f.answer g.answer p.2 q.2 in
      let i : f.wal_id ≡ g.wal_id = p.1 ∙ sym q.1 in
      let front : ℕ → Result ℕ StoreFault → Front = λ n c. record { wal_id = n; answer = c } in
      (ap (λ n. Some (front n f.answer)) i ∙ ap (λ c. Some (front g.wal_id c)) a.0, a.1, p.3 ∙ sym q.3)

same_window : (m u v : Meaning) → u ≡ with_window m u.window → v ≡ with_window m v.window → u.window ≡ v.window → u ≡ v
same_window m u v p q e = p ∙ ap (with_window m) e ∙ sym q

pub one_arrival : OneArrival
one_arrival before x y m u v k r s st p q =
    let e : r ≡ s = p.window.answer ∙ sym q.window.answer in
    let a = one_asking before x y st m.window u.window v.window k s (subst (Asks before x m.window u.window k) e p.window.asks) q.window.asks in
    (e, a.0, same_window m u v p.rest q.rest a.1)

pub one_taking : OneTaking
one_taking before x y m u v r s st p q =
    let a = one_front before x y st m.window u.window v.window r s p.window.front q.window.front in
    (a.0, a.1, same_window m u v p.rest q.rest a.2)
