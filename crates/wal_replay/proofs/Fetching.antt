-- The file at the front, asked for and read.
use Rattle.std.proofs.Common.{◌≡◌, ℕ, ◌-◌, ◌≤◌, true, false, eqb, ltb, ◌⊎◌, List, [], ◌∷◌, ◌++◌, length, take, drop, Some, None, Ok, Err, Option, Result, sym, refl, ap, ◌∙◌, subst, inl, inr, ⊎_elim, arith}
use Rattle.std.proofs.lemmas.Bool.{cond-false, both_ways, le-ltb}
use Rattle.std.proofs.lemmas.List.{take_at}
use Rattle.causes.specs.Said.{Said, refused, granted}
use Rattle.store.specs.Meaning as store
use Rattle.store.specs.Meaning.{Held as Stored, WithinLimit}
use Rattle.store.specs.Said as Store-said
use Rattle.store.specs.Calls.{OwnFault, head_says, read_leaves}
use Rattle.store.specs.declared.fault.StoreFault.{StoreFault}
use Rattle.store.specs.declared.fault.StoreFault.TheVariants.{Exists, Missing, NoRoom, TooLong, Short, Unavailable}
use Rattle.mem_table.specs.Meaning.{Held}
use Rattle.wal.specs.declared.fault.WalFault.{WalFault}
use Rattle.wal.specs.declared.fault.WalFault.TheVariants.{Store}
use Rattle.wal.specs.Said as wal-said
use Rattle.wal_init.specs.Opening as opening
use Rattle.wal_init.specs.Slots.{Says}
use Rattle.wal_init.specs.declared.slot.SlotState.{SlotState}
use Rattle.wal_init.specs.declared.slot.SlotState.TheVariants.{Waiting, Arrived, Refused}
use Rattle.wal_init.specs.declared.window.Front.{Front}
use Rattle.wal_init.proofs.Beginning.{number_of, was_unsteady}
use Rattle.wal_init.proofs.Outcomes.{never_zero}
use Rattle.wal_replay.specs.Replays.{Meaning, front, fence, first_slot, with_opening, moved}
use Rattle.wal_replay.specs.Files.{met, refusal, read_met, Against, Refuses, Fetches, Fetched}

abbrev first_value : Said → List ℕ
first_value s = s.values

-- no fault is numbered 0
pub wal_numbered : (f : WalFault) → (wal-said.fault f).number ≡ 0 → ⊥
wal_numbered f e = both_ways (eqb (wal-said.fault f).number 0) (never_zero f) (ap (λ n. eqb n 0) e)

store_numbered : (f : StoreFault) → (Store-said.fault f).number ≡ 0 → ⊥
store_numbered f = wal_numbered (Store f)

met_numbered : (f : StoreFault) → (met f).number ≡ 0 → ⊥
met_numbered (Exists id) e = omega arith
met_numbered (Missing id) e = omega arith
met_numbered (NoRoom id) e = omega arith
met_numbered (TooLong id) e = omega arith
met_numbered (Short n) e = omega arith
met_numbered (Unavailable id) e = omega arith

-- Missing is met as the journal cut off, and the store's own fault as it is
met_missing : (f : StoreFault) (id : ℕ) → Store-said.fault f ≡ refused 2 (id ∷ []) → met f ≡ refused 8 (id ∷ [])
met_missing (Exists k) id e = let z : ◌≡◌ {A = ℕ} 1 2 = ap number_of e in absurd (omega arith)
met_missing (Missing k) id e = ap (refused 8) (ap first_value e)
met_missing (NoRoom k) id e = let z : ◌≡◌ {A = ℕ} 3 2 = ap number_of e in absurd (omega arith)
met_missing (TooLong k) id e = let z : ◌≡◌ {A = ℕ} 4 2 = ap number_of e in absurd (omega arith)
met_missing (Short k) id e = let z : ◌≡◌ {A = ℕ} 5 2 = ap number_of e in absurd (omega arith)
met_missing (Unavailable k) id e = let z : ◌≡◌ {A = ℕ} 6 2 = ap number_of e in absurd (omega arith)

met_own : (f : StoreFault) (id : ℕ) → Store-said.fault f ≡ refused 6 (id ∷ []) → met f ≡ refused 6 (id ∷ [])
met_own (Exists k) id e = e
met_own (Missing k) id e = let z : ◌≡◌ {A = ℕ} 2 6 = ap number_of e in absurd (omega arith)
met_own (NoRoom k) id e = e
met_own (TooLong k) id e = e
met_own (Short k) id e = e
met_own (Unavailable k) id e = e

module _ (s s₁ : store.Meaning) (id : ℕ) where
  says_held : (slot : SlotState) (a : Result ℕ StoreFault) → Says s s₁ slot id a → (s₁.held ≡ s.held) × (s.steady ≡ true → s₁.steady ≡ true)
  says_held Waiting a h = (h.held, h.steady)
  says_held (Arrived n) a h = (ap (λ (x : store.Meaning). x.held) h.0, λ e. ap (λ (x : store.Meaning). x.steady) h.0 ∙ e)
  says_held (Refused f) a h = (ap (λ (x : store.Meaning). x.held) h.0, λ e. ap (λ (x : store.Meaning). x.steady) h.0 ∙ e)

  -- a file that was granted has a slot without a refusal
  says_ok : (slot : SlotState) (n : ℕ) → Says s s₁ slot id (Ok n) → refusal slot ≡ None
  says_ok Waiting n h = refl
  says_ok (Arrived k) n h = refl
  says_ok (Refused f) n h = let p = h.1 in cc

  -- a refusal is one that the slot keeps, the store's own fault, or that the file is missing
  says_err : (slot : SlotState) (f : StoreFault) → Says s s₁ slot id (Err f)
      → ((refusal slot ≡ Some f) ⊎ ((refusal slot ≡ None) × (s.steady ≡ false) × (met f ≡ refused 6 (id ∷ [])))) ⊎ ((refusal slot ≡ None) × (s.held.files id ≡ None) × (met f ≡ refused 8 (id ∷ [])))
  says_err Waiting f h =
      ⊎_elim (λ (p : (Store-said.fault f ≡ head_says (s.held.files id) id) × WithinLimit (s.held.files id)). by_file (s.held.files id) refl p.0)
      (λ (u : OwnFault s id (Store-said.fault f)). inl (inr (refl, u.unsteady, met_own f id u.says)))
      h.answer
    where
      by_file : (o : Option (List ℕ)) → s.held.files id ≡ o → Store-said.fault f ≡ head_says o id
          → ((refusal Waiting ≡ Some f) ⊎ ((refusal Waiting ≡ None) × (s.steady ≡ false) × (met f ≡ refused 6 (id ∷ [])))) ⊎ ((refusal Waiting ≡ None) × (s.held.files id ≡ None) × (met f ≡ refused 8 (id ∷ [])))
      by_file None e q = inr (refl, e, met_missing f id q)
      by_file (Some text) e q = absurd (store_numbered f (ap number_of q))
  says_err (Arrived n) f h = let p = h.1 in cc
  says_err (Refused k) f h = inl (inl (let p = h.1 in cc))

module _ (s s₁ s₂ : store.Meaning) (m : Meaning) (asked : Front) (o : opening.Meaning) (taken : opening.Taken s s₁ m.opening o (Some asked)) where
  pub within : front m ≤ fence m
  within = taken.window.front.0

  pub id_is : asked.wal_id ≡ front m
  id_is = taken.window.front.1

  pub moved_is : with_opening m o ≡ moved m
  moved_is = ap (with_opening m) (taken.rest ∙ ap (opening.with_window m.opening) taken.window.front.3)

  held_on : s₁.held ≡ s.held
  held_on = (says_held s s₁ (front m) (first_slot m) asked.answer taken.window.front.2).0

  steady_on : s.steady ≡ true → s₁.steady ≡ true
  steady_on = (says_held s s₁ (front m) (first_slot m) asked.answer taken.window.front.2).1

  module _ (b b' : List ℕ) (r : Result ℕ WalFault) (f : Fetched s₁ s₂ asked b b' r) where
    pub held_all : s₂.held ≡ s.held
    held_all = f.held ∙ held_on

    pub steady_all : s.steady ≡ true → s₂.steady ≡ true
    steady_all e = f.steady (steady_on e)

  -- what `read` met, of the store before
  fetches : (b b' : List ℕ) (said : Said) → Fetches s₁ asked.wal_id asked.answer b b' said → Fetches (record { held = s.held; steady = s₁.steady }) (front m) asked.answer b b' said
  fetches b b' said f =
      subst (λ (h : Stored). Fetches (record { held = h; steady = s₁.steady }) (front m) asked.answer b b' said) held_on
      (subst (λ k. Fetches s₁ k asked.answer b b' said) id_is f)

  module _ (b b' : List ℕ) (long : 16384 ≤ length b) where
    -- a file that is read fits the buffer
    read_granted : (text : List ℕ) → WithinLimit (Some text) → read_met (Some text) (front m) (length b) ≡ granted (length text ∷ [])
    read_granted text l = cond-false {A = Said} (ltb (length b) (length text)) _ _ (le-ltb (length b) (length text) (omega arith))

    pub fetch_refused : (g : WalFault) (h : Held) → Fetched s₁ s₂ asked b b' (Err g) → Refuses s.steady s.held.files m h b b' (wal-said.fault g)
    fetch_refused g h f = by_answer asked.answer taken.window.front.2 (fetches b b' (wal-said.fault g) f.answer)
      where
        by_file : (file : Option (List ℕ)) → s.held.files (front m) ≡ file → refusal (first_slot m) ≡ None → wal-said.fault g ≡ read_met file (front m) (length b) → b' ≡ read_leaves file b → WithinLimit file → Refuses s.steady s.held.files m h b b' (wal-said.fault g)
        by_file None e c q left l = inr (inr (c, subst (λ x. Against x m h b b' (wal-said.fault g)) (sym e) (q, left)))
        by_file (Some text) e c q left l = absurd (wal_numbered g (ap number_of (q ∙ read_granted text l)))

        by_answer : (a : Result ℕ StoreFault) → Says s s₁ (first_slot m) (front m) a → Fetches (record { held = s.held; steady = s₁.steady }) (front m) a b b' (wal-said.fault g) → Refuses s.steady s.held.files m h b b' (wal-said.fault g)
        by_answer (Ok n) a (inl x) = by_file (s.held.files (front m)) refl (says_ok s s₁ (front m) (first_slot m) n a) x.0 x.1 x.2
        by_answer (Ok n) a (inr x) = inr (inl (says_ok s s₁ (front m) (first_slot m) n a, was_unsteady s.steady s₁.steady steady_on x.0, x.1, x.2))
        by_answer (Err k) a x =
            ⊎_elim
            (λ (y : (refusal (first_slot m) ≡ Some k) ⊎ ((refusal (first_slot m) ≡ None) × (s.steady ≡ false) × (met k ≡ refused 6 (front m ∷ [])))).
            ⊎_elim (λ (z : refusal (first_slot m) ≡ Some k). inl (k, z, x.0, x.1)) (λ (z : (refusal (first_slot m) ≡ None) × (s.steady ≡ false) × (met k ≡ refused 6 (front m ∷ []))). inr (inl (z.0, z.1, x.0 ∙ z.2, x.1))) y)
            (λ (y : (refusal (first_slot m) ≡ None) × (s.held.files (front m) ≡ None) × (met k ≡ refused 8 (front m ∷ []))).
            inr (inr (y.0, subst (λ o. Against o m h b b' (wal-said.fault g)) (sym y.1) (x.0 ∙ y.2, x.1))))
            (says_err s s₁ (front m) (first_slot m) k a)

    -- the text that was read
    pub record Got (len : ℕ) : Type 0 where
      pub slot : refusal (first_slot m) ≡ None
      pub text : List ℕ
      pub file : s.held.files (front m) ≡ Some text
      pub left : b' ≡ read_leaves (Some text) b
      pub here : take (len - 0) b' ≡ text

    pub fetch_got : (len : ℕ) → Fetched s₁ s₂ asked b b' (Ok len) → Got len
    fetch_got len f = by_answer asked.answer taken.window.front.2 (fetches b b' (granted (len ∷ [])) f.answer)
      where
        by_file : (file : Option (List ℕ)) → s.held.files (front m) ≡ file → refusal (first_slot m) ≡ None → granted (len ∷ []) ≡ read_met file (front m) (length b) → b' ≡ read_leaves file b → WithinLimit file → Got len
        by_file None e c q left l = let z : ◌≡◌ {A = ℕ} 0 8 = ap number_of q in absurd (omega arith)
        by_file (Some text) e c q left l =
            let v : len ∷ [] ≡ length text ∷ [] = ap first_value (q ∙ read_granted text l) in
            let n : len ≡ length text = cc in
            let w : read_leaves (Some text) b ≡ text ++ drop (length text) b = cond-false {A = List ℕ} (ltb (length b) (length text)) _ _ (le-ltb (length b) (length text) (omega arith)) in
            record { slot = c; text = text; file = e; left = left; here = ap (take (len - 0)) (left ∙ w) ∙ take_at text (drop (length text) b) (len - 0) (omega arith) }

        by_answer : (a : Result ℕ StoreFault) → Says s s₁ (first_slot m) (front m) a → Fetches (record { held = s.held; steady = s₁.steady }) (front m) a b b' (granted (len ∷ [])) → Got len
        by_answer (Ok n) a (inl x) = by_file (s.held.files (front m)) refl (says_ok s s₁ (front m) (first_slot m) n a) x.0 x.1 x.2
        by_answer (Ok n) a (inr x) = let z : ◌≡◌ {A = ℕ} 0 6 = ap number_of x.1 in absurd (omega arith)
        by_answer (Err k) a x = absurd (met_numbered k (sym (ap number_of x.0)))
