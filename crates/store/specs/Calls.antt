-- What each call of a store says and leaves, from what the store meant before it.
use Rattle.std.specs.Prelude.{◌≡◌, ℕ, Bool, true, false, cond, ◌||◌, ◌⊎◌, List, [], ◌∷◌, ◌++◌, length, drop, is_some, Some, None, Option, Result, ◌==◌, nat_lt}
use Rattle.store.specs.declared.fault.StoreFault.{StoreFault}
use Rattle.causes.specs.Said.{Said, refused, granted}
use Rattle.store.specs.Said.{said, said_length}
use Rattle.store.specs.Meaning.{Held, Meaning, WithinLimit, added}

-- there is no place left, or fewer bytes than these
abbrev pub lacks : Held → ℕ → Bool
lacks h n = nat_lt h.places 1 || nat_lt h.bytes n

-- `put`: TooLong before Exists before NoRoom
abbrev pub put_says : Held → ℕ → List ℕ → Said
put_says h id text =
    cond (nat_lt 16384 (length text)) (refused 4 (id ∷ []))
    (cond (is_some (h.files id)) (refused 1 (id ∷ []))
    (cond (lacks h (length text)) (refused 3 (id ∷ []))
    (granted [])))

-- the file is added, unless a cause stands against it
abbrev pub put_leaves : Held → ℕ → List ℕ → Held
put_leaves h id text = cond ((put_says h id text).number == 0) (added h id text) h

abbrev pub head_says : Option (List ℕ) → ℕ → Said
head_says None id = refused 2 (id ∷ [])
head_says (Some text) id = granted (length text ∷ [])

-- `read` into so many bytes: Missing before Short
abbrev pub read_says : Option (List ℕ) → ℕ → ℕ → Said
read_says None id n = refused 2 (id ∷ [])
read_says (Some text) id n = cond (nat_lt n (length text)) (refused 5 (length text ∷ [])) (granted (length text ∷ []))

-- the file at the buffer's beginning and the buffer's rest as it was; a refusal leaves the buffer
abbrev pub read_leaves : Option (List ℕ) → List ℕ → List ℕ
read_leaves None buffer = buffer
read_leaves (Some text) buffer = cond (nat_lt (length buffer) (length text)) buffer (text ++ drop (length text) buffer)

-- the store's own fault, which only an unsteady store has
pub record OwnFault (before : Meaning) (id : ℕ) (s : Said) : Type 0 where
  pub unsteady : before.steady ≡ false
  pub says : s ≡ refused 6 (id ∷ [])

pub record Put (before after : Meaning) (id : ℕ) (text : List ℕ) (r : Result (Unit {0}) StoreFault) : Type 0 where
  pub steady : before.steady ≡ true → after.steady ≡ true
  pub answer : ((said r ≡ put_says before.held id text) × (after.held ≡ put_leaves before.held id text))
      ⊎ (OwnFault before id (said r) × ((after.held ≡ before.held) ⊎ (after.held ≡ put_leaves before.held id text)))

pub record Head (before after : Meaning) (id : ℕ) (r : Result ℕ StoreFault) : Type 0 where
  pub steady : before.steady ≡ true → after.steady ≡ true
  pub held : after.held ≡ before.held
  pub answer : ((said_length r ≡ head_says (before.held.files id) id) × WithinLimit (before.held.files id))
      ⊎ OwnFault before id (said_length r)

pub record Read (before after : Meaning) (id : ℕ) (buffer left : List ℕ) (r : Result ℕ StoreFault) : Type 0 where
  pub steady : before.steady ≡ true → after.steady ≡ true
  pub held : after.held ≡ before.held
  pub answer : ((said_length r ≡ read_says (before.held.files id) id (length buffer)) × (left ≡ read_leaves (before.held.files id) buffer)
      × WithinLimit (before.held.files id))
      ⊎ (OwnFault before id (said_length r) × (left ≡ buffer))
