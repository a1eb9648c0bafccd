-- What follows from the calls' promises, for every store.
use Rattle.std.specs.Prelude.{◌≡◌, ℕ, ◌+◌, ◌≤◌, true, ◌⊎◌, List, length, Some, None, Ok, Err, Result}
use Rattle.store.specs.declared.fault.StoreFault.{StoreFault}
use Rattle.store.specs.Said.{fault}
use Rattle.store.specs.Meaning.{Meaning}
use Rattle.store.specs.Calls.{Put, Head, Read}

-- on a steady store any two outcomes of one `put` agree: the answers, and what the store means after it
abbrev pub OnePut : Type 0
OnePut =
    (before x y : Meaning) (id : ℕ) (text : List ℕ) (r s : Result (Unit {0}) StoreFault) → before.steady ≡ true
    → Put before x id text r → Put before y id text s → (r ≡ s) × (x ≡ y)

-- likewise of one `head`
abbrev pub OneHead : Type 0
OneHead =
    (before x y : Meaning) (id : ℕ) (r s : Result ℕ StoreFault) → before.steady ≡ true
    → Head before x id r → Head before y id s → (r ≡ s) × (x ≡ y)

-- likewise of one `read`, and of the buffer after it
abbrev pub OneRead : Type 0
OneRead =
    (before x y : Meaning) (id : ℕ) (buffer u v : List ℕ) (r s : Result ℕ StoreFault) → before.steady ≡ true
    → Read before x id buffer u r → Read before y id buffer v s → (r ≡ s) × (x ≡ y) × (u ≡ v)

-- a `put` that is granted: the id had no file, it has this one now, and a place and the text's length are taken
pub record Created (before after : Meaning) (id : ℕ) (text : List ℕ) : Type 0 where
  pub absent : before.held.files id ≡ None
  pub present : after.held.files id ≡ Some text
  pub limit : length text ≤ 16384
  pub places : after.held.places + 1 ≡ before.held.places
  pub bytes : after.held.bytes + length text ≡ before.held.bytes

abbrev pub GrantedPutsCreate : Type 0
GrantedPutsCreate = (before after : Meaning) (id : ℕ) (text : List ℕ) → Put before after id text (Ok tt) → Created before after id text

-- whatever a `put` answers, a file that was there is there with the same text
abbrev pub FilesStay : Type 0
FilesStay =
    (before after : Meaning) (id : ℕ) (text : List ℕ) (r : Result (Unit {0}) StoreFault) → Put before after id text r
    → (k : ℕ) (old : List ℕ) → before.held.files k ≡ Some old → after.held.files k ≡ Some old

-- a `put` that is refused changes nothing that is held, unless the cause is number 6
abbrev pub RefusedPutsLeave : Type 0
RefusedPutsLeave =
    (before after : Meaning) (id : ℕ) (text : List ℕ) (f : StoreFault) → Put before after id text (Err f)
    → (after.held ≡ before.held) ⊎ ((fault f).number ≡ 6)
