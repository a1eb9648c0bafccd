-- What follows from the promises of an opening and its window, for every store.
use Rattle.std.specs.Prelude.{◌≡◌, ℕ, ◌+◌, ◌-◌, ◌<◌, ◌≤◌, Bool, true, ◌⊎◌, List, [], ◌∷◌, is_some, Some, None, Ok, Err, Option, Result}
use Rattle.causes.specs.Said.{granted}
use Rattle.store.specs.Meaning as store
use Rattle.wal.specs.declared.fault.WalFault.{WalFault}
use Rattle.wal_init.specs.declared.record.ManifestRecord.{ManifestRecord}
use Rattle.wal_init.specs.declared.record.Options.{Options}
use Rattle.wal_init.specs.declared.grant.Grant.{Grant}
use Rattle.wal_init.specs.declared.window.Front.{Front}
use Rattle.wal_init.specs.WriterInit.{said_grant, first_says, start_says, Opened}
use Rattle.wal_init.specs.Fences.{Tried}
use Rattle.wal_init.specs.Opening.{Meaning, opened, Arrived, Taken}

-- the same fault, or grants of the same numbers
abbrev pub Alike : Result Grant WalFault → Result Grant WalFault → Type 0
Alike (Ok g) (Ok h) = (g.attempts ≡ h.attempts) × (opened g ≡ opened h)
Alike (Ok g) (Err f) = ⊥
Alike (Err f) (Ok h) = ⊥
Alike (Err f) (Err e) = f ≡ e

-- on a steady store any two outcomes of one opening agree: the answers, what the store means after it, and what is opened
abbrev pub OneOpening : Type 0
OneOpening =
    (before x y : store.Meaning) (m : ManifestRecord) (id : ℕ) (o : Options) (r s : Result Grant WalFault) → before.steady ≡ true
    → Opened before x m id o r → Opened before y m id o s → Alike r s × (x ≡ y)

-- likewise of one arrival
abbrev pub OneArrival : Type 0
OneArrival =
    (before x y : store.Meaning) (m u v : Meaning) (k : ℕ) (r s : Bool) → before.steady ≡ true
    → Arrived before x m u k r → Arrived before y m v k s → (r ≡ s) × (x ≡ y) × (u ≡ v)

-- likewise of one taking of the front
abbrev pub OneTaking : Type 0
OneTaking =
    (before x y : store.Meaning) (m u v : Meaning) (r s : Option Front) → before.steady ≡ true
    → Taken before x m u r → Taken before y m v s → (r ≡ s) × (x ≡ y) × (u ≡ v)

-- a granted opening: its fence is the empty file at the first free id from its start on
pub record Stands (before after : store.Meaning) (m : ManifestRecord) (id : ℕ) (o : Options) (g : Grant) : Type 0 where
  pub start : ℕ
  pub begins : start_says before.held m id o ≡ granted (start ∷ [])
  pub given : m.replay_after_wal_id < id → start ≡ id
  pub from : start ≤ g.fence
  pub met : (k : ℕ) → start ≤ k → k < g.fence → is_some (before.held.files k) ≡ true
  pub absent : before.held.files g.fence ≡ None
  pub present : after.held.files g.fence ≡ Some []
  pub attempts : g.attempts + start ≡ g.fence + 1

abbrev pub GrantedOpeningsFence : Type 0
GrantedOpeningsFence =
    (before after : store.Meaning) (m : ManifestRecord) (id : ℕ) (o : Options) (g : Grant) → Opened before after m id o (Ok g)
    → Stands before after m id o g

-- an id that the record covers is replaced by one that is free: a granted opening took one put
abbrev pub CoveredIdsTakeOne : Type 0
CoveredIdsTakeOne =
    (before after : store.Meaning) (m : ManifestRecord) (id : ℕ) (o : Options) (g : Grant) → Opened before after m id o (Ok g)
    → id ≤ m.replay_after_wal_id → g.attempts ≡ 1

-- a steady store with room grants an opening whose arguments have nothing against them, at the first free id within reach of the one given
abbrev pub FreeIdsAreGranted : Type 0
FreeIdsAreGranted =
    (before after : store.Meaning) (m : ManifestRecord) (id : ℕ) (o : Options) (r : Result Grant WalFault) (free : ℕ) → Opened before after m id o r
    → before.steady ≡ true → first_says m id o ≡ granted [] → m.replay_after_wal_id < id → Tried before.held id free → before.held.files free ≡ None → 0 < before.held.places
    → said_grant r ≡ granted (free ∷ (free - id + 1) ∷ [])

-- whatever an opening answers, a file that was there is there with the same text
abbrev pub FilesStay : Type 0
FilesStay =
    (before after : store.Meaning) (m : ManifestRecord) (id : ℕ) (o : Options) (r : Result Grant WalFault) → Opened before after m id o r
    → (k : ℕ) (old : List ℕ) → before.held.files k ≡ Some old → after.held.files k ≡ Some old

-- an opening that is refused changes nothing that is held, unless the cause is number 6
abbrev pub RefusedOpeningsLeave : Type 0
RefusedOpeningsLeave =
    (before after : store.Meaning) (m : ManifestRecord) (id : ℕ) (o : Options) (f : WalFault) → Opened before after m id o (Err f)
    → (after.held ≡ before.held) ⊎ ((said_grant (Err f)).number ≡ 6)
