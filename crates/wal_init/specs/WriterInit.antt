-- What an opening says and leaves, from what the store meant before it.
use Rattle.std.specs.Prelude.{◌≡◌, ℕ, ◌+◌, ◌^◌, ◌≤◌, Bool, true, false, cond, ◌||◌, ◌⊎◌, [], ◌∷◌, Ok, Err, Result, ◌==◌, nat_eq, nat_lt, slice_index}
use Rattle.causes.specs.Said.{Said, refused, granted}
use Rattle.store.specs.Meaning.{Held, Meaning}
use Rattle.wal.specs.declared.fault.WalFault.{WalFault}
use Rattle.wal.specs.Said.{fault}
use Rattle.wal.specs.Tails.{tail_says, CutOff}
use Rattle.wal_init.specs.declared.record.ManifestRecord.{ManifestRecord}
use Rattle.wal_init.specs.declared.record.Options.{Options}
use Rattle.wal_init.specs.declared.arguments.Arguments.{Arguments}
use Rattle.wal_init.specs.declared.grant.Grant.{Grant}
use Rattle.wal_init.specs.declared.wal_id.WalId.{WalId}
use Rattle.wal_init.specs.Fences.{Fenced}

-- what an answer of an id says
abbrev pub said_id : Result WalId WalFault → Said
said_id (Ok n) = granted (n.number ∷ [])
said_id (Err f) = fault f

-- what an opening says: its fence and the puts that it took
abbrev pub said_grant : Result Grant WalFault → Said
said_grant (Ok g) = granted (g.fence ∷ g.attempts ∷ [])
said_grant (Err f) = fault f

-- below 1 or above the most
abbrev pub outside : ℕ → ℕ → Bool
outside most n = n == 0 || nat_lt most n

-- an id, or that it is above 2^62
abbrev pub id_says : ℕ → Said
id_says n = cond (nat_lt (2 ^ 62) n) (refused 14 (n ∷ [])) (granted (n ∷ []))

-- what is said of the arguments alone: window, id given, id of the record, block size
abbrev pub first_says : ManifestRecord → ℕ → Options → Said
first_says m id o =
    cond (outside 16 o.sst_batch_size) (refused 12 (o.sst_batch_size ∷ []))
    (cond (nat_lt (2 ^ 62) id) (refused 14 (id ∷ []))
    (cond (nat_lt (2 ^ 62) m.replay_after_wal_id) (refused 14 (m.replay_after_wal_id ∷ []))
    (cond (outside 65536 o.block_size) (refused 24 (o.block_size ∷ []))
    (granted []))))

-- one more than the tail, or the tail's own cause
abbrev pub past_tail : Said → Said
past_tail s = cond (s.number == 0) (id_says (slice_index s.values 0 + 1)) s

-- the id to begin at: the one given, or one more than the tail where the record covers it already
abbrev pub begin_says : Held → ManifestRecord → ℕ → Said
begin_says h m id = cond (nat_lt m.replay_after_wal_id id) (granted (id ∷ [])) (past_tail (tail_says h m.replay_after_wal_id))

-- the id at which the first fence is put, or what stands against it
abbrev pub start_says : Held → ManifestRecord → ℕ → Options → Said
start_says h m id o = cond ((first_says m id o).number == 0) (begin_says h m id) (first_says m id o)

-- what stands against the arguments, or the arguments with the block size that they give
abbrev pub Checked : ManifestRecord → ℕ → Options → Result Arguments WalFault → Type 0
Checked m id o (Ok a) = (first_says m id o ≡ granted []) × (a.manifest ≡ m) × (a.id.number ≡ id) × (a.options ≡ o) × (a.block.bytes ≡ o.block_size)
Checked m id o (Err f) = first_says m id o ≡ fault f

-- the tail that an opening needs met the store's own fault
pub record TailLost (before : Meaning) (m : ManifestRecord) (id : ℕ) (s : Said) : Type 0 where
  pub covered : id ≤ m.replay_after_wal_id
  pub cut : CutOff before m.replay_after_wal_id s

-- the id to begin at, asked for
pub record Begins (before after : Meaning) (m : ManifestRecord) (id : ℕ) (s : Said) : Type 0 where
  pub steady : before.steady ≡ true → after.steady ≡ true
  pub held : after.held ≡ before.held
  pub answer : (s ≡ begin_says before.held m id) ⊎ TailLost before m id s

-- no fence was put: a cause stood against it, or the tail met the store's own fault
pub record TurnedAway (before after : Meaning) (m : ManifestRecord) (id : ℕ) (o : Options) (s : Said) : Type 0 where
  pub held : after.held ≡ before.held
  pub cause : nat_eq s.number 0 ≡ false
  pub answer : (s ≡ start_says before.held m id o) ⊎ ((first_says m id o ≡ granted []) × TailLost before m id s)

-- fences were put from an id on
pub record Begun (before after : Meaning) (m : ManifestRecord) (id : ℕ) (o : Options) (s : Said) : Type 0 where
  pub start : ℕ
  pub begins : start_says before.held m id o ≡ granted (start ∷ [])
  pub fenced : Fenced before after start s

-- a grant carries what the opening was given
abbrev pub Carries : ManifestRecord → Options → Result Grant WalFault → Type 0
Carries m o (Ok g) = (g.manifest ≡ m) × (g.options ≡ o) × (g.block.bytes ≡ o.block_size)
Carries m o (Err f) = Unit {0}

pub record Opened (before after : Meaning) (m : ManifestRecord) (id : ℕ) (o : Options) (r : Result Grant WalFault) : Type 0 where
  pub steady : before.steady ≡ true → after.steady ≡ true
  pub outcome : TurnedAway before after m id o (said_grant r) ⊎ Begun before after m id o (said_grant r)
  pub carries : Carries m o r
