-- What the putting of a fence says and leaves, from what the store meant before it.
use Rattle.std.specs.Prelude.{◌≡◌, ℕ, ◌+◌, ◌-◌, ◌^◌, ◌<◌, ◌≤◌, min, Bool, true, false, cond, ◌⊎◌, [], ◌∷◌, is_some, None, Ok, Err, Result, ◌==◌}
use Rattle.causes.specs.Said.{Said, refused, granted}
use Rattle.store.specs.declared.fault.StoreFault.{StoreFault}
use Rattle.store.specs.declared.fault.StoreFault.TheVariants.{Exists, Missing, NoRoom, TooLong, Short, Unavailable}
use Rattle.store.specs.Meaning.{Held, Meaning}
use Rattle.store.specs.Calls.{Put, OwnFault, put_says, put_leaves}
use Rattle.wal.specs.declared.fault.WalFault.{WalFault}
use Rattle.wal.specs.Said.{fault}
use Rattle.wal_init.specs.declared.wal_id.WalId.{WalId}

-- the last id that is tried: 4,096 ids in all, and none above 2^62
abbrev pub reach : ℕ → ℕ
reach start = min (start + 4095) (2 ^ 62)

-- an id that is tried: each one before it has a file
pub record Tried (h : Held) (start id : ℕ) : Type 0 where
  pub from : start ≤ id
  pub within : id ≤ reach start
  pub met : (k : ℕ) → start ≤ k → k < id → is_some (h.files k) ≡ true

-- the trying stops at the first id that has no file, or at the last that is tried
abbrev pub Stops : Held → ℕ → ℕ → Type 0
Stops h start id = (h.files id ≡ None) ⊎ (id ≡ reach start)

-- all that are tried have files: Attempts before IdsSpent
abbrev pub spent : ℕ → ℕ → Said
spent start id = cond (id == start + 4095) (refused 15 (id ∷ [])) (refused 14 ((id + 1) ∷ []))

-- what is said where the trying stopped: the fence's id and the puts that it took, or a cause
abbrev pub settled : ℕ → ℕ → Said → Said
settled start id s =
    cond (s.number == 0) (granted (id ∷ (id - start + 1) ∷ []))
    (cond (s.number == 1) (spent start id) s)

abbrev pub fence_says : Held → ℕ → ℕ → Said
fence_says h start id = settled start id (put_says h id [])

-- a fence that is put from an id on
pub record Fenced (before after : Meaning) (start : ℕ) (s : Said) : Type 0 where
  pub steady : before.steady ≡ true → after.steady ≡ true
  -- where the last put was
  pub id : ℕ
  pub tried : Tried before.held start id
  pub answer : (Stops before.held start id × (s ≡ fence_says before.held start id) × (after.held ≡ put_leaves before.held id []))
      ⊎ (OwnFault before id s × ((after.held ≡ before.held) ⊎ (after.held ≡ put_leaves before.held id [])))

-- what an answer of a fence's id and the puts that it took says
abbrev pub said_fence : Result (WalId × ℕ) WalFault → Said
said_fence (Ok p) = granted (p.0.number ∷ p.1 ∷ [])
said_fence (Err f) = fault f

-- one put of a fence: whether the id was free
abbrev pub wrote : Result (Unit {0}) StoreFault → Result Bool StoreFault
wrote (Ok u) = Ok true
wrote (Err (Exists id)) = Ok false
wrote (Err (Missing id)) = Err (Missing id)
wrote (Err (NoRoom id)) = Err (NoRoom id)
wrote (Err (TooLong id)) = Err (TooLong id)
wrote (Err (Short n)) = Err (Short n)
wrote (Err (Unavailable id)) = Err (Unavailable id)

pub record FencePut (before after : Meaning) (id : ℕ) (r : Result Bool StoreFault) : Type 0 where
  pub says : Result (Unit {0}) StoreFault
  pub put : Put before after id [] says
  pub answer : r ≡ wrote says
