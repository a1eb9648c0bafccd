-- What the probe for the last file says and leaves, from what the store meant before it.
use Rattle.std.specs.Prelude.{◌≡◌, ℕ, ◌+◌, ◌^◌, ◌<◌, ◌≤◌, Bool, true, false, cond, ◌⊎◌, [], ◌∷◌, is_some, Result, ◌==◌, nat_lt}
use Rattle.causes.specs.Said.{Said, refused, granted}
use Rattle.store.specs.Meaning.{Held, Meaning}
use Rattle.wal.specs.declared.fault.WalFault.{WalFault}
use Rattle.wal.specs.Said.{said_pair}
use Rattle.wal.specs.Probes.{first_absent, offset_of, calls, Halves}

-- whether the file so many ids behind a start is there
abbrev pub behind : Held → ℕ → ℕ → Bool
behind h start k = is_some (h.files (start + k))

-- where the first absent power of two is below 2^48: the id of the tail and the calls that were made for it
abbrev pub found : Held → ℕ → ℕ → Said
found h start e = cond (e == 48) (refused 13 (start ∷ [])) (granted ((start + offset_of (behind h start) e) ∷ calls e ∷ []))

-- IdsSpent before anything is asked, InvalidDBState where all 48 probes find a file
abbrev pub tail_says : Held → ℕ → Said
tail_says h start = cond (nat_lt (2 ^ 62) start) (refused 14 (start ∷ [])) (found h start (first_absent (behind h start)))

-- the offsets whose answers count: the powers of two up to the first absent one, and those that are halved at
abbrev pub Counts : Held → ℕ → ℕ → Type 0
Counts h start k =
    ((e : ℕ) × (e ≤ first_absent (behind h start)) × (e < 48) × (k ≡ 2 ^ e))
    ⊎ ((first_absent (behind h start) < 48) × Halves (behind h start) (first_absent (behind h start)) k)

-- the store's own fault, at an id whose answer counts
pub record CutOff (before : Meaning) (start : ℕ) (s : Said) : Type 0 where
  pub unsteady : before.steady ≡ false
  pub begun : start ≤ 2 ^ 62
  pub at : ℕ
  pub counts : Counts before.held start at
  pub says : s ≡ refused 6 ((start + at) ∷ [])

pub record Tail (before after : Meaning) (start : ℕ) (r : Result (ℕ × ℕ) WalFault) : Type 0 where
  pub steady : before.steady ≡ true → after.steady ≡ true
  pub held : after.held ≡ before.held
  pub answer : (said_pair r ≡ tail_says before.held start) ⊎ CutOff before start (said_pair r)
