-- What the parts of a probe say of the store: one id, a round of eight, all rounds, the halving.
use Rattle.std.specs.Prelude.{◌≡◌, ℕ, ◌+◌, ◌-◌, ◌*◌, ◌/◌, ◌^◌, ◌<◌, ◌≤◌, Bool, true, false, ◌⊎◌, List, length, is_some, Ok, Err, Result, slice_index_or}
use Rattle.store.specs.declared.fault.StoreFault.{StoreFault}
use Rattle.store.specs.declared.fault.StoreFault.TheVariants.{Unavailable}
use Rattle.store.specs.Meaning.{Meaning}
use Rattle.wal.specs.declared.fault.WalFault.{WalFault}
use Rattle.wal.specs.declared.fault.WalFault.TheVariants.{Store, InvalidDBState}
use Rattle.wal.specs.Probes.{first_absent, offset_of, Halves}
use Rattle.wal.specs.Tails.{behind}

-- an answer of one id: whether it has a file, or an unsteady store's own fault
abbrev pub Tells : Meaning → ℕ → Result Bool StoreFault → Type 0
Tells m id r = (r ≡ Ok (is_some (m.held.files id))) ⊎ ((m.steady ≡ false) × (r ≡ Err (Unavailable id)))

-- nothing that is held changed, and steady stays steady
pub record Same (before after : Meaning) : Type 0 where
  pub steady : before.steady ≡ true → after.steady ≡ true
  pub held : after.held ≡ before.held

pub record Asked (before after : Meaning) (id : ℕ) (r : Result Bool StoreFault) : Type 0 where
  pub same : Same before after
  pub tells : Tells before id r

-- eight answers, for the powers of two from this exponent on
pub record Round (before after : Meaning) (start exp : ℕ) (rs : List (Result Bool StoreFault)) : Type 0 where
  pub same : Same before after
  pub long : length rs ≡ 8
  pub each : (j : ℕ) → j < 8 → Tells before (start + 2 ^ (exp + j)) (slice_index_or rs j (Ok false))

-- the first absent exponent, with eight calls for each round begun
pub record First (before : Meaning) (start e calls : ℕ) : Type 0 where
  pub is : e ≡ first_absent (behind before.held start)
  pub below : e < 48
  pub asked : calls ≡ 8 * (e / 8 + 1)

-- the store's own fault at a power up to the first absent one
pub record CutRound (before : Meaning) (start : ℕ) (r : Result (ℕ × ℕ) WalFault) : Type 0 where
  pub unsteady : before.steady ≡ false
  pub exp : ℕ
  pub reached : exp ≤ first_absent (behind before.held start)
  pub below : exp < 48
  pub is : r ≡ Err (Store (Unavailable (start + 2 ^ exp)))

abbrev pub RoundsAnswer : Meaning → ℕ → Result (ℕ × ℕ) WalFault → Type 0
RoundsAnswer m start r =
    ((p : ℕ × ℕ) × (r ≡ Ok p) × First m start p.0 p.1)
    ⊎ ((r ≡ Err (InvalidDBState start)) × (first_absent (behind m.held start) ≡ 48))
    ⊎ CutRound m start r

pub record Rounds (before after : Meaning) (start : ℕ) (r : Result (ℕ × ℕ) WalFault) : Type 0 where
  pub same : Same before after
  pub answer : RoundsAnswer before start r

-- the store's own fault at an offset that is halved at
pub record CutHalf (before : Meaning) (start e : ℕ) (r : Result (ℕ × ℕ) WalFault) : Type 0 where
  pub unsteady : before.steady ≡ false
  pub at : ℕ
  pub halves : Halves (behind before.held start) e at
  pub is : r ≡ Err (Store (Unavailable (start + at)))

-- the tail's offset, with a call for each digit after the highest
pub record Halved (before after : Meaning) (start e : ℕ) (r : Result (ℕ × ℕ) WalFault) : Type 0 where
  pub same : Same before after
  pub answer : (r ≡ Ok (offset_of (behind before.held start) e, e - 1)) ⊎ CutHalf before start e r
