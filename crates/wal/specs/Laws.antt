-- What follows from the promises of the probe, for every store.
use Rattle.std.specs.Prelude.{◌≡◌, ℕ, ◌+◌, ◌-◌, ◌*◌, ◌/◌, ◌^◌, ◌<◌, ◌≤◌, Bool, true, false, ◌⊎◌, is_some, Ok, Err, Result}
use Rattle.store.specs.Meaning.{Held, Meaning}
use Rattle.wal.specs.declared.fault.WalFault.{WalFault}
use Rattle.wal.specs.Said.{fault, said_pair}
use Rattle.wal.specs.Probes.{calls, digits}
use Rattle.wal.specs.Tails.{Tail, CutOff}

-- no two faults have the same number and values
abbrev pub ToldApart : Type 0
ToldApart = (f g : WalFault) → fault f ≡ fault g → f ≡ g

-- on a steady store any two outcomes of one probe agree: the answers, and what the store means after it
abbrev pub OneTail : Type 0
OneTail =
    (before x y : Meaning) (start : ℕ) (r s : Result (ℕ × ℕ) WalFault) → before.steady ≡ true
    → Tail before x start r → Tail before y start s → (r ≡ s) × (x ≡ y)

-- where the tail is: the start or a file behind it, and no file at the next id; the calls come from its binary digits
pub record Reached (h : Held) (start id heads : ℕ) : Type 0 where
  pub from : start ≤ id
  pub below : id < start + 2 ^ 47
  pub there : (id ≡ start) ⊎ (is_some (h.files id) ≡ true)
  pub next : is_some (h.files (id + 1)) ≡ false
  pub cost : heads ≡ calls (digits (id - start))

-- of every store, also one with gaps
abbrev pub TailsReach : Type 0
TailsReach =
    (before after : Meaning) (start : ℕ) (p : ℕ × ℕ) → Tail before after start (Ok p)
    → Reached before.held start p.0 p.1

-- n files right behind the start, and none after them
pub record Unbroken (h : Held) (start n : ℕ) : Type 0 where
  pub files : (k : ℕ) → 0 < k → k ≤ n → is_some (h.files (start + k)) ≡ true
  pub none : (k : ℕ) → n < k → is_some (h.files (start + k)) ≡ false

-- the answer to a probe, unless an unsteady store cuts it off
abbrev pub Answered : Meaning → ℕ → Result (ℕ × ℕ) WalFault → ℕ → ℕ → Type 0
Answered before start r id heads = (r ≡ Ok (id, heads)) ⊎ CutOff before start (said_pair r)

-- an unbroken run of n files is found whole, and n with e binary digits costs 8 (e / 8 + 1) + e - 1 calls
abbrev pub RunsAreFound : Type 0
RunsAreFound =
    (before after : Meaning) (start n : ℕ) (r : Result (ℕ × ℕ) WalFault) → Unbroken before.held start n → 0 < n → n < 2 ^ 47 → start ≤ 2 ^ 62
    → Tail before after start r → Answered before start r (start + n) (8 * (digits n / 8 + 1) + digits n - 1)

-- no files at all cost 8 calls
abbrev pub NothingIsFound : Type 0
NothingIsFound =
    (before after : Meaning) (start : ℕ) (r : Result (ℕ × ℕ) WalFault) → Unbroken before.held start 0 → start ≤ 2 ^ 62
    → Tail before after start r → Answered before start r start 8

-- what is said of a probe whose calls were compared with its digits: they agree, and a refusal stays
abbrev pub agreed : Result (ℕ × ℕ) WalFault → Result Bool WalFault
agreed (Ok p) = Ok true
agreed (Err f) = Err f

pub record Compared (before after : Meaning) (start : ℕ) (r : Result Bool WalFault) : Type 0 where
  pub probe : Result (ℕ × ℕ) WalFault
  pub tail : Tail before after start probe
  pub says : r ≡ agreed probe
