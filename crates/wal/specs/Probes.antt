-- Where the tail lies behind a start: probes at powers of two, then one binary digit after the other.
-- All is said of the offsets from the start: `p k` tells whether the file k ids behind it is there.
use Rattle.std.specs.Prelude.{◌≡◌, ℕ, zero, suc, ◌+◌, ◌-◌, ◌*◌, ◌/◌, ◌^◌, Bool, cond, ◌⊎◌}
use Rattle.std.specs.Int.Count.{count_leading_zeros}

-- how many of the first n numbers from 0 on pass before one does not
abbrev pub run : (ℕ → Bool) → ℕ → ℕ
run p zero = 0
run p (suc n) = cond (p 0) (suc (run (λ k. p (suc k)) n)) 0

-- the first exponent below 48 whose power of two is absent, or 48
unfoldable pub first_absent : (ℕ → Bool) → ℕ
first_absent p = run (λ k. p (2 ^ k)) 48

-- an offset with its binary digit j decided: it is set where that file is there
abbrev pub decided : (ℕ → Bool) → ℕ → ℕ → ℕ
decided p m j = cond (p (m + 2 ^ j)) (m + 2 ^ j) m

-- an offset with all its digits below j decided, the highest first
abbrev pub settled : (ℕ → Bool) → ℕ → ℕ → ℕ
settled p m zero = m
settled p m (suc j) = settled p (decided p m j) j

-- the offset of the tail that has so many binary digits
abbrev pub offset_of : (ℕ → Bool) → ℕ → ℕ
offset_of p zero = 0
offset_of p (suc j) = settled p (2 ^ j) j

-- the calls for a tail that has e binary digits: eight for each round begun, and one for each digit after the highest
abbrev pub calls : ℕ → ℕ
calls e = 8 * (e / 8 + 1) + (e - 1)

-- how many binary digits a number of 64 bits has; 0 has none
abbrev pub digits : ℕ → ℕ
digits n = 64 - count_leading_zeros 64 n

-- the offsets that are asked while the digits below j are decided
abbrev pub Decides : (ℕ → Bool) → ℕ → ℕ → ℕ → Type 0
Decides p m zero k = ⊥
Decides p m (suc j) k = (k ≡ m + 2 ^ j) ⊎ Decides p (decided p m j) j k

-- the offsets that are asked after the rounds
abbrev pub Halves : (ℕ → Bool) → ℕ → ℕ → Type 0
Halves p zero k = ⊥
Halves p (suc j) k = Decides p (2 ^ j) j k
