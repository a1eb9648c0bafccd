-- Names of stations.
use Rattle.std.specs.Prelude.{◌≡◌, ℕ, ◌<◌, ◌≤◌, ◌⊎◌, List, length, take, Some, None, Option, slice_index}
use Rattle.std.specs.Int.{IsInRange}
use Rattle.stations.specs.declared.name.Name.{Name}

-- a digit or a letter
abbrev pub Sign : ℕ → Type 0
Sign b = IsInRange 48 57 b ⊎ (IsInRange 65 90 b ⊎ IsInRange 97 122 b)

abbrev pub AllSigns : List ℕ → Type 0
AllSigns w = (k : ℕ) → k < length w → Sign (slice_index w k)

-- one to sixteen of them
abbrev pub Nameable : List ℕ → Type 0
Nameable w = (0 < length w) × (length w ≤ 16) × AllSigns w

-- the letters and digits of a name
abbrev pub spelled : Name → List ℕ
spelled n = take n.len n.bytes

abbrev pub NameOf : List ℕ → Option Name → Type 0
NameOf w (Some n) = Nameable w × (spelled n ≡ w)
NameOf w None = Nameable w → ⊥
