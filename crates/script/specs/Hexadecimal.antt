-- Bytes as lower-case hexadecimal pairs.
use Rattle.std.specs.Prelude.{◌≡◌, ℕ, ◌+◌, ◌/◌, ◌%◌, ◌<◌, Bool, true, cond, ◌&&◌, ◌||◌, List, [], ◌∷◌, length, Ok, Err, Result, nat_le, nat_lt, slice_index}
use Rattle.script.specs.declared.hex.TextFault.{TextFault}
use Rattle.script.specs.declared.hex.TextFault.TheVariants.{NotHex, NoMemory}

-- the digit of a number below 16
abbrev pub digit : ℕ → ℕ
digit d = cond (nat_lt d 10) (48 + d) (87 + d)

abbrev pub pairs : List ℕ → List ℕ
pairs [] = []
pairs (b ∷ bs) = digit (b / 16) ∷ digit (b % 16) ∷ pairs bs

-- a byte that is such a digit
abbrev pub is_digit : ℕ → Bool
is_digit b = (nat_le 48 b && nat_le b 57) || (nat_le 97 b && nat_le b 102)

-- digits in pairs, and nothing else
abbrev pub Paired : List ℕ → Type 0
Paired digits = (length digits % 2 ≡ 0) × ((k : ℕ) → k < length digits → is_digit (slice_index digits k) ≡ true)

-- what a reading of digits says, and the bytes that it leaves
abbrev pub Decodes : List ℕ → Result (Unit {0}) TextFault → List ℕ → Type 0
Decodes digits (Ok u) bytes = pairs bytes ≡ digits
Decodes digits (Err NotHex) bytes = (Paired digits → ⊥) × (bytes ≡ [])
Decodes digits (Err NoMemory) bytes = Paired digits × (bytes ≡ [])
