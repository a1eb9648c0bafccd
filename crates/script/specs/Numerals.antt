-- Decimal numbers as words.
use Rattle.std.specs.Prelude.{◌≡◌, ℕ, ◌^◌, ◌<◌, ◌≤◌, List, length, Ok, Err, codes, decimal, Result, slice_index}
use Rattle.std.specs.Str.Parse.{digits_value}
use Rattle.std.specs.Int.{IsInRange}
use Rattle.script.specs.declared.number.NumberFault.{NumberFault}
use Rattle.script.specs.declared.number.NumberFault.TheVariants.{NotNumber, TooLarge}

-- every byte is a decimal digit
abbrev pub Digits : List ℕ → Type 0
Digits word = (k : ℕ) → k < length word → IsInRange 48 57 (slice_index word k)

-- digits, one at least, and no zero in front of others
abbrev pub Numeral : List ℕ → Type 0
Numeral word = (0 < length word) × (slice_index word 0 ≡ 48 → length word ≡ 1) × Digits word

-- what a word is as a number below 2 ^ 64
abbrev pub Reads : List ℕ → Result ℕ NumberFault → Type 0
Reads word (Ok n) = (word ≡ decimal n) × (n < 2 ^ 64)
Reads word (Err NotNumber) = Numeral word → ⊥
Reads word (Err TooLarge) = Numeral word × (2 ^ 64 ≤ digits_value 10 word)

-- the words for it
abbrev pub fault : NumberFault → List ℕ
fault NotNumber = codes "not a number"
fault TooLarge = codes "number too large"
