-- The number that the digits of a word write.
use Rattle.std.proofs.Common.{◌≡◌, ℕ, ◌+◌, ◌-◌, ◌*◌, ◌^◌, ◌<◌, ◌≤◌, List, [], ◌∷◌, ◌++◌, length, get_or, take, drop, decimal, refl, subst, arith, rules}
use Rattle.std.proofs.lemmas.List.{take-append-drop}
use Rattle.std.proofs.lemmas.Int.Digits.{digits_value_more}
use Rattle.std.proofs.lemmas.Str.Parse.{numerals_by_value, tells_by_index}
use Rattle.std.proofs.lemmas.Fmt.{decimal-digits_value}
use Rattle.std.specs.Str.Parse.{digits_value, digits_value_after}
use Rattle.std.specs.Int.{IsInRange}
use Rattle.std.specs.Char.{digit_value}
use Rattle.script.specs.Numerals.{Digits, Numeral}

digit_worth : (c : ℕ) → IsInRange 48 57 c → digit_value c ≡ c - 48
digit_worth c h = search rules

grows : (n : ℕ) (ys : List ℕ) → n ≤ digits_value_after 10 n ys
grows n [] = omega arith
grows n (c ∷ cs) = omega (arith, grows (n * 10 + digit_value c) cs)

split : (n : ℕ) (xs ys : List ℕ) → digits_value_after 10 n (xs ++ ys) ≡ digits_value_after 10 (digits_value_after 10 n xs) ys
split n [] ys = refl
split n (x ∷ xs) ys = split (n * 10 + digit_value x) xs ys

-- one digit more
pub value_step : (word : List ℕ) (i n : ℕ) → i < length word → IsInRange 48 57 (get_or word i 0) → n ≡ digits_value 10 (take i word) → digits_value 10 (take (i + 1) word) ≡ n * 10 + (get_or word i 0 - 48)
value_step word i n lt d e = omega (arith, digits_value_more 10 word i lt, digit_worth (get_or word i 0) d)

-- a beginning writes no larger number
pub value_front : (word : List ℕ) (i : ℕ) → digits_value 10 (take i word) ≤ digits_value 10 word
value_front word i =
    let P : List ℕ → Type 0 = λ t. digits_value 10 (take i word) ≤ digits_value 10 t in
    subst P (take-append-drop i word) (omega (arith, split 0 (take i word) (drop i word), grows (digits_value 10 (take i word)) (drop i word)))

-- a numeral is what its number is written as
pub spelt_back : (word : List ℕ) → Numeral word → digits_value 10 word < 2 ^ 64 → decimal (digits_value 10 word) ≡ word
spelt_back word h lt = decimal-digits_value (numerals_by_value Digits tells_by_index) word h.2 h.0 h.1 lt
