-- Digits that lie in a text, and a text that grows.
use Rattle.std.proofs.Common.{◌≡◌, ℕ, ◌+◌, ◌-◌, ◌*◌, ◌%◌, ◌<◌, ◌≤◌, List, ◌++◌, length, take, drop, sym, refl, ap, ◌∙◌, inl, inr, arith, length-append, length-drop, length-take}
use Rattle.std.proofs.lemmas.List.{take_at, take_all, take-append-le, drop_at, drop-append-le, append_assoc, get_or-take, get_or-drop, get_or_append_left, get_or-append_right}
use Rattle.std.proofs.lemmas.Bool.{cases_lt}
use Rattle.rows.specs.declared.entry.RowEntry.{RowEntry}
use Rattle.rows.specs.Entries.{row_of}
use Rattle.rows.specs.Rows.{Hex, hex_digit}
use Rattle.rows.specs.Sizes.{weight}
use Rattle.tables.specs.declared.slot.Slot.{Slot}
use Rattle.tables.specs.Slots.{row_at, Placed, Digits}

-- two digits to a byte
pub digits_twice : (e : RowEntry) → length ((row_of e).key ++ (row_of e).value) ≡ 2 * weight (row_of e)
digits_twice e = simp length-append (omega (arith, e.key_digits.0, e.value_digits.0))

-- a cut of a text of digits
pub cut_hex : (text : List ℕ) (start n most : ℕ) → Digits text → start + n ≤ length text → n % 2 ≡ 0 → n ≤ most → Hex most (take n (drop start text))
cut_hex text start n most d h even le =
    let long : length (take n (drop start text)) ≡ n = simp (length-take, length-drop) (omega arith) in (
      omega (arith, ap (λ k. k % 2) long),
      omega arith,
      λ i l. (
          let a : i < n = omega arith in
          ap hex_digit (get_or-take n (drop start text) i 0 a ∙ get_or-drop start text i 0) ∙ d (start + i) (omega arith)),
    )

cut_kept : (text more : List ℕ) (start n : ℕ) → start + n ≤ length text → take n (drop start (text ++ more)) ≡ take n (drop start text)
cut_kept text more start n h =
    let a : start ≤ length text = omega arith in
    let b : n ≤ length (drop start text) = simp length-drop (omega arith) in
    rw (drop-append-le start text more a) (take-append-le n (drop start text) more b)

pub row_kept : (text more : List ℕ) (s : Slot) → Placed (length text) s → row_at (text ++ more) s ≡ row_at text s
row_kept text more s h =
    let a = cut_kept text more s.start s.key_len (omega arith) in
    let b = cut_kept text more (s.start + s.key_len) s.value_len (omega arith) in
    (cc)

-- digits behind digits
append_digits : (xs ys : List ℕ) → Digits xs → Digits ys → Digits (xs ++ ys)
append_digits xs ys d e i l =
    let long = length-append xs ys in
    elim (cases_lt i (length xs)) [
      | inl h ↦ ap hex_digit (get_or_append_left xs ys 0 i h) ∙ d i h
      | inr h ↦ ap hex_digit (get_or-append_right xs ys (length xs) i 0 refl h) ∙ e (i - length xs) (omega arith)
    ]

pub more_digits : (text : List ℕ) (e : RowEntry) → Digits text → Digits (text ++ ((row_of e).key ++ (row_of e).value))
more_digits text e d = append_digits text ((row_of e).key ++ (row_of e).value) d (append_digits (row_of e).key (row_of e).value e.key_digits.2 e.value_digits.2)

-- the digits of a row, just added
module _ (text key value : List ℕ) (n : ℕ) (e : n ≡ length text) where
  pub key_new : take (length key) (drop n (text ++ (key ++ value))) ≡ key
  key_new = ap (take (length key)) (drop_at text (key ++ value) n (sym e)) ∙ take_at key value (length key) refl

  pub value_new : take (length value) (drop (n + length key) (text ++ (key ++ value))) ≡ value
  value_new =
      let a : length (text ++ key) ≡ n + length key = length-append text key ∙ ap (λ k. k + length key) (sym e) in
      ap (λ t. take (length value) (drop (n + length key) t)) (sym (append_assoc text key value))
      ∙ ap (take (length value)) (drop_at (text ++ key) value (n + length key) a) ∙ take_all (length value) value (omega arith)
