-- The words behind a call's first.
use Rattle.std.specs.Prelude.{◌≡◌, ℕ, ◌⊎◌, List, [], ◌∷◌, Some, None, Ok, Err, codes, Option, Result, ◌≢◌}
use Rattle.std.specs.Borrow.{Bor}
use Rattle.script.specs.declared.number.NumberFault.{NumberFault}
use Rattle.script.specs.declared.reason.Reason.{Reason}
use Rattle.script.specs.declared.reason.Reason.TheVariants.{Number, WrongWords}
use Rattle.script.specs.Numerals.{Reads}
use Rattle.commands.specs.declared.command.TableKind.{TableKind}
use Rattle.commands.specs.declared.command.TableKind.TheVariants.{Sorted, Log}

-- the number that a word is
abbrev pub NumberIs : List ℕ → Result ℕ Reason → Type 0
NumberIs w (Ok n) = Reads w (Ok n)
NumberIs w (Err e) = (f : NumberFault) × (e ≡ Number f) × Reads w (Err f)

-- no word
abbrev pub NoWords : List (List ℕ) → Result (Unit {0}) Reason → Type 0
NoWords ws (Ok u) = ws ≡ []
NoWords ws (Err e) = (ws ≢ []) × (e ≡ WrongWords)

-- one word, a number
abbrev pub One : List (List ℕ) → Result ℕ Reason → Type 0
One [] r = r ≡ Err WrongWords
One (w ∷ []) r = NumberIs w r
One (w ∷ x ∷ ws) r = r ≡ Err WrongWords

-- two words, each a number; the first that is none is the fault
abbrev pub Both : List ℕ → List ℕ → Result (ℕ × ℕ) Reason → Type 0
Both w x (Ok p) = NumberIs w (Ok p.0) × NumberIs x (Ok p.1)
Both w x (Err e) = NumberIs w (Err e) ⊎ ((n : ℕ) × NumberIs w (Ok n) × NumberIs x (Err e))

abbrev pub Two : List (List ℕ) → Result (ℕ × ℕ) Reason → Type 0
Two [] r = r ≡ Err WrongWords
Two (w ∷ []) r = r ≡ Err WrongWords
Two (w ∷ x ∷ []) r = Both w x r
Two (w ∷ x ∷ y ∷ ws) r = r ≡ Err WrongWords

-- a word, and a number behind it
abbrev pub Named : List (List ℕ) → Result (Bor (List ℕ) × ℕ) Reason → Type 0
Named [] r = r ≡ Err WrongWords
Named (w ∷ ws) (Ok p) = (p.0.now ≡ w) × One ws (Ok p.1)
Named (w ∷ ws) (Err e) = One ws (Err e)

-- the words for the kinds of tables
abbrev pub kind_word : TableKind → List ℕ
kind_word Sorted = codes "sorted"
kind_word Log = codes "log"

abbrev pub KindOf : List ℕ → Option TableKind → Type 0
KindOf w (Some k) = w ≡ kind_word k
KindOf w None = (k : TableKind) → w ≢ kind_word k
