-- Refusals as the answers print them.
use Rattle.std.proofs.Common.{◌≡◌, ◌++◌, refl, ap, ◌∙◌, arith}
use Rattle.std.proofs.lemmas.Fmt.{decimal_digit, decimal_step}
use Rattle.std.specs.Prelude.{Err, codes, decimal}
use Rattle.causes.proofs.Telling.{told_said, told-said}
use Rattle.causes.specs.Causes.{says, told}
use Rattle.causes.specs.declared.refusal.Refusal.{Refusal}
use Rattle.row_text.specs.Checks.{fault as check-fault}
use Rattle.row_text.specs.declared.fault.CheckFault.{CheckFault}
use Rattle.row_text.specs.declared.fault.CheckFault.TheVariants.{Damaged, BlockSize}
use Rattle.store.specs.Said.{fault as store-fault}
use Rattle.store.specs.declared.fault.StoreFault.{StoreFault}
use Rattle.store.specs.declared.fault.StoreFault.TheVariants.{Exists, Missing, NoRoom, TooLong, Short, Unavailable}
use Rattle.answers.specs.Answers.{refusal, verdict}

store_printed : (f : StoreFault) → codes "refused " ++ told_said (store-fault f) ≡ refusal f
store_printed (Exists id) = refl
store_printed (Missing id) = refl
store_printed (NoRoom id) = refl
store_printed (TooLong id) = refl
store_printed (Short n) = refl
store_printed (Unavailable id) = refl

-- the numbers that a text's refusal is printed with, as they are written
decimal_zero : decimal 0 ≡ codes "0"
decimal_zero = decimal_digit 0 (omega arith)

decimal_ten : decimal 10 ≡ codes "10"
decimal_ten = decimal_step 10 (omega arith) (omega arith) ∙ ap (λ l. l ++ codes "0") (decimal_digit 1 (omega arith))

decimal_twenty_four : decimal 24 ≡ codes "24"
decimal_twenty_four = decimal_step 24 (omega arith) (omega arith) ∙ ap (λ l. l ++ codes "4") (decimal_digit 2 (omega arith))

check_printed : (f : CheckFault) → codes "refused " ++ told_said (check-fault f) ≡ verdict (Err f)
check_printed (Damaged d) = simp (decimal_zero, decimal_ten)
check_printed (BlockSize n) = simp decimal_twenty_four

-- a refusal that says what the fault of a store says
pub store_told : (f : StoreFault) (r : Refusal) → says r ≡ store-fault f → codes "refused " ++ told r ≡ refusal f
store_told f r e = ap (λ l. codes "refused " ++ l) (told-said r ∙ ap told_said e) ∙ store_printed f

-- one that says what the fault of a text says
pub check_told : (f : CheckFault) (r : Refusal) → says r ≡ check-fault f → codes "refused " ++ told r ≡ verdict (Err f)
check_told f r e = ap (λ l. codes "refused " ++ l) (told-said r ∙ ap told_said e) ∙ check_printed f
