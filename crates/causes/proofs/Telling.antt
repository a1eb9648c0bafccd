-- What is printed of a refusal follows from what it says.
use Rattle.std.proofs.Common.{◌≡◌, ℕ, List, [], ◌∷◌, ◌++◌, refl, sym, ap, ◌∙◌, arith}
use Rattle.std.specs.Prelude.{◌-◌, codes, decimal, slice_index_or}
use Rattle.causes.specs.Causes.{listed, name, number, says, shown_values, told}
use Rattle.causes.specs.Said.{Said}
use Rattle.causes.specs.declared.cause.Cause.{Cause}
use Rattle.causes.specs.declared.cause.Cause.TheVariants.{Exists, Missing, NoRoom, TooLong, Short, Unavailable, Fenced, WalTruncated, Closed, DataError, InternalError, InvalidSSTBatchSize, InvalidDBState, IdsSpent, Attempts, OutOfOrder, WriterFull, Busy, TicketsSpent, NotMine, TableInUse, TableFull, NotReplayed, BlockSize}
use Rattle.causes.specs.declared.refusal.Refusal.{Refusal}
use Rattle.causes.specs.declared.refusal.Values.{Values}
use Rattle.causes.specs.declared.refusal.Values.TheVariants as values

-- the cause of a number, of the list in the order of the numbers
abbrev causes : List Cause
causes = Exists ∷ Missing ∷ NoRoom ∷ TooLong ∷ Short ∷ Unavailable ∷ Fenced ∷ WalTruncated ∷ Closed ∷ DataError ∷ InternalError ∷ InvalidSSTBatchSize ∷ InvalidDBState ∷ IdsSpent ∷ Attempts ∷ OutOfOrder ∷ WriterFull ∷ Busy ∷ TicketsSpent ∷ NotMine ∷ TableInUse ∷ TableFull ∷ NotReplayed ∷ BlockSize ∷ []

abbrev cause_of : ℕ → Cause
cause_of n = slice_index_or causes (n - 1) Exists

cause_of-number : (c : Cause) → cause_of (number c) ≡ c
cause_of-number c = grind arith

-- each value behind a space
abbrev spaced : List ℕ → List ℕ
spaced [] = []
spaced (v ∷ []) = codes " " ++ decimal v
spaced (v ∷ w ∷ vs) = codes " " ++ (decimal v ++ spaced (w ∷ vs))

shown_values-spaced : (v : Values) → shown_values v ≡ spaced (listed v)
shown_values-spaced values.None = refl
shown_values-spaced (values.One a) = refl
shown_values-spaced (values.Two a b) = refl
shown_values-spaced (values.Three a b c) = refl

-- what is said, as it is printed of a refusal that says it
abbrev pub told_said : Said → List ℕ
told_said s = decimal s.number ++ (codes " " ++ (name (cause_of s.number) ++ spaced s.values))

pub told-said : (r : Refusal) → told r ≡ told_said (says r)
told-said r = cc (cause_of-number r.cause, shown_values-spaced r.values)

-- what says the same is printed the same
pub told-from_says : (r q : Refusal) → says r ≡ says q → told r ≡ told q
told-from_says r q e = told-said r ∙ ap told_said e ∙ sym (told-said q)
