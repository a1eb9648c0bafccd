-- What the answers of a store say, by the numbers of their causes.
use Rattle.std.specs.Prelude.{ℕ, [], ◌∷◌, Ok, Err, Result}
use Rattle.causes.specs.Said.{Said, refused, granted}
use Rattle.store.specs.declared.fault.StoreFault.{StoreFault}
use Rattle.store.specs.declared.fault.StoreFault.TheVariants.{Exists, Missing, NoRoom, TooLong, Short, Unavailable}

-- the number and the values of each cause
abbrev pub fault : StoreFault → Said
fault (Exists id) = refused 1 (id ∷ [])
fault (Missing id) = refused 2 (id ∷ [])
fault (NoRoom id) = refused 3 (id ∷ [])
fault (TooLong id) = refused 4 (id ∷ [])
fault (Short needed) = refused 5 (needed ∷ [])
fault (Unavailable id) = refused 6 (id ∷ [])

-- what an answer without a value says
abbrev pub said : Result (Unit {0}) StoreFault → Said
said (Ok u) = granted []
said (Err f) = fault f

-- what an answer of a length says
abbrev pub said_length : Result ℕ StoreFault → Said
said_length (Ok n) = granted (n ∷ [])
said_length (Err f) = fault f
