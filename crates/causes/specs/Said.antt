-- What a call says, by numbers: the number of the cause for which it refuses, 0 where it does not, and the values that come with it.
use Rattle.std.specs.Prelude.{ℕ, List}

pub record Said : Type 0 where
  pub number : ℕ
  pub values : List ℕ

abbrev pub refused : ℕ → List ℕ → Said
refused n vs = record { number = n; values = vs }

-- no refusal
abbrev pub granted : List ℕ → Said
granted vs = record { number = 0; values = vs }
