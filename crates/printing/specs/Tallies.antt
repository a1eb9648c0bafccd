-- Counts of calls.
use Rattle.std.specs.Prelude.{ℕ, ◌+◌, ◌-◌, ◌^◌, min, Bool, cond, List, ◌++◌, codes, decimal}
use Rattle.printing.specs.declared.tally.Tally.{Tally}

abbrev pub no_calls : Tally
no_calls = record { calls = 0; refused = 0 }

-- a count that stops at the largest u64
abbrev pub one_more : ℕ → ℕ
one_more n = min (n + 1) (2 ^ 64 - 1)

-- one call more, refused or not
abbrev pub counted : Tally → Bool → Tally
counted t refused = record { calls = one_more t.calls; refused = cond refused (one_more t.refused) t.refused }

-- how many calls there were, and how many of them were refused
abbrev pub told_calls : Tally → List ℕ
told_calls t = decimal t.calls ++ (codes ", of which refused: " ++ decimal t.refused)
