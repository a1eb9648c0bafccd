-- A text as it is printed: its lines, each behind two spaces.
use Rattle.std.specs.Prelude.{ℕ, ◌+◌, ◌-◌, ◌/◌, ◌%◌, Bool, cond, ◌&&◌, ◌||◌, List, [], ◌∷◌, ◌++◌, ◌==◌, nat_le, nat_lt}

abbrev pub digit : ℕ → ℕ
digit n = cond (nat_lt n 10) (48 + n) (97 + (n - 10))

-- a line end, a tab, and 32 to 126 as they are; any other byte by its hexadecimal digits
abbrev pub printed : ℕ → List ℕ
printed b = cond (b == 10 || (b == 9 || (nat_le 32 b && nat_lt b 127))) (b ∷ []) (92 ∷ 120 ∷ digit (b / 16) ∷ digit (b % 16) ∷ [])

abbrev pub begun : Bool → List ℕ
begun fresh = cond fresh (32 ∷ 32 ∷ []) []

-- `fresh` where a line begins; a last line without its end is ended
abbrev pub paged : Bool → List ℕ → List ℕ
paged fresh [] = cond fresh [] (10 ∷ [])
paged fresh (b ∷ bs) = begun fresh ++ (printed b ++ paged (b == 10) bs)
