-- The order of keys, and which row has a key and number.
use Rattle.std.specs.Prelude.{ℕ, Bool, true, false, cond, ◌&&◌, List, [], ◌∷◌, None, ◌==◌, nat_lt}
use Rattle.rows.specs.declared.types.Kind.TheVariants.{Value}
use Rattle.rows.specs.Rows.{Row}

-- a row without key, value or ticks, under the number 0
abbrev pub no_row : Row
no_row = record { seq = 0; kind = Value; created = None; expires = None; key = []; value = [] }

-- key k comes before key l: in the order of bytes, which is that of their digits
abbrev pub below : List ℕ → List ℕ → Bool
below [] [] = false
below [] (y ∷ l) = true
below (x ∷ k) [] = false
below (x ∷ k) (y ∷ l) = cond (nat_lt x y) true (cond (nat_lt y x) false (below k l))

abbrev pub same : List ℕ → List ℕ → Bool
same [] [] = true
same [] (y ∷ l) = false
same (x ∷ k) [] = false
same (x ∷ k) (y ∷ l) = x == y && same k l

-- a row has that key and number
abbrev pub has : Row → List ℕ → ℕ → Bool
has r k n = same r.key k && r.seq == n
