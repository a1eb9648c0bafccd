-- Examples of tails and of the calls for them.
use Rattle.std.specs.Prelude.{◌≡◌, ℕ, suc, cond, ◌&&◌, [], ◌∷◌, Some, None, nat_lt}
use Rattle.causes.specs.Said.{granted}
use Rattle.store.specs.Meaning.{Held}
use Rattle.wal.specs.Tails.{tail_says}

-- empty files at the ids 1 to n, and no other
abbrev pub filled : ℕ → Held
filled n = record { files = λ k. cond (nat_lt 0 k && nat_lt k (suc n)) (Some []) None; places = 0; bytes = 0 }

-- files 1 to 5: tail 5 by 10 calls; none: 8 calls; files 1 to 255: 23 calls
abbrev pub TailsAndCalls : Type 0
TailsAndCalls =
    (tail_says (filled 5) 0 ≡ granted (5 ∷ 10 ∷ []))
    × (tail_says (filled 0) 0 ≡ granted (0 ∷ 8 ∷ []))
    × (tail_says (filled 255) 0 ≡ granted (255 ∷ 23 ∷ []))
