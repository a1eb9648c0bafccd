-- Why the examples of tails hold.
use Rattle.std.proofs.Common.{◌≡◌, ℕ, suc, ◌+◌, ◌*◌, ◌^◌, ◌<◌, ◌≤◌, true, false, ltb, [], ◌∷◌, is_some, ap, ◌∙◌, arith}
use Rattle.std.proofs.lemmas.Bool.{lt-ltb, le-ltb}
use Rattle.causes.specs.Said.{granted}
use Rattle.wal.specs.Probes.{calls}
use Rattle.wal.specs.Tails.{tail_says}
use Rattle.wal.proofs.Digits.{digits_is}
use Rattle.wal.proofs.Tailing.{run_says}
use Rattle.trials.specs.Tails.{filled, TailsAndCalls}

there : (n k : ℕ) → 0 < k → k ≤ n → is_some ((filled n).files (0 + k)) ≡ true
there n k a b =
    let p : ltb 0 (0 + k) ≡ true = lt-ltb 0 (0 + k) (omega arith) in
    let q : ltb (0 + k) (suc n) ≡ true = lt-ltb (0 + k) (suc n) (omega arith) in
    rw (p, q)

gone : (n k : ℕ) → n < k → is_some ((filled n).files (0 + k)) ≡ false
gone n k a =
    let p : ltb 0 (0 + k) ≡ true = lt-ltb 0 (0 + k) (omega arith) in
    let q : ltb (0 + k) (suc n) ≡ false = le-ltb (0 + k) (suc n) (omega arith) in
    rw (p, q)

-- the calls for n files, where n has e binary digits
example : (n e : ℕ) → n < 2 ^ 47 → e ≤ 64 → n < 2 ^ e → 2 ^ e ≤ 2 * n + 1 → tail_says (filled n) 0 ≡ granted ((0 + n) ∷ calls e ∷ [])
example n e b w lo hi =
    run_says (filled n) 0 n (record { files = there n; none = gone n }) b (omega arith)
    ∙ ap (λ (d : ℕ). granted ((0 + n) ∷ calls d ∷ [])) (digits_is n e w lo hi)

pub tails : TailsAndCalls
tails = (
  example 5 3 (omega arith) (omega arith) (omega arith) (omega arith),
  example 0 0 (omega arith) (omega arith) (omega arith) (omega arith),
  example 255 8 (omega arith) (omega arith) (omega arith) (omega arith),
)
