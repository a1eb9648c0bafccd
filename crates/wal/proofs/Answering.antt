-- What bounds the parts of the answer.
use Rattle.std.proofs.Common.{◌≡◌, ℕ, ◌-◌, ◌^◌, ◌<◌, Ok, ap, inl, inr, arith}
use Rattle.std.proofs.lemmas.Nat.{pow_below}
use Rattle.store.specs.Meaning.{Meaning}
use Rattle.wal.specs.Probes.{offset_of}
use Rattle.wal.specs.Tails.{behind}
use Rattle.wal.specs.Asking.{Rounds, Halved}
use Rattle.wal.proofs.Digits.{offset_below}

pub rounds_below : (a b : Meaning) (start e n : ℕ) → Rounds a b start (Ok (e, n)) → e < 48
rounds_below a b start e n w =
    elim w.answer [
      | inl (p, q, f) ↦ (let k : e ≡ p.0 = cc in omega (arith, f.below))
      | inr (inl (q, f)) ↦ (let z : ◌≡◌ {A = ℕ} 0 1 = cc in absurd (omega arith))
      | inr (inr k) ↦ (let q = k.is in let z : ◌≡◌ {A = ℕ} 0 1 = cc in absurd (omega arith))
    ]

pub halved_below : (a b : Meaning) (start e o h : ℕ) → e < 48 → Halved a b start e (Ok (o, h)) → o < 2 ^ 48
halved_below a b start e o h l w =
    elim w.answer [
      | inl q ↦
          let f : ◌≡◌ {A = ℕ × ℕ} (o, h) (offset_of (behind a.held start) e, e - 1) = cc in
          let k : o ≡ offset_of (behind a.held start) e = ap (λ (x : ℕ × ℕ). x.0) f in
          let s = offset_below (behind a.held start) e in
          let t = pow_below e 48 l in
          omega arith
      | inr k ↦ (let q = k.is in let z : ◌≡◌ {A = ℕ} 0 1 = cc in absurd (omega arith))
    ]
