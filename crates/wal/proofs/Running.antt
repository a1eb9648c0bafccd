-- The first number that does not pass.
use Rattle.std.proofs.Common.{◌≡◌, ℕ, zero, suc, ◌^◌, ◌<◌, ◌≤◌, Bool, true, false, ap, ◌∙◌, ⊎_elim, arith}
use Rattle.std.proofs.lemmas.Bool.{cases_Bool, cond-true, cond-false}
use Rattle.wal.specs.Probes.{run, first_absent}

pub run_within : (p : ℕ → Bool) (n : ℕ) → run p n ≤ n
run_within p zero = omega arith
run_within p (suc n) =
    let rest : ℕ = run (λ k. p (suc k)) n in
    let w : rest ≤ n = run_within (λ k. p (suc k)) n in
    ⊎_elim
    (λ (t : p 0 ≡ true). (let e = cond-true (p 0) (suc rest) 0 t in omega arith))
    (λ (f : p 0 ≡ false). (let e = cond-false (p 0) (suc rest) 0 f in omega arith))
    (cases_Bool (p 0))

pub run_is : (p : ℕ → Bool) (n e : ℕ) → e ≤ n → ((k : ℕ) → k < e → p k ≡ true) → (e < n → p e ≡ false) → run p n ≡ e
run_is p zero e b t f = omega arith
run_is p (suc n) zero b t f = cond-false (p 0) (suc (run (λ k. p (suc k)) n)) 0 (f (omega arith))
run_is p (suc n) (suc e) b t f =
    cond-true (p 0) (suc (run (λ k. p (suc k)) n)) 0 (t 0 (omega arith))
    ∙ ap suc (run_is (λ k. p (suc k)) n e (omega arith) (λ k l. t (suc k) (omega arith)) (λ l. f (omega arith)))

pub run_reaches : (p : ℕ → Bool) (n e : ℕ) → e ≤ n → ((k : ℕ) → k < e → p k ≡ true) → e ≤ run p n
run_reaches p n zero b t = omega arith
run_reaches p zero (suc e) b t = absurd (omega arith)
run_reaches p (suc n) (suc e) b t =
    let s = cond-true (p 0) (suc (run (λ k. p (suc k)) n)) 0 (t 0 (omega arith)) in
    let r = run_reaches (λ k. p (suc k)) n e (omega arith) (λ k l. t (suc k) (omega arith)) in
    omega arith

pub run_passes : (p : ℕ → Bool) (n k : ℕ) → k < run p n → p k ≡ true
run_passes p zero k l = absurd (omega arith)
run_passes p (suc n) zero l =
    ⊎_elim
    (λ (t : p 0 ≡ true). t)
    (λ (f : p 0 ≡ false). (let e = cond-false (p 0) (suc (run (λ k. p (suc k)) n)) 0 f in absurd (omega arith)))
    (cases_Bool (p 0))
run_passes p (suc n) (suc k) l =
    let rest : ℕ = run (λ k. p (suc k)) n in
    ⊎_elim
    (λ (t : p 0 ≡ true). (let e = cond-true (p 0) (suc rest) 0 t in run_passes (λ k. p (suc k)) n k (omega arith)))
    (λ (f : p 0 ≡ false). (let e = cond-false (p 0) (suc rest) 0 f in absurd (omega arith)))
    (cases_Bool (p 0))

pub run_stops : (p : ℕ → Bool) (n : ℕ) → run p n < n → p (run p n) ≡ false
run_stops p zero l = absurd (omega arith)
run_stops p (suc n) l =
    let rest : ℕ = run (λ k. p (suc k)) n in
    ⊎_elim
    (λ (t : p 0 ≡ true). (let e = cond-true (p 0) (suc rest) 0 t in ap p e ∙ run_stops (λ k. p (suc k)) n (omega arith)))
    (λ (f : p 0 ≡ false). ap p (cond-false (p 0) (suc rest) 0 f) ∙ f)
    (cases_Bool (p 0))

module _ (p : ℕ → Bool) where
  pub first_within : first_absent p ≤ 48
  unfolding first_absent
  first_within = run_within (λ k. p (2 ^ k)) 48

  pub first_is : (e : ℕ) → e ≤ 48 → ((k : ℕ) → k < e → p (2 ^ k) ≡ true) → (e < 48 → p (2 ^ e) ≡ false) → first_absent p ≡ e
  unfolding first_absent
  first_is e = run_is (λ k. p (2 ^ k)) 48 e

  pub first_reaches : (e : ℕ) → e ≤ 48 → ((k : ℕ) → k < e → p (2 ^ k) ≡ true) → e ≤ first_absent p
  unfolding first_absent
  first_reaches e = run_reaches (λ k. p (2 ^ k)) 48 e

  pub first_passes : (k : ℕ) → k < first_absent p → p (2 ^ k) ≡ true
  unfolding first_absent
  first_passes k = run_passes (λ k. p (2 ^ k)) 48 k

  pub first_stops : first_absent p < 48 → p (2 ^ first_absent p) ≡ false
  unfolding first_absent
  first_stops = run_stops (λ k. p (2 ^ k)) 48
