-- The offset of the tail: its size, its digits, what is there and what is not.
use Rattle.std.proofs.Common.{◌≡◌, ℕ, zero, suc, ◌+◌, ◌-◌, ◌*◌, ◌^◌, ◌<◌, ◌≤◌, Bool, true, false, ◌⊎◌, refl, ap, ◌∙◌, subst, inl, inr, ⊎_elim, arith, pow_pos, pow_mono}
use lib.Count.{leading_unique, leading_length}
use Rattle.std.proofs.lemmas.Bool.{cases_Bool, cases_lt, cond-true, cond-false}
use Rattle.wal.specs.Probes.{decided, settled, offset_of, first_absent, digits}
use Rattle.wal.proofs.Running.{first_is}
use Rattle.wal.proofs.Halving.{pow_more}

decided_cases : (p : ℕ → Bool) (m j : ℕ)
    → ((p (m + 2 ^ j) ≡ true) × (decided p m j ≡ m + 2 ^ j)) ⊎ ((p (m + 2 ^ j) ≡ false) × (decided p m j ≡ m))
decided_cases p m j =
    ⊎_elim
    (λ (t : p (m + 2 ^ j) ≡ true). inl (t, cond-true _ (m + 2 ^ j) m t))
    (λ (f : p (m + 2 ^ j) ≡ false). inr (f, cond-false _ (m + 2 ^ j) m f))
    (cases_Bool (p (m + 2 ^ j)))

settled_from : (p : ℕ → Bool) (m j : ℕ) → m ≤ settled p m j
settled_from p m zero = omega arith
settled_from p m (suc j) =
    let b = settled_from p (decided p m j) j in
    elim (decided_cases p m j) [ inl (t, e) ↦ omega arith | inr (f, e) ↦ omega arith ]

settled_below : (p : ℕ → Bool) (m j : ℕ) → settled p m j < m + 2 ^ j
settled_below p m zero = omega arith
settled_below p m (suc j) =
    let d = pow_more (suc j) j refl in
    let b = settled_below p (decided p m j) j in
    elim (decided_cases p m j) [ inl (t, e) ↦ omega arith | inr (f, e) ↦ omega arith ]

settled_there : (p : ℕ → Bool) (m j : ℕ) → p m ≡ true → p (settled p m j) ≡ true
settled_there p m zero t = t
settled_there p m (suc j) t =
    elim (decided_cases p m j) [
      | inl (s, e) ↦ settled_there p (decided p m j) j (ap p e ∙ s)
      | inr (s, e) ↦ settled_there p (decided p m j) j (ap p e ∙ t)
    ]

settled_next : (p : ℕ → Bool) (m j : ℕ) → p (m + 2 ^ j) ≡ false → p (settled p m j + 1) ≡ false
settled_next p m zero f = f
settled_next p m (suc j) f =
    let d = pow_more (suc j) j refl in
    elim (decided_cases p m j) [
      | inl (s, e) ↦ settled_next p (decided p m j) j (ap p (let q : decided p m j + 2 ^ j ≡ m + 2 ^ suc j = omega arith in q) ∙ f)
      | inr (s, e) ↦ settled_next p (decided p m j) j (ap (λ (k : ℕ). p (k + 2 ^ j)) e ∙ s)
    ]

-- a run of n is settled at n
settled_run : (p : ℕ → Bool) (n m j : ℕ) → ((k : ℕ) → 0 < k → k ≤ n → p k ≡ true) → ((k : ℕ) → n < k → p k ≡ false)
    → m ≤ n → n < m + 2 ^ j → settled p m j ≡ n
settled_run p n m zero t f lo hi = omega arith
settled_run p n m (suc j) t f lo hi =
    let d = pow_more (suc j) j refl in
    let q : 0 < 2 ^ j = pow_pos j in
    elim (cases_lt n (m + 2 ^ j)) [
      | inl a ↦
          let e : decided p m j ≡ m = cond-false _ (m + 2 ^ j) m (f (m + 2 ^ j) a) in
          settled_run p n (decided p m j) j t f (omega arith) (omega arith)
      | inr a ↦
          let e : decided p m j ≡ m + 2 ^ j = cond-true _ (m + 2 ^ j) m (t (m + 2 ^ j) (omega arith) a) in
          settled_run p n (decided p m j) j t f (omega arith) (omega arith)
    ]

pub offset_below : (p : ℕ → Bool) (e : ℕ) → offset_of p e < 2 ^ e
offset_below p zero = omega arith
offset_below p (suc j) = let d = pow_more (suc j) j refl in let b = settled_below p (2 ^ j) j in omega arith

offset_above : (p : ℕ → Bool) (e : ℕ) → 2 ^ e ≤ 2 * offset_of p e + 1
offset_above p zero = omega arith
offset_above p (suc j) = let d = pow_more (suc j) j refl in let b = settled_from p (2 ^ j) j in omega arith

pub digits_is : (a m : ℕ) → m ≤ 64 → a < 2 ^ m → 2 ^ m ≤ 2 * a + 1 → digits a ≡ m
digits_is a m b lo hi = let z = leading_unique 64 a (64 - m) m (omega arith) lo hi in omega arith

pub offset_digits : (p : ℕ → Bool) (e : ℕ) → e ≤ 48 → digits (offset_of p e) ≡ e
offset_digits p e b = digits_is (offset_of p e) e (omega arith) (offset_below p e) (offset_above p e)

pub offset_there : (p : ℕ → Bool) (e : ℕ) → ((k : ℕ) → k < e → p (2 ^ k) ≡ true) → (offset_of p e ≡ 0) ⊎ (p (offset_of p e) ≡ true)
offset_there p zero t = inl refl
offset_there p (suc j) t = inr (settled_there p (2 ^ j) j (t j (omega arith)))

pub offset_next : (p : ℕ → Bool) (e : ℕ) → p (2 ^ e) ≡ false → p (offset_of p e + 1) ≡ false
offset_next p zero f = f
offset_next p (suc j) f =
    let d = pow_more (suc j) j refl in
    settled_next p (2 ^ j) j (ap p (let q : 2 ^ j + 2 ^ j ≡ 2 ^ suc j = omega arith in q) ∙ f)

module _ (p : ℕ → Bool) (n : ℕ) (t : (k : ℕ) → 0 < k → k ≤ n → p k ≡ true) (f : (k : ℕ) → n < k → p k ≡ false) (b : n < 2 ^ 47) where
  run_digits : (digits n ≤ 47) × (n < 2 ^ digits n) × (2 ^ digits n ≤ 2 * n + 1)
  run_digits =
      let l = leading_length 64 n (omega arith) in
      let e : l.0 ≡ digits n = omega (arith, l.1) in
      let s : (n < 2 ^ digits n) × (2 ^ digits n ≤ 2 * n + 1) = subst (λ (m : ℕ). (n < 2 ^ m) × (2 ^ m ≤ 2 * n + 1)) e (l.2, l.3) in
      let w : digits n ≤ 47 =
      elim (cases_lt 47 (digits n)) [
        | inl a ↦ (let u : 2 ^ 48 ≤ 2 ^ digits n = pow_mono a in absurd (omega (arith, s.1)))
        | inr a ↦ a
      ] in
      (w, s.0, s.1)

  pub run_first : first_absent p ≡ digits n
  run_first =
      first_is p (digits n) (omega (arith, run_digits.0))
      (λ k l.
      let u : 2 ^ suc k ≤ 2 ^ digits n = pow_mono l in
      let d = pow_more (suc k) k refl in
      t (2 ^ k) (pow_pos k) (omega (arith, run_digits.2)))
      (λ l. f (2 ^ digits n) run_digits.1)

  offset_run : (e : ℕ) → n < 2 ^ e → 2 ^ e ≤ 2 * n + 1 → offset_of p e ≡ n
  offset_run zero lo hi = omega arith
  offset_run (suc j) lo hi = let d = pow_more (suc j) j refl in settled_run p n (2 ^ j) j t f (omega arith) (omega arith)

  pub run_offset : offset_of p (digits n) ≡ n
  run_offset = offset_run (digits n) run_digits.1 run_digits.2

  pub run_short : digits n < 48
  run_short = omega (arith, run_digits.0)

  pub run_below : n < 2 ^ digits n
  run_below = run_digits.1
