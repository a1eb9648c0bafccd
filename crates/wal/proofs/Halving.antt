-- The digits of the tail's offset, decided one by one while left and right close in.
use Rattle.std.proofs.Common.{◌≡◌, ℕ, zero, suc, ◌+◌, ◌-◌, ◌*◌, ◌/◌, ◌^◌, ◌<◌, ◌≤◌, Bool, true, false, sym, refl, ap, ◌∙◌, subst, inl, inr, mul_comm, pow-suc, arith, pow_pos}
use Rattle.std.proofs.lemmas.Bool.{cond-true, cond-false}
use Rattle.wal.specs.Probes.{decided, settled, offset_of, Decides, Halves}

pub pow_more : (j i : ℕ) → j ≡ suc i → 2 ^ j ≡ 2 * 2 ^ i
pow_more j i e = ap (λ (k : ℕ). 2 ^ k) e ∙ pow-suc 2 i ∙ mul_comm (2 ^ i) 2

-- with the digits below n to decide, those below j are left, at the offset m
pub record Midway (p : ℕ → Bool) (n m j : ℕ) : Type 0 where
  pub same : settled p (2 ^ n) n ≡ settled p m j
  pub asks : (k : ℕ) → Decides p m j k → Decides p (2 ^ n) n k

-- the same between left and right
pub record Between (p : ℕ → Bool) (n left right j : ℕ) : Type 0 where
  pub begun : 1 ≤ left
  pub spread : left + 2 ^ j ≡ right + 1
  pub midway : Midway p n (left - 1) j

next : (p : ℕ → Bool) (n m i : ℕ) → Midway p n m (suc i) → Midway p n (decided p m i) i
next p n m i w = record { same = w.same; asks = λ k d. w.asks k (inr d) }

none_left : (j : ℕ) → 2 ^ j ≤ 1 → j ≡ 0
none_left zero h = refl
none_left (suc j) h = let e = pow_more (suc j) j refl in let q : 0 < 2 ^ j = pow_pos j in absurd (omega arith)

pub started : (p : ℕ → Bool) (n left right : ℕ) → left ≡ 2 ^ n + 1 → right ≡ 2 ^ (n + 1) → Between p n left right n
started p n left right e f =
    let d : 2 ^ (n + 1) ≡ 2 * 2 ^ n = pow_more (n + 1) n (omega arith) in
    let s : 2 ^ n ≡ left - 1 = omega arith in
    record {
      begun = omega arith;
      spread = omega arith;
      midway = subst (λ (m : ℕ). Midway p n m n) s (record { same = refl; asks = λ k d. d });
    }

module _ (p : ℕ → Bool) (n left right j : ℕ) (w : Between p n left right j) where
  pub more : left < right → 0 < j
  more l = go j w.spread
    where
      go : (j : ℕ) → left + 2 ^ j ≡ right + 1 → 0 < j
      go zero e = absurd (omega arith)
      go (suc j) e = omega arith

  pub done : right ≤ left → j ≡ 0
  done l = none_left j (omega (arith, w.spread))

  pub answer : right ≤ left → settled p (2 ^ n) n ≡ left - 1
  answer l = w.midway.same ∙ ap (settled p (left - 1)) (done l)

  module _ (l : left < right) (i : ℕ) (e : j ≡ suc i) where
    middle : left + (right - left) / 2 ≡ left - 1 + 2 ^ i
    middle =
        let d : 2 ^ j ≡ 2 * 2 ^ i = pow_more j i e in
        let q : 0 < 2 ^ i = pow_pos i in
        omega (arith, w.spread, w.begun)

    here : Midway p n (left - 1) (suc i)
    here = subst (λ (k : ℕ). Midway p n (left - 1) k) e w.midway

    pub asks_middle : Decides p (2 ^ n) n (left + (right - left) / 2)
    asks_middle = here.asks _ (inl middle)

    pub up : p (left + (right - left) / 2) ≡ true → Between p n (left + (right - left) / 2 + 1) right i
    up t =
        let d : 2 ^ j ≡ 2 * 2 ^ i = pow_more j i e in
        let q : 0 < 2 ^ i = pow_pos i in
        let s : decided p (left - 1) i ≡ left + (right - left) / 2 + 1 - 1 = cond-true _ (left - 1 + 2 ^ i) (left - 1) (ap p (sym middle) ∙ t) ∙ sym middle ∙ omega arith in
        record {
          begun = omega arith;
          spread = omega (arith, middle, w.spread, w.begun);
          midway = subst (λ (m : ℕ). Midway p n m i) s (next p n (left - 1) i here);
        }

    pub down : p (left + (right - left) / 2) ≡ false → Between p n left (left + (right - left) / 2) i
    down f =
        let d : 2 ^ j ≡ 2 * 2 ^ i = pow_more j i e in
        let q : 0 < 2 ^ i = pow_pos i in
        let s : decided p (left - 1) i ≡ left - 1 = cond-false _ (left - 1 + 2 ^ i) (left - 1) (ap p (sym middle) ∙ f) in
        record {
          begun = w.begun;
          spread = omega (arith, middle, w.spread, w.begun);
          midway = subst (λ (m : ℕ). Midway p n m i) s (next p n (left - 1) i here);
        }

pub offset_at : (p : ℕ → Bool) (e : ℕ) → 0 < e → offset_of p e ≡ settled p (2 ^ (e - 1)) (e - 1)
offset_at p zero h = absurd (omega arith)
offset_at p (suc j) h = let s : j ≡ suc j - 1 = omega arith in ap (λ (k : ℕ). settled p (2 ^ k) k) s

pub halves_at : (p : ℕ → Bool) (e k : ℕ) → 0 < e → Decides p (2 ^ (e - 1)) (e - 1) k → Halves p e k
halves_at p zero k h d = absurd (omega arith)
halves_at p (suc j) k h d = let s : suc j - 1 ≡ j = omega arith in subst (λ (i : ℕ). Decides p (2 ^ i) i k) s d
