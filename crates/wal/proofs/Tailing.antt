-- Why the laws of the probe hold.
use Rattle.std.proofs.Common.{◌≡◌, ℕ, zero, suc, ◌+◌, ◌-◌, ◌*◌, ◌/◌, ◌^◌, ◌<◌, ◌≤◌, true, false, eqb, ltb, List, [], ◌∷◌, get_or, is_some, Ok, Result, sym, ap, ◌∙◌, inl, inr, ⊎_elim, arith, pow_mono}
use Rattle.std.proofs.lemmas.Bool.{cases_Bool, cond-true, cond-false, ltb-true, ltb-false, le-ltb, eq-eqb, ne_eqb}
use Rattle.causes.specs.Said.{Said, refused, granted}
use Rattle.store.specs.Meaning.{Held, Meaning}
use Rattle.wal.specs.declared.fault.WalFault.{WalFault}
use Rattle.wal.specs.Said.{said_pair}
use Rattle.wal.specs.Probes.{first_absent, offset_of, calls, digits}
use Rattle.wal.specs.Tails.{behind, found, tail_says, Tail}
use Rattle.wal.specs.Laws.{OneTail, Reached, TailsReach, Unbroken, Answered, RunsAreFound, NothingIsFound}
use Rattle.wal.proofs.Running.{first_within, first_passes, first_stops}
use Rattle.wal.proofs.Digits.{digits_is, offset_below, offset_digits, offset_there, offset_next, run_first, run_offset, run_short, run_below}
use Rattle.wal.proofs.Telling.{same_said}

steady_says : (before after : Meaning) (start : ℕ) (r : Result (ℕ × ℕ) WalFault) → before.steady ≡ true → Tail before after start r → said_pair r ≡ tail_says before.held start
steady_says before after start r s t =
    elim t.answer [ inl e ↦ e | inr k ↦ (let u = k.unsteady in let z : ◌≡◌ {A = ℕ} 0 1 = cc in absurd (omega arith)) ]

pub one_tail : OneTail
one_tail before x y start r s st t u = (
  same_said r s (steady_says before x start r st t ∙ sym (steady_says before y start s st u)),
  λ i. record { held = (t.held ∙ sym u.held) i; steady = (t.steady st ∙ sym (u.steady st)) i },
)

-- where nothing is refused, the tail lies as the definition says
pub record Found (h : Held) (start id heads : ℕ) : Type 0 where
  pub begun : start ≤ 2 ^ 62
  pub below : first_absent (behind h start) < 48
  pub is : id ≡ start + offset_of (behind h start) (first_absent (behind h start))
  pub cost : heads ≡ calls (first_absent (behind h start))

module _ (h : Held) (start : ℕ) where
  first : ℕ
  first = first_absent (behind h start)

  never : (n : ℕ) (vs ws : List ℕ) → 0 < n → refused n vs ≡ granted ws → ⊥
  never n vs ws l e = let q : n ≡ 0 = ap (λ (s : Said). s.number) e in omega arith

  value : ℕ → Said → ℕ
  value k s = get_or s.values k 0

  pub says_granted : (a b : ℕ) → tail_says h start ≡ granted (a ∷ b ∷ []) → Found h start a b
  unfolding value first
  says_granted a b e =
      ⊎_elim
      (λ (t : ltb (2 ^ 62) start ≡ true). absurd (never 14 (start ∷ []) (a ∷ b ∷ []) (omega arith) (sym (cond-true _ (refused 14 (start ∷ [])) (found h start first) t) ∙ e)))
      (λ (f : ltb (2 ^ 62) start ≡ false).
      let g : found h start first ≡ granted (a ∷ b ∷ []) = sym (cond-false _ (refused 14 (start ∷ [])) (found h start first) f) ∙ e in
      ⊎_elim
      (λ (u : eqb first 48 ≡ true). absurd (never 13 (start ∷ []) (a ∷ b ∷ []) (omega arith) (sym (cond-true _ (refused 13 (start ∷ [])) (granted ((start + offset_of (behind h start) first) ∷ calls first ∷ [])) u) ∙ g)))
      (λ (u : eqb first 48 ≡ false).
      let k : granted ((start + offset_of (behind h start) first) ∷ calls first ∷ []) ≡ granted (a ∷ b ∷ []) = sym (cond-false _ (refused 13 (start ∷ [])) _ u) ∙ g in
      let w = first_within (behind h start) in
      let ne : first ≡ 48 → ⊥ = λ q. (let z : true ≡ false = sym (eq-eqb first 48 q) ∙ u in let y : ◌≡◌ {A = ℕ} 0 1 = cc in omega arith) in
      let below : first < 48 = ⊎_elim (λ (l : ltb first 48 ≡ true). ltb-true first 48 l) (λ (l : ltb first 48 ≡ false). (let m = ltb-false first 48 l in absurd (ne (omega arith)))) (cases_Bool (ltb first 48)) in
      record { begun = ltb-false (2 ^ 62) start f; below = below; is = ap (value 0) (sym k); cost = ap (value 1) (sym k) })
      (cases_Bool (eqb first 48)))
      (cases_Bool (ltb (2 ^ 62) start))

  pub says_found : (e : ℕ) → start ≤ 2 ^ 62 → first_absent (behind h start) ≡ e → e < 48
      → tail_says h start ≡ granted ((start + offset_of (behind h start) e) ∷ calls e ∷ [])
  says_found e b q l =
      cond-false _ (refused 14 (start ∷ [])) _ (le-ltb (2 ^ 62) start b)
      ∙ ap (found h start) q
      ∙ cond-false _ (refused 13 (start ∷ [])) _ (ne_eqb e 48 (λ z. omega arith))

  pub reach : (id heads : ℕ) → Found h start id heads → Reached h start id heads
  unfolding first
  reach id heads w =
      let p = behind h start in
      let o : ℕ = offset_of p first in
      let at : id ≡ start + o = w.is in
      let b : o < 2 ^ first = offset_below p first in
      let s : id - start ≡ o = omega arith in
      record {
        from = omega arith;
        below = (let u : 2 ^ first ≤ 2 ^ 47 = pow_mono (let v : first ≤ 47 = omega (arith, w.below) in v) in omega arith);
        there = ⊎_elim (λ (z : o ≡ 0). inl (omega arith)) (λ (t : p o ≡ true). inr (ap (λ (k : ℕ). is_some (h.files k)) at ∙ t)) (offset_there p first (first_passes p));
        next = ap (λ (k : ℕ). is_some (h.files k)) (let q : id + 1 ≡ start + (o + 1) = omega arith in q) ∙ offset_next p first (first_stops p w.below);
        cost = w.cost ∙ ap calls (sym (ap digits s ∙ offset_digits p first (first_within p)));
      }

pub tails_reach : TailsReach
tails_reach before after start p t =
    elim t.answer [
      | inl e ↦ reach before.held start p.0 p.1 (says_granted before.held start p.0 p.1 (sym e))
      | inr k ↦ (let q : ◌≡◌ {A = ℕ} 0 6 = ap (λ (s : Said). s.number) k.says in absurd (omega arith))
    ]

-- the digits of an unbroken run
module _ (h : Held) (start n : ℕ) (u : Unbroken h start n) (b : n < 2 ^ 47) (l : start ≤ 2 ^ 62) where
  pub run_says : tail_says h start ≡ granted ((start + n) ∷ calls (digits n) ∷ [])
  run_says =
      let p = behind h start in
      says_found h start (digits n) l (run_first p n u.files u.none b) (run_short p n u.files u.none b)
      ∙ ap (λ (k : ℕ). granted ((start + k) ∷ calls (digits n) ∷ [])) (run_offset p n u.files u.none b)

-- an answer as the definition gives it, unless the probe is cut off
answered : (before after : Meaning) (start id heads : ℕ) (r : Result (ℕ × ℕ) WalFault) → tail_says before.held start ≡ granted (id ∷ heads ∷ []) → Tail before after start r → Answered before start r id heads
answered before after start id heads r e t = elim t.answer [ inl q ↦ inl (same_said r (Ok (id, heads)) (q ∙ e)) | inr k ↦ inr k ]

-- a number above 0 has a digit
some_digit : (n d : ℕ) → 0 < n → n < 2 ^ d → 0 < d
some_digit n zero z l = absurd (omega arith)
some_digit n (suc d) z l = omega arith

pub runs_are_found : RunsAreFound
runs_are_found before after start n r u z b l t =
    let p = behind before.held start in
    let d : 0 < digits n = some_digit n (digits n) z (run_below p n u.files u.none b) in
    let q : calls (digits n) ≡ 8 * (digits n / 8 + 1) + digits n - 1 = omega arith in
    answered before after start (start + n) (8 * (digits n / 8 + 1) + digits n - 1) r
    (run_says before.held start n u b l ∙ ap (λ (k : ℕ). granted ((start + n) ∷ k ∷ [])) q)
    t

pub nothing_is_found : NothingIsFound
nothing_is_found before after start r u l t =
    let d : digits 0 ≡ 0 = digits_is 0 0 (omega arith) (omega arith) (omega arith) in
    let z : start + 0 ≡ start = omega arith in
    answered before after start start 8 r
    (run_says before.held start 0 u (omega arith) l ∙ ap (λ (k : ℕ). granted (k ∷ calls (digits 0) ∷ [])) z ∙ ap (λ (k : ℕ). granted (start ∷ calls k ∷ [])) d)
    t
