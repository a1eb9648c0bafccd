-- Reading hexadecimal digits one by one.
use Rattle.std.proofs.Common.{◌≡◌, ℕ, ◌+◌, ◌%◌, ◌<◌, ◌≤◌, min, true, false, Option, Some, None, ◌⊎◌, List, [], ◌∷◌, ◌++◌, length, get_or, take, drop, sym, refl, ap, ◌∙◌, subst, inl, inr, ⊎_elim, append_assoc, arith, length-append}
use Rattle.std.proofs.lemmas.List.{get_or_at, get_or_append_left, take_more, length-take, length-take-le, get_or-take, take-append-drop}
use Rattle.std.proofs.lemmas.Bool.Decides.{nat_tests}
use Rattle.std.proofs.str.Laws.{order}
use Rattle.std.proofs.lemmas.Bool.{false≢true}
use Rattle.std.specs.Option.{MatchOption, unwrap_or}
use Rattle.std.specs.List.{AllWithin, HoldsAt}
use Rattle.rows.specs.Rows.{hex_digit}
use Rattle.rows.specs.Lines.{Viable}
use Rattle.rows.specs.Grammar.{Lang, Damaged, FrontOf}
use Rattle.rows.specs.Fields.{HexField}
use Rattle.rows.proofs.Lists.{cut, Lacks, lacks_from, closed}
use Rattle.rows.proofs.Damages.{damaged}
use Rattle.rows.proofs.Chains.{Apart}

-- a digit is no byte below 48
pub digit_high : (b : ℕ) → hex_digit b ≡ true → 48 ≤ b
digit_high b e = grind (arith, nat_tests)

abbrev All : List ℕ → Type 0
All p = (i : ℕ) → i < length p → hex_digit (get_or p i 0) ≡ true

pub record SoFar (most : ℕ) (p : List ℕ) : Type 0 where
  pub short : length p ≤ most
  pub digits : (i : ℕ) → i < length p → hex_digit (get_or p i 0) ≡ true

-- digits stay digits with one more
more_digits : (p : List ℕ) (b : ℕ) → hex_digit b ≡ true → All p → All (p ++ (b ∷ []))
more_digits p b l all i lt =
    ⊎_elim
    (λ h. ap hex_digit (get_or_append_left p (b ∷ []) 0 i h) ∙ all i h)
    (λ h. let e : length p ≡ i = omega (arith, simp length-append at lt) in ap hex_digit (get_or_at p b [] 0 i e) ∙ l)
    (order i (length p))

-- what ends at the first byte of `most` that is no digit, or behind them
pub run : (most : ℕ) (t f : List ℕ) (first : Option ℕ) (m : ℕ) → f ≡ take (min (length t) most) t → MatchOption first (AllWithin (λ b. hex_digit b ≡ true) f 0 (length f)) (λ i. (i < length f) × HoldsAt (λ b. hex_digit b ≡ false) f i × AllWithin (λ b. hex_digit b ≡ true) f 0 i) → m ≡ unwrap_or first (length f) → (m ≤ length t) × SoFar most (take m t) × (m < length t → hex_digit (get_or t m 0) ≡ true → m < most → ⊥)
run most t f None m cut all e =
    let long : length f ≡ min (length t) most = ap length cut ∙ length-take-le (min (length t) most) t (omega arith) in (
      omega arith,
      record { short = omega (arith, length-take m t); digits = λ i lt. ap hex_digit (get_or-take m t i 0 (omega (arith, length-take m t)) ∙ sym (ap (λ l. get_or l i 0) cut ∙ get_or-take (min (length t) most) t i 0 (omega (arith, length-take m t)))) ∙ all i 0 (omega arith) (omega (arith, length-take m t)) },
      λ lt d less. omega arith,
    )
run most t f (Some n) m cut (lt, bad, all) e =
    let long : length f ≡ min (length t) most = ap length cut ∙ length-take-le (min (length t) most) t (omega arith) in
    let same : (i : ℕ) → i < length f → get_or f i 0 ≡ get_or t i 0 = λ i h. ap (λ l. get_or l i 0) cut ∙ get_or-take (min (length t) most) t i 0 (omega arith) in (
      omega arith,
      record { short = omega (arith, length-take m t); digits = λ i l. ap hex_digit (get_or-take m t i 0 (omega (arith, length-take m t)) ∙ sym (same i (omega (arith, length-take m t)))) ∙ all i 0 (omega arith) (omega (arith, length-take m t)) },
      λ l d less. let s : m ≡ n = omega arith in false≢true (sym (bad 0) ∙ ap hex_digit (same n lt) ∙ ap (λ k. hex_digit (get_or t k 0)) (sym s) ∙ d),
    )

module _ (most end : ℕ) (even : most % 2 ≡ 0) (mark : end < 48) where
  abbrev L : List ℕ → Type 0
  L = Lang (HexField most end)

  module _ (p : List ℕ) (s : SoFar most p) where
    viable : Viable L p
    viable =
        ⊎_elim
        (λ (odd : 0 < length p % 2).
        let room : length p + 1 ≤ most = omega (arith, s.short) in
        let len : length (p ++ (48 ∷ [])) ≡ length p + 1 = simp length-append (omega arith) in
        (48 ∷ end ∷ [], (p ++ (48 ∷ []), record { hex = (omega arith, omega arith, more_digits p 48 refl s.digits); written = sym (append_assoc p (48 ∷ []) (end ∷ [])) })))
        (λ is-even. (end ∷ [], (p, record { hex = (omega arith, s.short, s.digits); written = refl })))
        (order 0 (length p % 2))

    goes : (b : ℕ) → Viable L (p ++ (b ∷ [])) → ((b ≡ end) × (length p % 2 ≡ 0)) ⊎ ((hex_digit b ≡ true) × (length p < most))
    goes b v =
        let h = v.1.0 in
        let f = v.1.1 in
        ⊎_elim
        (λ k. inl (k.1, ap (λ l. length l % 2) k.0 ∙ f.hex.0))
        (λ k.
        let e = k.1 in
        let long : length p < length h = omega (arith, simp length-append at (ap length e)) in
        let at : get_or h (length p) 0 ≡ b = ap (λ l. get_or l (length p) 0) e ∙ get_or_at p b k.0 0 (length p) refl in
        inr (ap hex_digit (sym at) ∙ f.hex.2 (length p) long, omega (arith, f.hex.1)))
        (cut p h b end v.0 (sym (append_assoc p (b ∷ []) v.0) ∙ f.written))

    open_yet : (m : ℕ) → L (take m p) → ⊥
    open_yet m (h, f) =
        let j = length h in
        let len : length h < length p = omega (arith, length-take m p, simp length-append at (ap length f.written)) in
        let lem : length h < m = omega (arith, length-take m p, simp length-append at (ap length f.written)) in
        let stop : get_or p (length h) 0 ≡ end = sym (get_or-take m p j 0 lem) ∙ ap (λ l. get_or l j 0) f.written ∙ get_or_at h end [] 0 j refl in
        omega (arith, stop, digit_high (get_or p j 0) (s.digits j len))

  module _ (t : List ℕ) (i : ℕ) (s : SoFar most (take i t)) (within : i ≤ length t) where
    front : length (take i t) ≡ i
    front = length-take-le i t within

    pub stuck : (i < length t → get_or t i 0 ≡ end → i % 2 ≡ 0 → ⊥) → (i < length t → hex_digit (get_or t i 0) ≡ true → i < most → ⊥) → Damaged L t i
    stuck no_end no_digit =
        damaged L t i within (viable (take i t) s)
        (λ lt v.
        ⊎_elim
        (λ h. no_end lt h.0 (ap (λ k. k % 2) (sym front) ∙ h.1))
        (λ h. no_digit lt h.0 (omega (arith, front, h.1)))
        (goes (take i t) s (get_or t i 0) (subst (Viable L) (take_more t i 0 lt) v)))
        (open_yet (take i t) s)

    pub step : i < length t → hex_digit (get_or t i 0) ≡ true → (i ≡ most → ⊥) → SoFar most (take (i + 1) t)
    step lt l room =
        let short = s.short in
        let less : i < most = ⊎_elim (λ h. h) (λ h. absurd (room (omega (arith, front)))) (order i most) in
        subst (SoFar most) (sym (take_more t i 0 lt))
        (record { short = simp length-append (omega (arith, front)); digits = more_digits (take i t) (get_or t i 0) l s.digits })

    pub done : i < length t → i % 2 ≡ 0 → get_or t i 0 ≡ end → FrontOf (HexField most end) t (take i t) (drop (i + 1) t)
    done lt pairs e =
        record {
          fore = take (i + 1) t;
          field = record { hex = (ap (λ k. k % 2) front ∙ pairs, s.short, s.digits); written = take_more t i 0 lt ∙ ap (λ c. take i t ++ (c ∷ [])) e };
          whole = sym (take-append-drop (i + 1) t);
        }

  lacks_end : (h w : List ℕ) → HexField most end h w → Lacks end h
  lacks_end h w f = lacks_from end h (λ i lt e. omega (arith, e, digit_high (get_or h i 0) (f.hex.2 i lt)))

  pub hex_apart : Apart (HexField most end)
  hex_apart a b x y s t f g e =
      let u = closed end a b s t (lacks_end a x f) (lacks_end b y g) (ap (λ l. l ++ s) (sym f.written) ∙ e ∙ ap (λ l. l ++ t) g.written) in
      (u, f.written ∙ ap (λ l. l ++ (end ∷ [])) u ∙ sym g.written)

  pub hex_none : (w : List ℕ) × L w
  hex_none = (end ∷ [], ([], record { hex = (refl, omega arith, λ i lt. absurd (omega arith)); written = refl }))
