-- Reading a decimal field digit by digit.
use Rattle.std.proofs.Common.{◌≡◌, ℕ, ◌+◌, ◌-◌, ◌*◌, ◌/◌, ◌%◌, ◌^◌, ◌<◌, ◌≤◌, true, eqb, ◌⊎◌, List, [], ◌∷◌, ◌++◌, length, get_or, take, drop, decimal, sym, refl, ap, ◌∙◌, subst, inl, inr, ⊎_elim, append_assoc, arith, length-append, rules, eq-eqb, true-eqb}
use Rattle.std.specs.Int.{IsInRange}
use Rattle.std.specs.Str.{all_ascii_digits}
use Rattle.std.proofs.lemmas.Str.Parse.{IsNumeralModel, numerals_by_fold, tells_all_ascii_digits, digit_at, not_in_digits}
use Rattle.std.proofs.lemmas.Fmt.{digits_decimal, digits_value-decimal, decimal_step, decimal_digit, decimal_nonempty, first_decimal, decimal_injective}
use Rattle.std.proofs.lemmas.List.{get_or_at, nil_from_length, take_more, length-take, length-take-le, get_or-take, take-append-drop}
use Rattle.std.proofs.str.Laws.{order}
use Rattle.rows.specs.Lines.{Viable}
use Rattle.rows.specs.Grammar.{Lang, Damaged, FrontOf}
use Rattle.rows.specs.Fields.{Decimal, Follows}
use Rattle.rows.proofs.Lists.{cut, Lacks, lacks_from, closed}
use Rattle.rows.proofs.Damages.{damaged}
use Rattle.rows.proofs.Chains.{Apart}

abbrev read_on : ℕ → List ℕ → ℕ
read_on n [] = n
read_on n (c ∷ cs) = read_on (n * 10 + (c - 48)) cs

own : IsNumeralModel (λ ds. all_ascii_digits ds ≡ true) (read_on 0)
own = numerals_by_fold _ tells_all_ascii_digits read_on (search rules)

read_on_append : (n : ℕ) (xs ys : List ℕ) → read_on n (xs ++ ys) ≡ read_on (read_on n xs) ys
read_on_append n [] ys = refl
read_on_append n (x ∷ xs) ys = read_on_append (n * 10 + (x - 48)) xs ys

read_on_ge : (n : ℕ) (xs : List ℕ) → n ≤ read_on n xs
read_on_ge n [] = omega arith
read_on_ge n (x ∷ xs) = omega (arith, read_on_ge (n * 10 + (x - 48)) xs)

decimal_more : (n d : ℕ) → 0 < n → d < 10 → n * 10 + d < 2 ^ 64 → decimal (n * 10 + d) ≡ decimal n ++ ((48 + d) ∷ [])
decimal_more n d pos small fits =
    let q : (n * 10 + d) / 10 ≡ n = omega arith in
    let m : (n * 10 + d) % 10 ≡ d = omega arith in
    let e = decimal_step (n * 10 + d) (omega arith) fits in
    simp (q, m) at e

-- a byte of a number is a digit
pub digit_of : (n i : ℕ) → n < 2 ^ 64 → i < length (decimal n) → IsInRange 48 57 (get_or (decimal n) i 0)
digit_of n i small lt = digit_at (decimal n) i (own.to (decimal n) (digits_decimal own n small)) lt

pub lacks_tab : (n : ℕ) → n < 2 ^ 64 → Lacks 9 (decimal n)
lacks_tab n small = lacks_from 9 (decimal n) (λ i lt e. not_in_digits own (decimal n) 9 (digits_decimal own n small) (λ d. omega (arith, d.0)) i lt e)

-- p is what was read of a number so far, and writes n
pub record SoFar (low top : ℕ) (p : List ℕ) (n : ℕ) : Type 0 where
  pub small : n ≤ top
  pub empty : length p ≡ 0 → n ≡ 0
  pub least : 0 < length p → low ≤ n
  pub written : 0 < length p → p ≡ decimal n

module _ (low top : ℕ) (little : low ≤ 1) (some : 0 < top) (fit : top < 2 ^ 64) where
  abbrev L : List ℕ → Type 0
  L = Lang (Decimal low top)

  pub begins : SoFar low top [] 0
  begins = record { small = omega arith; empty = λ _. refl; least = λ h. absurd (omega arith); written = λ h. absurd (omega arith) }

  module _ {p : List ℕ} {n : ℕ} (s : SoFar low top p n) where
    fits : n < 2 ^ 64
    fits = omega (arith, s.small)

    -- what was read writes n, also where it is empty
    writes : read_on 0 p ≡ n
    writes =
        ⊎_elim
        (λ h. ap (read_on 0) (s.written h) ∙ digits_value-decimal own n fits)
        (λ h. let none : length p ≡ 0 = omega arith in let e = nil_from_length p none in let z = s.empty none in ap (read_on 0) e ∙ sym z)
        (order 0 (length p))

    has_some : 0 < n → 0 < length p
    has_some pos = ⊎_elim (λ h. h) (λ h. absurd (omega (arith, s.empty (omega arith)))) (order 0 (length p))

    more : (b : ℕ) → Follows low top n (eqb (length p) 0) b → SoFar low top (p ++ (b ∷ [])) (n * 10 + (b - 48))
    more b f =
        let zero = f.digit in
        let nine = f.nine in
        record {
          small = f.below;
          empty = λ h. omega (arith, simp length-append at h);
          least = λ _. f.above;
          written = λ _.
              ⊎_elim
              (λ h.
              let d : b ≡ 48 + (b - 48) = omega arith in
              ap (λ l. l ++ (b ∷ [])) (s.written (has_some h)) ∙ ap (λ x. decimal n ++ (x ∷ [])) d ∙ sym (decimal_more n (b - 48) h (omega arith) (omega (arith, f.below))))
              (λ h.
              let d : b ≡ 48 + (n * 10 + (b - 48)) = omega arith in
              let e : length p ≡ 0 = ⊎_elim (λ z. true-eqb (length p) 0 (sym z)) (λ z. absurd (omega arith)) f.lead in
              ap (λ l. l ++ (b ∷ [])) (nil_from_length p e) ∙ ap (λ x. x ∷ []) d ∙ sym (decimal_digit (n * 10 + (b - 48)) (omega arith)))
              (order 0 n);
        }

    -- the digits so far can be gone on with
    viable : Viable L p
    viable =
        ⊎_elim
        (λ h. (9 ∷ [], (n, record { above = s.least h; below = s.small; written = ap (λ l. l ++ (9 ∷ [])) (s.written h) })))
        (λ h.
        let e = nil_from_length p (omega arith) in
        (49 ∷ 9 ∷ [], (1, record { above = little; below = omega arith; written = ap (λ l. l ++ (49 ∷ 9 ∷ [])) e ∙ ap (λ l. l ++ (9 ∷ [])) (sym (decimal_digit 1 (omega arith))) })))
        (order 0 (length p))

    -- a number that begins with them and b
    module _ (b m : ℕ) (z : List ℕ) (least : low ≤ m) (most : m ≤ top) (e : decimal m ≡ p ++ (b ∷ z)) where
      small : m < 2 ^ 64
      small = omega arith

      long : length p < length (p ++ (b ∷ z))
      long = simp length-append (omega arith)

      letter : IsInRange 48 57 b
      letter = subst (IsInRange 48 57) (ap (λ l. get_or l (length p) 0) e ∙ get_or_at p b z 0 (length p) refl) (digit_of m (length p) small (omega (arith, long, ap length e)))

      read : read_on n (b ∷ z) ≡ m
      read = ap (λ k. read_on k (b ∷ z)) (sym writes) ∙ sym (read_on_append 0 p (b ∷ z)) ∙ ap (read_on 0) (sym e) ∙ digits_value-decimal own m small

      under : n * 10 + (b - 48) ≤ top
      under = omega (arith, read, most, read_on_ge (n * 10 + (b - 48)) z)

      leads : (eqb (length p) 0 ≡ true) ⊎ (0 < n)
      leads =
          ⊎_elim
          (λ h. inr h)
          (λ h. ⊎_elim
          (λ some.
          let zero : n ≡ 0 = omega arith in
          let q : p ≡ 48 ∷ [] = s.written some ∙ ap decimal zero ∙ decimal_digit 0 (omega arith) in
          let f : decimal m ≡ 48 ∷ b ∷ z = e ∙ ap (λ l. l ++ (b ∷ z)) q in
          ⊎_elim
          (λ pos. absurd (omega (arith, first_decimal m pos small, ap (λ l. get_or l 0 0) f)))
          (λ no-pos.
          let w : m ≡ 0 = omega arith in
          absurd (omega (arith, ap length (sym (ap decimal w ∙ decimal_digit 0 (omega arith)) ∙ f))))
          (order 0 m))
          (λ none. inl (eq-eqb (length p) 0 (omega arith)))
          (order 0 (length p)))
          (order 0 n)

      -- where the range begins at 1, the first digit is no zero
      over : low ≤ n * 10 + (b - 48)
      over =
          ⊎_elim
          (λ pos. omega arith)
          (λ none.
          ⊎_elim
          (λ d. omega (arith, letter.0))
          (λ d.
          let zero : n ≡ 0 = omega arith in
          let q : length p ≡ 0 = ⊎_elim (λ h. absurd (omega (arith, ⊎_elim (λ z. true-eqb (length p) 0 (sym z)) (λ z. absurd (omega arith)) leads))) (λ h. omega arith) (order 0 (length p)) in
          let f : decimal m ≡ b ∷ z = e ∙ ap (λ l. l ++ (b ∷ z)) (nil_from_length p q) in
          ⊎_elim (λ pos. absurd (omega (arith, first_decimal m pos small, ap (λ l. get_or l 0 0) f))) (λ h. omega arith) (order 0 m))
          (order 48 b))
          (order 0 n)

    -- and with no bytes but these
    goes : (b : ℕ) → Viable L (p ++ (b ∷ [])) → ((b ≡ 9) × (0 < length p)) ⊎ Follows low top n (eqb (length p) 0) b
    goes b v =
        let m = v.1.0 in
        let f = v.1.1 in
        ⊎_elim
        (λ h. inl (h.1, omega (arith, decimal_nonempty m (omega (arith, f.below)), ap length h.0)))
        (λ h.
        let told = letter b m h.0 f.above f.below h.1 in
        inr (record { digit = told.0; nine = told.1; lead = leads b m h.0 f.above f.below h.1; above = over b m h.0 f.above f.below h.1; below = under b m h.0 f.above f.below h.1 }))
        (cut p (decimal m) b 9 v.0 (sym (append_assoc p (b ∷ []) v.0) ∙ f.written))

    -- no field has ended in them
    open_yet : (m : ℕ) → L (take m p) → ⊥
    open_yet m w =
        let k = w.0 in
        let j = length (decimal k) in
        let len : length (decimal k) < length p = omega (arith, length-take m p, simp length-append at (ap length w.1.written)) in
        let lem : length (decimal k) < m = omega (arith, length-take m p, simp length-append at (ap length w.1.written)) in
        let nine : get_or p (length (decimal k)) 0 ≡ 9 = sym (get_or-take m p j 0 lem) ∙ ap (λ l. get_or l j 0) w.1.written ∙ get_or_at (decimal k) 9 [] 0 j refl in
        let e = s.written (omega arith) in
        let d = digit_of n j fits (subst (λ l. j < length l) e len) in
        omega (arith, nine, ap (λ l. get_or l j 0) e, d.0)

  -- the same of the first i bytes of a text
  module _ (t : List ℕ) (n i : ℕ) (s : SoFar low top (take i t) n) (within : i ≤ length t) where
    front : length (take i t) ≡ i
    front = length-take-le i t within

    pub stuck : (i < length t → get_or t i 0 ≡ 9 → 0 < i → ⊥) → (i < length t → Follows low top n (eqb i 0) (get_or t i 0) → ⊥) → Damaged L t i
    stuck no_tab no_digit =
        damaged L t i within (viable s)
        (λ lt v.
        ⊎_elim
        (λ h. no_tab lt h.0 (omega (arith, front, h.1)))
        (λ h. no_digit lt (subst (λ k. Follows low top n (eqb k 0) (get_or t i 0)) front h))
        (goes s (get_or t i 0) (subst (Viable L) (take_more t i 0 lt) v)))
        (open_yet s)

    pub step : i < length t → Follows low top n (eqb i 0) (get_or t i 0) → SoFar low top (take (i + 1) t) (n * 10 + (get_or t i 0 - 48))
    step lt f =
        subst (λ l. SoFar low top l (n * 10 + (get_or t i 0 - 48))) (sym (take_more t i 0 lt))
        (more s (get_or t i 0) (subst (λ k. Follows low top n (eqb k 0) (get_or t i 0)) (sym front) f))

    pub done : i < length t → 0 < i → get_or t i 0 ≡ 9 → FrontOf (Decimal low top) t n (drop (i + 1) t)
    done lt pos nine =
        record {
          fore = take (i + 1) t;
          field = record {
            above = s.least (omega (arith, front));
            below = s.small;
            written = take_more t i 0 lt ∙ ap (λ c. take i t ++ (c ∷ [])) nine ∙ ap (λ l. l ++ (9 ∷ [])) (s.written (omega (arith, front)));
          };
          whole = sym (take-append-drop (i + 1) t);
        }

  pub decimal_apart : Apart (Decimal low top)
  decimal_apart a b x y s t f g e =
      let fa = f.below in
      let fb = g.below in
      let sa : a < 2 ^ 64 = omega arith in
      let sb : b < 2 ^ 64 = omega arith in
      let u = closed 9 (decimal a) (decimal b) s t (lacks_tab a sa) (lacks_tab b sb) (ap (λ l. l ++ s) (sym f.written) ∙ e ∙ ap (λ l. l ++ t) g.written) in
      (decimal_injective a b sa sb u, f.written ∙ ap (λ l. l ++ (9 ∷ [])) u ∙ sym g.written)
