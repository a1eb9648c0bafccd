-- The tick field: a lone minus, or a signed number.
use Rattle.std.proofs.Common.{◌≡◌, ℕ, suc, ◌+◌, ◌-◌, ◌^◌, ◌<◌, ◌≤◌, List, [], ◌∷◌, ◌++◌, length, get_or, take, drop, ℤ, pos, negsuc, Some, None, decimal, Option, sym, refl, ap, ◌∙◌, subst, append-nil, arith, length-append, length-drop}
use lib.Signed.{mag}
use Rattle.std.specs.Fmt.{signed_decimal}
use Rattle.std.proofs.lemmas.Fmt.{decimal_nonempty, signed_decimal_injective}
use Rattle.std.proofs.lemmas.List.{get_or_append_left, take_more}
use Rattle.std.proofs.lemmas.Bool.{ltb-true, lt-ltb}
use Rattle.rows.specs.Lines.{tick}
use Rattle.rows.specs.Grammar.{Lang, Damaged, Then, StuckAt}
use Rattle.rows.specs.Fields.{Decimal, TickField}
use Rattle.rows.proofs.Lists.{Lacks, closed}
use Rattle.rows.proofs.Damages.{choice}
use Rattle.rows.proofs.Chains.{Apart, in_second}
use Rattle.rows.proofs.DecimalLaws.{digit_of, lacks_tab}

-- the ticks from 0 on, and the distances from 0 of those below it
abbrev pub Plain : ℕ → List ℕ → Type 0
Plain = Decimal 0 (2 ^ 63 - 1)

abbrev pub Minus : ℕ → List ℕ → Type 0
Minus = Decimal 1 (2 ^ 63)

-- what may follow a minus
abbrev Behind : Option ℕ → List ℕ → Type 0
Behind None w = w ≡ 9 ∷ []
Behind (Some n) w = Minus n w

abbrev Sign : Unit {0} → List ℕ → Type 0
Sign _ w = w ≡ 45 ∷ []

first_digit : (n : ℕ) (w x : List ℕ) → n < 2 ^ 64 → w ≡ decimal n ++ x → 48 ≤ get_or w 0 0
first_digit n w x small e =
    let some = decimal_nonempty n small in
    let d = digit_of n 0 small some in
    omega (arith, d.0, ap (λ l. get_or l 0 0) e, get_or_append_left (decimal n) x 0 0 some)

signed_tick : (c : Option ℤ) (w : List ℕ) → TickField c w → (get_or w 0 0 ≡ 45 → ⊥) → Lang Plain w
signed_tick None w f bar = absurd (bar (ap (λ l. get_or l 0 0) f.written))
signed_tick (Some (pos n)) w f bar = (n, record { above = omega arith; below = omega (arith, ltb-true n _ f.range); written = f.written })
signed_tick (Some (negsuc n)) w f bar = absurd (bar (ap (λ l. get_or l 0 0) f.written))

minus_tick : (c : Option ℤ) (w : List ℕ) → TickField c w → get_or w 0 0 ≡ 45 → Lang (Then Sign (λ _. Behind)) w
minus_tick None w f e = ((tt, None), record { fore = 45 ∷ []; back = 9 ∷ []; first = refl; second = refl; whole = f.written })
minus_tick (Some (pos n)) w f e = let small = ltb-true n _ f.range in absurd (omega (arith, first_digit n w (9 ∷ []) (omega arith) f.written, e))
minus_tick (Some (negsuc n)) w f e =
    ((tt, Some (suc n)), record { fore = 45 ∷ []; back = decimal (suc n) ++ (9 ∷ []); first = refl; second = record { above = omega arith; below = omega (arith, ltb-true n _ f.range); written = refl }; whole = f.written })

pub negative_field : (n : ℕ) (w x : List ℕ) → w ≡ 45 ∷ x → Minus n x → TickField (Some (negsuc (n - 1))) w
negative_field n w x e f =
    let least = f.above in
    let s : n ≡ suc (n - 1) = omega arith in
    record { range = lt-ltb (n - 1) _ (omega (arith, f.below)); written = e ∙ ap (λ l. 45 ∷ l) f.written ∙ ap (λ k. 45 ∷ (decimal k ++ (9 ∷ []))) s }

tick_minus : (o : Option ℕ) (w x y : List ℕ) → x ≡ 45 ∷ [] → Behind o y → w ≡ x ++ y → Lang TickField w
tick_minus None w x y e f g = (None, record { range = refl; written = g ∙ (λ i. e i ++ f i) })
tick_minus (Some n) w x y e f g = (Some (negsuc (n - 1)), negative_field n w y (g ∙ ap (λ l. l ++ y) e) f)

not_empty : (c : Option ℤ) → TickField c [] → ⊥
not_empty c f = omega (arith, simp length-append at (ap length f.written))

behind_only : (u w : List ℕ) → (get_or u 0 0 ≡ 9 → ⊥) → (o : Option ℕ) → Behind o w → get_or w 0 0 ≡ get_or u 0 0 → Lang Minus w
behind_only u w bar None f e = absurd (bar (sym e ∙ ap (λ l. get_or l 0 0) f))
behind_only u w bar (Some n) f e = (n, f)

behind_some : (o : Option ℕ) → Behind o [] → ⊥
behind_some None f = omega (arith, ap length f)
behind_some (Some n) f = omega (arith, simp length-append at (ap length f.written))

-- damage of a number that has no minus
pub plain_damage : (t : List ℕ) (n : ℕ) → (get_or t 0 0 ≡ 45 → ⊥) → Damaged (Lang Plain) t n → Damaged (Lang TickField) t n
plain_damage t n bar d =
    choice t n (λ w m e. signed_tick m.0 w m.1 (λ f. bar (sym e ∙ f))) (λ m. not_empty m.0 m.1)
    (λ w l. (Some (pos l.0), record { range = lt-ltb l.0 _ (omega (arith, l.1.below)); written = l.1.written })) d

-- damage behind a minus
pub minus_damage : (t : List ℕ) (m : ℕ) → 0 < length t → get_or t 0 0 ≡ 45 → (get_or (drop 1 t) 0 0 ≡ 9 → ⊥) → Damaged (Lang Minus) (drop 1 t) m → Damaged (Lang TickField) t (1 + m)
minus_damage t m some is bar d =
    let b : Damaged (Lang Behind) (drop 1 t) m = choice (drop 1 t) m (λ w k e. behind_only (drop 1 t) w bar k.0 k.1 e) (λ k. behind_some k.0 k.1) (λ w l. (Some l.0, l.1)) d in
    let one : take 1 t ≡ 45 ∷ [] = take_more t 0 0 some ∙ ap (λ c. c ∷ []) is in
    let apart : Apart Sign = λ x y p q s u f g e. (refl, f ∙ sym g) in
    choice t (1 + m) (λ w k e. minus_tick k.0 w k.1 (e ∙ is)) (λ k. not_empty k.0 k.1)
    (λ w l. tick_minus l.0.1 w l.1.fore l.1.back l.1.first l.1.second l.1.whole)
    (in_second Sign (λ _. Behind) apart tt t 1 m (omega arith) one b)

-- the same by what is left of the text
pub plain_stuck : (t left : List ℕ) → (get_or t 0 0 ≡ 45 → ⊥) → StuckAt (Lang Plain) t left → StuckAt (Lang TickField) t left
plain_stuck t left bar d = record { within = d.within; damage = plain_damage t _ bar d.damage }

pub minus_stuck : (t left : List ℕ) → 0 < length t → get_or t 0 0 ≡ 45 → (get_or (drop 1 t) 0 0 ≡ 9 → ⊥) → StuckAt (Lang Minus) (drop 1 t) left → StuckAt (Lang TickField) t left
minus_stuck t left some is bar d =
    let s : 1 + (length (drop 1 t) - length left) ≡ length t - length left = omega (arith, d.within, length-drop 1 t) in
    record { within = omega (arith, d.within, length-drop 1 t); damage = subst (Damaged (Lang TickField) t) s (minus_damage t _ some is bar d.damage) }

tick_lacks : (c : Option ℤ) (w : List ℕ) → TickField c w → Lacks 9 (tick c)
tick_lacks None w f = ((λ e. omega (arith, e)), tt)
tick_lacks (Some (pos n)) w f = lacks_tab n (omega (arith, ltb-true n _ f.range))
tick_lacks (Some (negsuc n)) w f = ((λ e. omega (arith, e)), lacks_tab (suc n) (omega (arith, ltb-true n _ f.range)))

none_signed : (z : ℤ) → mag z < 2 ^ 63 → 45 ∷ [] ≡ signed_decimal z → ⊥
none_signed (pos n) small e = omega (arith, first_digit n (45 ∷ []) [] (omega arith) (e ∙ sym (append-nil (decimal n))))
none_signed (negsuc n) small e = omega (arith, decimal_nonempty (suc n) (omega arith), ap length e)

tick_same : (a b : Option ℤ) (x y : List ℕ) → TickField a x → TickField b y → tick a ≡ tick b → a ≡ b
tick_same None None x y f g e = refl
tick_same None (Some z) x y f g e = absurd (none_signed z (ltb-true (mag z) _ g.range) e)
tick_same (Some z) None x y f g e = absurd (none_signed z (ltb-true (mag z) _ f.range) (sym e))
tick_same (Some y) (Some z) u v f g e = ap Some (signed_decimal_injective y z (ltb-true (mag y) _ f.range) (ltb-true (mag z) _ g.range) e)

pub tick_apart : Apart TickField
tick_apart a b x y s t f g e =
    let u = closed 9 (tick a) (tick b) s t (tick_lacks a x f) (tick_lacks b y g) (ap (λ l. l ++ s) (sym f.written) ∙ e ∙ ap (λ l. l ++ t) g.written) in
    (tick_same a b x y f g u, f.written ∙ ap (λ l. l ++ (9 ∷ [])) u ∙ sym g.written)

pub tick_none : (w : List ℕ) × Lang TickField w
tick_none = (45 ∷ 9 ∷ [], (None, record { range = refl; written = refl }))
