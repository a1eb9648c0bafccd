-- How the damage of a part is the damage of the whole.
use Rattle.std.proofs.Common.{◌≡◌, ℕ, ◌+◌, ◌-◌, ◌<◌, ◌≤◌, List, [], ◌∷◌, ◌++◌, length, take, drop, sym, refl, ap, ◌∙◌, subst, append_assoc, append-nil, add_assoc, arith, length-append, length-drop}
use Rattle.std.proofs.lemmas.List.{take_all, take-append-drop, append_cancel_left, length-take-le, nil_from_length}
use Rattle.rows.specs.Lines.{Longest}
use Rattle.rows.specs.Grammar.{Damaged, Lang, Then, Many, FieldAt, DamageAt}
use Rattle.rows.proofs.Lists.{take_plus, drop_on}
use Rattle.rows.proofs.Damages.{none_begins, lift}

-- no text of F begins another, and none is written for two values
abbrev pub Apart : {A : Type 0} → (A → List ℕ → Type 0) → Type 0
Apart {A = A} F = (a b : A) (x y s t : List ℕ) → F a x → F b y → x ++ s ≡ y ++ t → (a ≡ b) × (x ≡ y)

module _ {A B : Type 0} (F : A → List ℕ → Type 0) (G : A → B → List ℕ → Type 0) where
  -- damage in the first part, where something can always follow it
  pub in_first : {t : List ℕ} {n : ℕ} → ((a : A) → (w : List ℕ) × Lang (G a) w) → Damaged (Lang F) t n → Damaged (Lang (Then F G)) t n
  in_first some d =
      lift
      (λ w m. (m.1.fore, m.1.back, (m.0.0, m.1.first), m.1.whole))
      (λ x l. let g = some l.0 in (g.0, ((l.0, g.1.0), record { fore = x; back = g.0; first = l.1; second = g.1.1; whole = refl })))
      d

  -- what follows a first part p that stands whole
  strip : Apart F → (a : A) (p w : List ℕ) → F a p → Lang (Then F G) (p ++ w) → Lang (G a) w
  strip apart a p w f m =
      let q = m.1 in
      let h = apart a m.0.0 p q.fore w q.back f q.first q.whole in
      let e : w ≡ q.back = append_cancel_left p w q.back (q.whole ∙ ap (λ l. l ++ q.back) (sym h.1)) in
      let R : A → Type 0 = λ k. G k m.0.1 q.back in
      (m.0.1, subst (G a m.0.1) (sym e) (subst R (sym h.0) q.second))

  -- damage in the second part
  pub in_second : Apart F → (a : A) (t : List ℕ) (n m : ℕ) → n ≤ length t → F a (take n t) → Damaged (Lang (G a)) (drop n t) m → Damaged (Lang (Then F G)) t (n + m)
  in_second apart a t n m le f d =
      record {
        longest = record {
          within = omega (arith, d.longest.within, length-drop n t);
          shared = (
              let v = d.longest.shared in
              (v.0, ((a, v.1.0), record { fore = take n t; back = take m (drop n t) ++ v.0; first = f; second = v.1.1; whole = ap (λ l. l ++ v.0) (take_plus n m t) ∙ append_assoc (take n t) (take m (drop n t)) v.0 })));
          stops = λ lt v.
              let e : take (n + m + 1) t ≡ take n t ++ take (m + 1) (drop n t) = ap (λ k. take k t) (add_assoc n m 1) ∙ take_plus n (m + 1) t in
              d.longest.stops (omega (arith, lt, length-drop n t)) (v.0, strip apart a (take n t) (take (m + 1) (drop n t) ++ v.0) f (subst (Lang (Then F G)) (ap (λ l. l ++ v.0) e ∙ append_assoc (take n t) (take (m + 1) (drop n t)) v.0) v.1));
        };
        none = λ k l.
            let q = l.1 in
            let u : take n t ++ drop n t ≡ q.fore ++ (q.back ++ drop k t) = take-append-drop n t ∙ sym (take-append-drop k t) ∙ ap (λ z. z ++ drop k t) q.whole ∙ append_assoc q.fore q.back (drop k t) in
            let h = apart a l.0.0 (take n t) q.fore (drop n t) (q.back ++ drop k t) f q.first u in
            let e : drop n t ≡ q.back ++ drop k t = append_cancel_left (take n t) (drop n t) (q.back ++ drop k t) (u ∙ ap (λ z. z ++ (q.back ++ drop k t)) (sym h.1)) in
            let R : A → Type 0 = λ z. G z l.0.1 q.back in
            none_begins d q.back (drop k t) e (l.0.1, subst R (sym h.0) q.second);
      }

  pub then_apart : Apart F → ((a : A) → Apart (G a)) → Apart (Then F G)
  then_apart p q ab cd x y s t f g e =
      let u : f.fore ++ (f.back ++ s) ≡ g.fore ++ (g.back ++ t) =
      sym (append_assoc f.fore f.back s) ∙ ap (λ z. z ++ s) (sym f.whole) ∙ e ∙ ap (λ z. z ++ t) g.whole ∙ append_assoc g.fore g.back t in
      let h = p ab.0 cd.0 f.fore g.fore (f.back ++ s) (g.back ++ t) f.first g.first u in
      let v : f.back ++ s ≡ g.back ++ t = append_cancel_left g.fore (f.back ++ s) (g.back ++ t) (ap (λ z. z ++ (f.back ++ s)) (sym h.1) ∙ u) in
      let R : A → Type 0 = λ z. G z ab.1 f.back in
      let k = q cd.0 ab.1 cd.1 f.back g.back s t (subst R h.0 f.second) g.second v in
      ((λ i. (h.0 i, k.0 i)), f.whole ∙ (λ i. h.1 i ++ k.1 i) ∙ sym g.whole)

  -- the same by places of a text
  module _ (t : List ℕ) (i : ℕ) where
    pub at_first : ((a : A) → (w : List ℕ) × Lang (G a) w) → (p : ℕ) → DamageAt (Lang F) t i p → DamageAt (Lang (Then F G)) t i p
    at_first some p d = record { after = d.after; within = d.within; damage = in_first some d.damage }

    pub at_second : Apart F → (a : A) (e p : ℕ) → FieldAt F t i a e → DamageAt (Lang (G a)) t e p → DamageAt (Lang (Then F G)) t i p
    at_second apart a e p f d =
        let after = f.after in
        let later = d.after in
        let s : (e - i) + (p - e) ≡ p - i = omega arith in
        let R : List ℕ → Type 0 = λ l. Damaged (Lang (G a)) l (p - e) in
        record {
          after = omega arith;
          within = d.within;
          damage = subst (Damaged (Lang (Then F G)) (drop i t)) s (in_second apart a (drop i t) (e - i) (p - e) (omega (arith, f.within, length-drop i t)) f.field (subst R (sym (drop_on t i e after)) d.damage));
        }

    pub at_both : (a : A) (b : B) (e p : ℕ) → FieldAt F t i a e → FieldAt (G a) t e b p → FieldAt (Then F G) t i (a, b) p
    at_both a b e p f g =
        let after = f.after in
        let later = g.after in
        let s : (e - i) + (p - e) ≡ p - i = omega arith in
        let R : List ℕ → Type 0 = λ l. G a b (take (p - e) l) in
        record {
          after = omega arith;
          within = g.within;
          field = subst (λ k. Then F G (a, b) (take k (drop i t))) s (record { fore = take (e - i) (drop i t); back = take (p - e) (drop (e - i) (drop i t)); first = f.field; second = subst R (sym (drop_on t i e after)) g.field; whole = take_plus (e - i) (p - e) (drop i t) });
        }

-- texts one after another
module _ {A : Type 0} (F : A → List ℕ → Type 0) where
  pub many_append : (as₁ as₂ : List A) (x y : List ℕ) → Many F as₁ x → Many F as₂ y → Many F (as₁ ++ as₂) (x ++ y)
  many_append [] bs x y f g = subst (Many F bs) (sym (ap (λ z. z ++ y) f)) g
  many_append (a ∷ rest) bs x y (p, q, f, more, e) g =
      (p, q ++ y, f, many_append rest bs q y more g, ap (λ z. z ++ y) e ∙ append_assoc p q y)

  pub many_one : (a : A) (x : List ℕ) → F a x → Many F (a ∷ []) x
  many_one a x f = (x, [], f, refl, sym (append-nil x))

  -- what follows texts that stand whole
  pub many_strip : Apart F → (as₁ as₂ : List A) (x y : List ℕ) → Many F as₁ x → Many F as₂ (x ++ y) → Lang (Many F) y
  many_strip apart [] bs x y f g = (bs, subst (Many F bs) (ap (λ z. z ++ y) f) g)
  many_strip apart (a ∷ rest) [] x y f g =
      ([], nil_from_length y (omega (arith, simp length-append at (ap length g))))
  many_strip apart (a ∷ rest) (b ∷ bs) x y (p, q, f, more, e) (p₂, q₂, f₂, more₂, e₂) =
      let u : p ++ (q ++ y) ≡ x ++ y = sym (append_assoc p q y) ∙ ap (λ z. z ++ y) (sym e) in
      let h = apart a b p p₂ (q ++ y) q₂ f f₂ (u ∙ e₂) in
      let v : q₂ ≡ q ++ y = append_cancel_left p q₂ (q ++ y) (ap (λ z. z ++ q₂) h.1 ∙ sym e₂ ∙ sym u) in
      many_strip apart rest bs q y more (subst (Many F bs) v more₂)

  first_of : (w : List ℕ) → 0 < length w → Lang (Many F) w → Lang (Then F (λ _. Many F)) w
  first_of w some ([], e) = absurd (omega (arith, ap length e))
  first_of w some (a ∷ rest, (p, q, f, more, e)) = ((a, rest), record { fore = p; back = q; first = f; second = more; whole = e })

  -- damage after texts that stand whole
  pub in_many : Apart F → (as₁ : List A) (t : List ℕ) (n m : ℕ) → n < length t → Many F as₁ (take n t) → Damaged (Lang F) (drop n t) m → Longest (Lang (Many F)) t (n + m) × (Lang (Many F) t → ⊥)
  in_many apart some t n m lt f d =
      let e = in_first F (λ _. Many F) (λ _. ([], ([], refl))) d in (
        record {
          within = omega (arith, d.longest.within, length-drop n t);
          shared = (
              let v = d.longest.shared in
              (v.0, (some ++ (v.1.0 ∷ []), subst (Many F (some ++ (v.1.0 ∷ []))) (sym (ap (λ l. l ++ v.0) (take_plus n m t) ∙ append_assoc (take n t) (take m (drop n t)) v.0)) (many_append some (v.1.0 ∷ []) (take n t) (take m (drop n t) ++ v.0) f (many_one v.1.0 _ v.1.1)))));
          stops = λ less v.
              let q : take (n + m + 1) t ++ v.0 ≡ take n t ++ (take (m + 1) (drop n t) ++ v.0) = ap (λ l. l ++ v.0) (ap (λ k. take k t) (add_assoc n m 1) ∙ take_plus n (m + 1) t) ∙ append_assoc (take n t) (take (m + 1) (drop n t)) v.0 in
              let w = many_strip apart some v.1.0 (take n t) (take (m + 1) (drop n t) ++ v.0) f (subst (Many F v.1.0) q v.1.1) in
              let room : m + 1 ≤ length (drop n t) = omega (arith, less, length-drop n t) in
              e.longest.stops (omega arith) (v.0, first_of _ (simp length-append (omega (arith, length-take-le (m + 1) (drop n t) room))) w);
        },
        (λ l.
            let w = many_strip apart some l.0 (take n t) (drop n t) f (subst (Many F l.0) (sym (take-append-drop n t)) l.1) in
            e.none (length (drop n t)) (subst (Lang (Then F (λ _. Many F))) (sym (take_all _ (drop n t) (omega arith))) (first_of (drop n t) (omega (arith, lt, length-drop n t)) w))),
      )
