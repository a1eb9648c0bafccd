-- The order of keys is strict and total.
use Rattle.std.proofs.Common.{◌≡◌, ℕ, ◌<◌, true, false, eqb, ◌⊎◌, List, [], ◌∷◌, sym, refl, ap, ◌∙◌, inl, inr, arith}
use Rattle.std.proofs.lemmas.Bool.{cases_Bool, cases_order, lt-ltb, le-ltb, eqb-true, eq-eqb, and_parts, and_from, both_ways}
use Rattle.rows.specs.Rows.{Row}
use Rattle.mem_table.specs.Order.{below, same, has}

-- the first digits decide, unless they are equal
pub less : (x y : ℕ) (k l : List ℕ) → x < y → below (x ∷ k) (y ∷ l) ≡ true
less x y k l h = rw (lt-ltb x y h)

pub level : (x y : ℕ) (k l : List ℕ) → x ≡ y → below (x ∷ k) (y ∷ l) ≡ below k l
level x y k l e = rw (le-ltb x y (omega arith), le-ltb y x (omega arith))

more : (x y : ℕ) (k l : List ℕ) → y < x → below (x ∷ k) (y ∷ l) ≡ false
more x y k l h = rw (le-ltb x y (omega arith), lt-ltb y x h)

why : (x y : ℕ) (k l : List ℕ) → below (x ∷ k) (y ∷ l) ≡ true → (x < y) ⊎ ((x ≡ y) × (below k l ≡ true))
why x y k l h =
    elim (cases_order x y) [
      | inl e ↦ inr (e, sym (level x y k l e) ∙ h)
      | inr o ↦ elim o [ inl a ↦ inl a | inr a ↦ absurd (both_ways _ (more x y k l a) h) ]
    ]

pub below_self : (k : List ℕ) → below k k ≡ false
below_self [] = refl
below_self (x ∷ k) = level x x k k refl ∙ below_self k

pub below_trans : (a b c : List ℕ) → below a b ≡ true → below b c ≡ true → below a c ≡ true
below_trans [] [] c p q = absurd (both_ways false refl p)
below_trans [] (y ∷ b) [] p q = absurd (both_ways false refl q)
below_trans [] (y ∷ b) (z ∷ c) p q = refl
below_trans (x ∷ a) [] c p q = absurd (both_ways false refl p)
below_trans (x ∷ a) (y ∷ b) [] p q = absurd (both_ways false refl q)
below_trans (x ∷ a) (y ∷ b) (z ∷ c) p q =
    elim (why x y a b p) [
      | inl l ↦ elim (why y z b c q) [ inl m ↦ less x z a c (omega arith) | inr m ↦ less x z a c (omega (arith, m.0)) ]
      | inr l ↦ elim (why y z b c q) [
        | inl m ↦ less x z a c (omega (arith, l.0))
        | inr m ↦ level x z a c (l.0 ∙ m.0) ∙ below_trans a b c l.1 m.1
      ]
    ]

pub below_anti : (a b : List ℕ) → below a b ≡ true → below b a ≡ false
below_anti a b p = elim (cases_Bool (below b a)) [ inl q ↦ absurd (both_ways _ (below_self a) (below_trans a b a p q)) | inr q ↦ q ]

pub compared : (k l : List ℕ) → (below k l ≡ true) ⊎ ((k ≡ l) ⊎ (below l k ≡ true))
compared [] [] = inr (inl refl)
compared [] (y ∷ l) = inl refl
compared (x ∷ k) [] = inr (inr refl)
compared (x ∷ k) (y ∷ l) =
    elim (cases_order x y) [
      | inl e ↦ elim (compared k l) [
        | inl p ↦ inl (level x y k l e ∙ p)
        | inr o ↦ elim o [ inl f ↦ inr (inl (cc)) | inr p ↦ inr (inr (level y x l k (sym e) ∙ p)) ]
      ]
      | inr o ↦ elim o [ inl a ↦ inl (less x y k l a) | inr a ↦ inr (inr (less y x l k a)) ]
    ]

-- equal keys are the same key
same_self : (k : List ℕ) → same k k ≡ true
same_self [] = refl
same_self (x ∷ k) = rw (eq-eqb x x refl) (same_self k)

same_true : (k l : List ℕ) → same k l ≡ true → k ≡ l
same_true [] [] h = refl
same_true [] (y ∷ l) h = absurd (both_ways false refl h)
same_true (x ∷ k) [] h = absurd (both_ways false refl h)
same_true (x ∷ k) (y ∷ l) h =
    let p = and_parts (eqb x y) (same k l) h in
    let e = eqb-true x y p.0 in
    let f = same_true k l p.1 in
    (cc)

-- a row has its own key and number, and no other
pub has_own : (r : Row) (k : List ℕ) (n : ℕ) → r.key ≡ k → r.seq ≡ n → has r k n ≡ true
has_own r k n e f = and_from (same r.key k) (eqb r.seq n) (ap (same r.key) (sym e) ∙ same_self r.key) (eq-eqb r.seq n f)

pub has_true : (r : Row) (k : List ℕ) (n : ℕ) → has r k n ≡ true → (r.key ≡ k) × (r.seq ≡ n)
has_true r k n h = let p = and_parts (same r.key k) (eqb r.seq n) h in (same_true r.key k p.0, eqb-true r.seq n p.1)

pub has_not : (r : Row) (k : List ℕ) (n : ℕ) → ((r.key ≡ k) × (r.seq ≡ n) → ⊥) → has r k n ≡ false
has_not r k n h = elim (cases_Bool (has r k n)) [ inl t ↦ absurd (h (has_true r k n t)) | inr t ↦ t ]

-- a row that has what another has, has it too
pub has_alike : (x r : Row) (k : List ℕ) (n : ℕ) → x.key ≡ r.key → x.seq ≡ r.seq → has x k n ≡ has r k n
has_alike x r k n e f =
    elim (cases_Bool (has r k n)) [
      | inl t ↦ (let p = has_true r k n t in has_own x k n (e ∙ p.0) (f ∙ p.1) ∙ sym t)
      | inr t ↦ has_not x k n (λ p. both_ways _ t (has_own r k n (sym e ∙ p.0) (sym f ∙ p.1))) ∙ sym t
    ]
