-- The order of keys with numbers is strict and total.
use Rattle.std.proofs.Common.{◌≡◌, ℕ, ◌<◌, true, false, ltb, ◌⊎◌, List, [], ◌∷◌, Ordering, Less, Equal, Greater, sym, refl, ap, ◌∙◌, subst, inl, inr, arith}
use Rattle.std.specs.Ordering.{MatchOrdering, nat_cmp, ordering_then}
use Rattle.std.specs.Cmp.Lexicographic.{slice_cmp}
use Rattle.std.proofs.lemmas.Cmp.{ranked}
use Rattle.std.proofs.lemmas.Bool.{ltb-true, lt-ltb, both_ways}
use Rattle.mem_table.specs.Order.{below}
use Rattle.mem_table.proofs.Keys.{less, level, below_self, below_trans, below_anti, compared}
use Rattle.rows.specs.Rows.{Row}
use Rattle.tables.specs.Ranks.{ahead, rank_of}

-- by key, then the greater number first
pub by_key : (k l : List ℕ) (m n : ℕ) → below k l ≡ true → ahead k m l n ≡ true
by_key k l m n h = rw h

pub by_number : (k l : List ℕ) (m n : ℕ) → k ≡ l → n < m → ahead k m l n ≡ true
by_number k l m n e h =
    let a : below k l ≡ false = ap (below k) (sym e) ∙ below_self k in
    let b : below l k ≡ false = ap (below l) e ∙ below_self l in
    rw (a, b) (lt-ltb n m h)

since : (k l : List ℕ) (m n : ℕ) → ahead k m l n ≡ true → (below k l ≡ true) ⊎ ((k ≡ l) × (n < m))
since k l m n h =
    elim (compared k l) [
      | inl p ↦ inl p
      | inr o ↦ elim o [
        | inl e ↦ (
            let a : below k l ≡ false = ap (below k) (sym e) ∙ below_self k in
            let b : below l k ≡ false = ap (below l) e ∙ below_self l in
            let c : ltb n m ≡ true = rw (a, b) at h in
            inr (e, ltb-true n m c))
        | inr p ↦ (
            let a : below k l ≡ false = below_anti l k p in
            let c : false ≡ true = rw (a, p) at h in
            absurd (both_ways false refl c))
      ]
    ]

pub ahead_trans : (a b c : List ℕ) (x y z : ℕ) → ahead a x b y ≡ true → ahead b y c z ≡ true → ahead a x c z ≡ true
ahead_trans a b c x y z p q =
    elim (since a b x y p) [
      | inl l ↦ elim (since b c y z q) [
        | inl m ↦ by_key a c x z (below_trans a b c l m)
        | inr m ↦ by_key a c x z (ap (below a) (sym m.0) ∙ l)
      ]
      | inr l ↦ elim (since b c y z q) [
        | inl m ↦ by_key a c x z (ap (λ k. below k c) l.0 ∙ m)
        | inr m ↦ by_number a c x z (l.0 ∙ m.0) (omega (arith, l.1, m.1))
      ]
    ]

-- what comes first is not the same, and has no greater key
pub ahead_apart : (a b : List ℕ) (x y : ℕ) → ahead a x b y ≡ true → a ≡ b → x ≡ y → ⊥
ahead_apart a b x y p e f = elim (since a b x y p) [ inl l ↦ both_ways _ (ap (below a) (sym e) ∙ below_self a) l | inr l ↦ omega (arith, l.1) ]

pub ahead_keys : (a b : List ℕ) (x y : ℕ) → ahead a x b y ≡ true → below b a ≡ false
ahead_keys a b x y p = elim (since a b x y p) [ inl l ↦ below_anti a b l | inr l ↦ ap (below b) l.0 ∙ below_self b ]

-- what a comparison of two keys says
abbrev Says : List ℕ → List ℕ → Ordering → Type 0
Says a b o = MatchOrdering o (below a b ≡ true) (a ≡ b) (below b a ≡ true)

-- the first digits decide, and the rest where they are equal
behind : (x y : ℕ) (a b : List ℕ) (k rest : Ordering) → MatchOrdering k (x < y) (x ≡ y) (y < x) → Says a b rest → Says (x ∷ a) (y ∷ b) (ordering_then k rest)
behind x y a b Less rest l h = less x y a b l
behind x y a b Greater rest l h = less y x b a l
behind x y a b Equal Less e h = level x y a b e ∙ h
behind x y a b Equal Equal e h = (cc)
behind x y a b Equal Greater e h = level y x b a (sym e) ∙ h

says : (a b : List ℕ) → Says a b (slice_cmp nat_cmp a b)
says [] [] = refl
says [] (y ∷ b) = refl
says (x ∷ a) [] = refl
says (x ∷ a) (y ∷ b) = behind x y a b (nat_cmp x y) (slice_cmp nat_cmp a b) (ranked x y (nat_cmp x y) refl) (says a b)

-- a row comes before key k and number n, has them, or comes after
abbrev pub Stands : Row → List ℕ → ℕ → Ordering → Type 0
Stands r k n o = MatchOrdering o (ahead r.key r.seq k n ≡ true) ((r.key ≡ k) × (r.seq ≡ n)) (ahead k n r.key r.seq ≡ true)

-- of equal keys the numbers decide
numbered : (k l : List ℕ) (m n : ℕ) (o : Ordering) → k ≡ l → MatchOrdering o (n < m) (n ≡ m) (m < n) → MatchOrdering o (ahead k m l n ≡ true) ((k ≡ l) × (m ≡ n)) (ahead l n k m ≡ true)
numbered k l m n Less e h = by_number k l m n e h
numbered k l m n Equal e h = (e, sym h)
numbered k l m n Greater e h = by_number l k n m (sym e) h

both : (k l : List ℕ) (m n : ℕ) (o p : Ordering) → Says k l o → MatchOrdering p (n < m) (n ≡ m) (m < n) → MatchOrdering (ordering_then o p) (ahead k m l n ≡ true) ((k ≡ l) × (m ≡ n)) (ahead l n k m ≡ true)
both k l m n Less p h g = by_key k l m n h
both k l m n Equal p h g = numbered k l m n p h g
both k l m n Greater p h g = by_key l k n m h

pub from_rank : (r : Row) (k : List ℕ) (n : ℕ) (o : Ordering) → o ≡ rank_of r.key r.seq k n → Stands r k n o
from_rank r k n o e = subst (Stands r k n) (sym e) (both r.key k r.seq n _ _ (says r.key k) (ranked n r.seq (nat_cmp n r.seq) refl))

pub stands_at_less : (r : Row) (k : List ℕ) (n : ℕ) (o : Ordering) → Stands r k n o → o ≡ Less → ahead r.key r.seq k n ≡ true
stands_at_less r k n o h e = subst (Stands r k n) e h

pub stands_at_equal : (r : Row) (k : List ℕ) (n : ℕ) (o : Ordering) → Stands r k n o → o ≡ Equal → (r.key ≡ k) × (r.seq ≡ n)
stands_at_equal r k n o h e = subst (Stands r k n) e h

pub stands_at_greater : (r : Row) (k : List ℕ) (n : ℕ) (o : Ordering) → Stands r k n o → o ≡ Greater → ahead k n r.key r.seq ≡ true
stands_at_greater r k n o h e = subst (Stands r k n) e h
