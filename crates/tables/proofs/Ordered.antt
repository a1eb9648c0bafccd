-- A row put into an ordered list of rows.
use Rattle.std.proofs.Common.{◌≡◌, ℕ, zero, suc, ◌+◌, ◌-◌, ◌<◌, ◌≤◌, true, false, cond, List, [], ◌∷◌, ◌++◌, length, get_or, take, drop, set, Some, sym, refl, ap, ◌∙◌, subst, inl, inr, arith, length-set}
use mathlib.Core.Path.{fun_ext}
use Rattle.std.specs.List.{insert}
use Rattle.std.proofs.lemmas.List.{take-append-drop, get_or-set_same, get_or-set_other, get_or-take, length-take-le}
use Rattle.std.proofs.lemmas.List.Edits.{length-insert, get_or-insert_below, get_or-insert_at, get_or-insert_above}
use Rattle.std.proofs.lemmas.Bool.{cases_Bool, cases_lt, cases_eq, cases_order, both_ways, cond-true, cond-false}
use Rattle.rows.specs.Rows.{Row}
use Rattle.rows.specs.Sizes.{weight, total}
use Rattle.mem_table.specs.Order.{no_row, below, has}
use Rattle.tables.specs.Ranks.{ahead, Precedes, Ascending, At, Front, Back, Between}
use Rattle.mem_table.specs.Meaning.{lookup, with_row}
use Rattle.tables.proofs.Ahead.{ahead_trans, ahead_apart, ahead_keys}
use Rattle.mem_table.proofs.Keys.{has_own, has_true, has_not, has_alike}
use Rattle.tables.proofs.Totals.{total_set, total_inserted}

-- an ordered list has rising keys, and each key and number once
pub rising : (rs : List Row) → Ascending rs → (i j : ℕ) → i < j → j < length rs → below (get_or rs j no_row).key (get_or rs i no_row).key ≡ false
rising rs up i j b l = ahead_keys (get_or rs i no_row).key (get_or rs j no_row).key (get_or rs i no_row).seq (get_or rs j no_row).seq (up i j (b, l))

pub apart : (rs : List Row) → Ascending rs → (i j : ℕ) → i < j → j < length rs → ((get_or rs i no_row).key ≡ (get_or rs j no_row).key) × ((get_or rs i no_row).seq ≡ (get_or rs j no_row).seq) → ⊥
apart rs up i j b l e = ahead_apart (get_or rs i no_row).key (get_or rs j no_row).key (get_or rs i no_row).seq (get_or rs j no_row).seq (up i j (b, l)) e.0 e.1

pub once : (rs : List Row) → Ascending rs → (i j : ℕ) → i < j → j < length rs → has (get_or rs i no_row) (get_or rs j no_row).key (get_or rs j no_row).seq ≡ false
once rs up i j b l = has_not (get_or rs i no_row) (get_or rs j no_row).key (get_or rs j no_row).seq (apart rs up i j b l)

-- no row has what another with a different key or number has
has_other : (x r : Row) (k : List ℕ) (n : ℕ) → has x r.key r.seq ≡ false → has x k n ≡ true → has r k n ≡ false
has_other x r k n h t =
    let p = has_true x k n t in
    has_not r k n (λ q. both_ways _ h (has_own x r.key r.seq (p.0 ∙ sym q.0) (p.1 ∙ sym q.1)))

abbrev Fresh : List Row → Row → ℕ → Type 0
Fresh rs r i = (j : ℕ) → j < i → has (get_or rs j no_row) r.key r.seq ≡ false

-- looking a row up, past the first
past : (x r : Row) (xs ys : List Row) (k : List ℕ) (n : ℕ) → has x r.key r.seq ≡ false → lookup ys k n ≡ with_row (lookup xs) r k n → lookup (x ∷ ys) k n ≡ with_row (lookup (x ∷ xs)) r k n
past x r xs ys k n h e =
    elim (cases_Bool (has x k n)) [
      | inl t ↦ cond-true _ (Some x) (lookup ys k n) t ∙ sym (cond-false _ (Some r) (lookup (x ∷ xs) k n) (has_other x r k n h t) ∙ cond-true _ (Some x) (lookup xs k n) t)
      | inr t ↦ cond-false _ (Some x) (lookup ys k n) t ∙ e ∙ ap (cond (has r k n) (Some r)) (sym (cond-false _ (Some x) (lookup xs k n) t))
    ]

lookup_set : (rs : List Row) (r : Row) (i : ℕ) → At rs r.key r.seq i → Fresh rs r i → (k : List ℕ) (n : ℕ) → lookup (set rs i r) k n ≡ with_row (lookup rs) r k n
lookup_set [] r i at h k n = absurd (omega (arith, at.bound))
lookup_set (x ∷ rs) r zero at h k n =
    elim (cases_Bool (has r k n)) [
      | inl t ↦ cond-true _ (Some r) (lookup rs k n) t ∙ sym (cond-true _ (Some r) (lookup (x ∷ rs) k n) t)
      | inr t ↦ cond-false _ (Some r) (lookup rs k n) t ∙ sym (cond-false _ (Some r) (lookup (x ∷ rs) k n) t ∙ cond-false _ (Some x) (lookup rs k n) (has_alike x r k n at.key at.seq ∙ t))
    ]
lookup_set (x ∷ rs) r (suc i) at h k n =
    let there : At rs r.key r.seq i = record { bound = omega (arith, at.bound); key = at.key; seq = at.seq } in
    past x r rs (set rs i r) k n (h 0 (omega arith)) (lookup_set rs r i there (λ j b. h (suc j) (omega arith)) k n)

lookup_between : (xs ys : List Row) (r : Row) → Fresh xs r (length xs) → (k : List ℕ) (n : ℕ) → lookup (xs ++ r ∷ ys) k n ≡ with_row (lookup (xs ++ ys)) r k n
lookup_between [] ys r h k n = refl
lookup_between (x ∷ xs) ys r h k n = past x r (xs ++ ys) (xs ++ r ∷ ys) k n (h 0 (omega arith)) (lookup_between xs ys r (λ j b. h (suc j) (omega arith)) k n)

-- two rows with the same key and number stand alike to others
alike : (r s t : Row) → r.key ≡ s.key → r.seq ≡ s.seq → Precedes r t → Precedes s t
alike r s t e f p = sym (ap (λ (k : List ℕ). ahead k r.seq t.key t.seq) e ∙ ap (λ (m : ℕ). ahead s.key m t.key t.seq) f) ∙ p

alike_after : (r s t : Row) → r.key ≡ s.key → r.seq ≡ s.seq → Precedes t r → Precedes t s
alike_after r s t e f p = sym (ap (λ (k : List ℕ). ahead t.key t.seq k r.seq) e ∙ ap (λ (m : ℕ). ahead t.key t.seq s.key m) f) ∙ p

-- an ordered list with one row put over it
pub record Laid (rs rs' : List Row) (r : Row) : Type 0 where
  pub ascends : Ascending rs'
  pub found : lookup rs' ≡ with_row (lookup rs) r
  pub weighs : total weight rs' ≤ total weight rs + weight r

-- rows at two places, given what stands there
two : (rs : List Row) (a b : ℕ) (x y : Row) → get_or rs a no_row ≡ x → get_or rs b no_row ≡ y → Precedes x y → Precedes (get_or rs a no_row) (get_or rs b no_row)
two rs a b x y e f h = subst (λ (z : Row). Precedes z (get_or rs b no_row)) (sym e) (subst (λ (z : Row). Precedes x z) (sym f) h)

module _ (rs : List Row) (up : Ascending rs) (r : Row) (i : ℕ) where
  module _ (at : At rs r.key r.seq i) where
    set_ascends : Ascending (set rs i r)
    set_ascends a b (l, m) =
        let m' : b < length rs = omega (arith, length-set rs i r) in
        let here : get_or (set rs i r) i no_row ≡ r = get_or-set_same rs i r no_row at.bound in
        elim (cases_eq a i) [
          | inl p ↦ two (set rs i r) a b r (get_or rs b no_row) (ap (λ q. get_or (set rs i r) q no_row) p ∙ here) (get_or-set_other rs i b r no_row (omega arith))
              (alike (get_or rs i no_row) r (get_or rs b no_row) at.key at.seq (up i b (omega arith, m')))
          | inr p ↦ elim (cases_eq b i) [
            | inl q ↦ two (set rs i r) a b (get_or rs a no_row) r (get_or-set_other rs i a r no_row p) (ap (λ n. get_or (set rs i r) n no_row) q ∙ here)
                (alike_after (get_or rs i no_row) r (get_or rs a no_row) at.key at.seq (up a i (omega arith, at.bound)))
            | inr q ↦ two (set rs i r) a b (get_or rs a no_row) (get_or rs b no_row) (get_or-set_other rs i a r no_row p) (get_or-set_other rs i b r no_row q) (up a b (l, m'))
          ]
        ]

    set_fresh : Fresh rs r i
    set_fresh j b = has_not (get_or rs j no_row) r.key r.seq (λ e. apart rs up j i b at.bound (e.0 ∙ sym at.key, e.1 ∙ sym at.seq))

    pub laid_over : Laid rs (set rs i r) r
    laid_over = record {
      ascends = set_ascends;
      found = fun_ext (λ k. fun_ext (λ n. lookup_set rs r i at set_fresh k n));
      weighs = omega (arith, total_set weight rs i r at.bound);
    }

  module _ (gap : Between rs r.key r.seq i) where
    under : (k : ℕ) → k < i → get_or (insert rs i r) k no_row ≡ get_or rs k no_row
    under k h = get_or-insert_below rs i r no_row k h gap.bound

    here : (k : ℕ) → k ≡ i → get_or (insert rs i r) k no_row ≡ r
    here k e = ap (λ n. get_or (insert rs i r) n no_row) e ∙ get_or-insert_at rs i r no_row gap.bound

    over : (k : ℕ) → i < k → get_or (insert rs i r) k no_row ≡ get_or rs (k - 1) no_row
    over k h =
        let e : k ≡ k - 1 + 1 = omega arith in
        ap (λ n. get_or (insert rs i r) n no_row) e ∙ get_or-insert_above rs i r no_row (k - 1) (omega arith) gap.bound

    inserted_ascends : Ascending (insert rs i r)
    inserted_ascends a b (l, m) =
        let long = length-insert rs i r gap.bound in
        let goal = two (insert rs i r) a b in
        elim (cases_order b i) [
          | inl q ↦ goal (get_or rs a no_row) r (under a (omega arith)) (here b q) (gap.front a (omega arith))
          | inr o ↦ elim o [
            | inl q ↦ goal (get_or rs a no_row) (get_or rs b no_row) (under a (omega arith)) (under b q) (up a b (l, omega (arith, gap.bound)))
            | inr q ↦ elim (cases_order a i) [
              | inl t ↦ goal r (get_or rs (b - 1) no_row) (here a t) (over b q) (gap.back (b - 1) (omega arith) (omega arith))
              | inr o ↦ elim o [
                | inl t ↦ goal (get_or rs a no_row) (get_or rs (b - 1) no_row) (under a t) (over b q) (up a (b - 1) (omega arith, omega arith))
                | inr t ↦ goal (get_or rs (a - 1) no_row) (get_or rs (b - 1) no_row) (over a t) (over b q) (up (a - 1) (b - 1) (omega arith, omega arith))
              ]
            ]
          ]
        ]

    front_fresh : Fresh (take i rs) r (length (take i rs))
    front_fresh j b =
        let n : length (take i rs) ≡ i = length-take-le i rs gap.bound in
        ap (λ x. has x r.key r.seq) (get_or-take i rs j no_row (omega arith))
        ∙ has_not (get_or rs j no_row) r.key r.seq (λ e. ahead_apart (get_or rs j no_row).key r.key (get_or rs j no_row).seq r.seq (gap.front j (omega arith)) e.0 e.1)

    pub laid_between : Laid rs (insert rs i r) r
    laid_between = record {
      ascends = inserted_ascends;
      found = fun_ext (λ k. fun_ext (λ n. lookup_between (take i rs) (drop i rs) r front_fresh k n ∙ ap (λ xs. with_row (lookup xs) r k n) (take-append-drop i rs)));
      weighs = omega (arith, total_inserted weight rs i r);
    }

-- a search by halving: what one comparison says of the rows on its side
module _ (rs : List Row) (up : Ascending rs) (k : List ℕ) (n i : ℕ) (l : i < length rs) where
  pub front_more : ahead (get_or rs i no_row).key (get_or rs i no_row).seq k n ≡ true → Front rs k n (i + 1)
  front_more h j b =
      elim (cases_lt j i) [
        | inl a ↦ ahead_trans (get_or rs j no_row).key (get_or rs i no_row).key k (get_or rs j no_row).seq (get_or rs i no_row).seq n (up j i (a, l)) h
        | inr a ↦ (let q : j ≡ i = omega arith in ap (λ m. ahead (get_or rs m no_row).key (get_or rs m no_row).seq k n) q ∙ h)
      ]

  pub back_more : ahead k n (get_or rs i no_row).key (get_or rs i no_row).seq ≡ true → Back rs k n i
  back_more h j b m =
      elim (cases_lt i j) [
        | inl a ↦ ahead_trans k (get_or rs i no_row).key (get_or rs j no_row).key n (get_or rs i no_row).seq (get_or rs j no_row).seq h (up i j (a, m))
        | inr a ↦ (let q : j ≡ i = omega arith in ap (λ m. ahead k n (get_or rs m no_row).key (get_or rs m no_row).seq) q ∙ h)
      ]
