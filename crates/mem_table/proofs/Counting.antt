-- Two enumerations of the same rows have as many rows, of the same size.
use Rattle.std.proofs.Common.{◌≡◌, ℕ, suc, ◌+◌, ◌<◌, true, false, cond, List, [], ◌∷◌, length, get_or, Some, None, Option, sym, refl, ap, ◌∙◌, subst, inl, inr, arith}
use Rattle.std.proofs.lemmas.Bool.{cases_Bool, both_ways, cond-true, cond-false}
use Rattle.rows.specs.Rows.{Row}
use Rattle.rows.specs.Sizes.{size, total}
use Rattle.mem_table.specs.Order.{no_row, has}
use Rattle.mem_table.specs.Meaning.{lookup}
use Rattle.mem_table.specs.Laws.{OneCount}
use Rattle.mem_table.proofs.Keys.{has_own, has_true, has_not}
use Rattle.mem_table.proofs.Keys.{has_alike}

-- no two rows have the same key and number
abbrev pub Unique : List Row → Type 0
Unique [] = Unit {0}
Unique (r ∷ rs) = (lookup rs r.key r.seq ≡ None) × Unique rs

-- the rows but the first of key k and number n
abbrev without : List Row → List ℕ → ℕ → List Row
without [] k n = []
without (r ∷ rs) k n = cond (has r k n) rs (r ∷ without rs k n)

none_some : (r : Row) → ◌≡◌ {A = Option Row} None (Some r) → ⊥
none_some r e = let z : ◌≡◌ {A = ℕ} 0 1 = cc in omega arith

-- what is found of a first row, and past it
pub found_first : (r : Row) (rs : List Row) (k : List ℕ) (n : ℕ) → has r k n ≡ true → lookup (r ∷ rs) k n ≡ Some r
found_first r rs k n t = cond-true (has r k n) (Some r) (lookup rs k n) t

pub found_past : (r : Row) (rs : List Row) (k : List ℕ) (n : ℕ) → has r k n ≡ false → lookup (r ∷ rs) k n ≡ lookup rs k n
found_past r rs k n t = cond-false (has r k n) (Some r) (lookup rs k n) t

without_first : (r : Row) (rs : List Row) (k : List ℕ) (n : ℕ) → has r k n ≡ true → without (r ∷ rs) k n ≡ rs
without_first r rs k n t = cond-true (has r k n) rs (r ∷ without rs k n) t

without_past : (r : Row) (rs : List Row) (k : List ℕ) (n : ℕ) → has r k n ≡ false → without (r ∷ rs) k n ≡ r ∷ without rs k n
without_past r rs k n t = cond-false (has r k n) rs (r ∷ without rs k n) t

-- a row that is found counts once
counted : (f : Row → ℕ) (rs : List Row) (k : List ℕ) (n : ℕ) (x : Row) → lookup rs k n ≡ Some x → (length rs ≡ length (without rs k n) + 1) × (total f rs ≡ total f (without rs k n) + f x)
counted f [] k n x e = absurd (none_some x e)
counted f (r ∷ rs) k n x e =
    elim (cases_Bool (has r k n)) [
      | inl t ↦ (
          let s : Some r ≡ Some x = sym (found_first r rs k n t) ∙ e in
          let q : r ≡ x = cc in
          let w = without_first r rs k n t in
          (omega (arith, ap length w), omega (arith, ap (total f) w, ap f q)))
      | inr t ↦ (
          let w = without_past r rs k n t in
          let c = counted f rs k n x (sym (found_past r rs k n t) ∙ e) in
          (omega (arith, ap length w, c.0), omega (arith, ap (total f) w, c.1)))
    ]

-- what is not found is not found without a row
still_none : (rs : List Row) (k l : List ℕ) (n m : ℕ) → lookup rs l m ≡ None → lookup (without rs k n) l m ≡ None
still_none [] k l n m e = refl
still_none (r ∷ rs) k l n m e =
    elim (cases_Bool (has r l m)) [
      | inl t ↦ absurd (none_some r (sym e ∙ found_first r rs l m t))
      | inr t ↦ (
          let rest = sym (found_past r rs l m t) ∙ e in
          elim (cases_Bool (has r k n)) [
            | inl u ↦ ap (λ xs. lookup xs l m) (without_first r rs k n u) ∙ rest
            | inr u ↦ ap (λ xs. lookup xs l m) (without_past r rs k n u) ∙ found_past r (without rs k n) l m t ∙ still_none rs k l n m rest
          ])
    ]

still_unique : (rs : List Row) (k : List ℕ) (n : ℕ) → Unique rs → Unique (without rs k n)
still_unique [] k n u = tt
still_unique (r ∷ rs) k n u =
    elim (cases_Bool (has r k n)) [
      | inl t ↦ subst Unique (sym (without_first r rs k n t)) u.1
      | inr t ↦ subst Unique (sym (without_past r rs k n t)) (still_none rs k r.key n r.seq u.0, still_unique rs k n u.1)
    ]

-- the row that went is not found, and every other is
gone : (rs : List Row) (k : List ℕ) (n : ℕ) → Unique rs → lookup (without rs k n) k n ≡ None
gone [] k n u = refl
gone (r ∷ rs) k n u =
    elim (cases_Bool (has r k n)) [
      | inl t ↦ (
          let p = has_true r k n t in
          ap (λ xs. lookup xs k n) (without_first r rs k n t) ∙ ap (λ l. lookup rs l n) (sym p.0) ∙ ap (lookup rs r.key) (sym p.1) ∙ u.0)
      | inr t ↦ ap (λ xs. lookup xs k n) (without_past r rs k n t) ∙ found_past r (without rs k n) k n t ∙ gone rs k n u.1
    ]

others : (rs : List Row) (k l : List ℕ) (n m : ℕ) → ((r : Row) → has r k n ≡ true → has r l m ≡ false) → lookup (without rs k n) l m ≡ lookup rs l m
others [] k l n m d = refl
others (r ∷ rs) k l n m d =
    elim (cases_Bool (has r k n)) [
      | inl t ↦ ap (λ xs. lookup xs l m) (without_first r rs k n t) ∙ sym (found_past r rs l m (d r t))
      | inr t ↦ ap (λ xs. lookup xs l m) (without_past r rs k n t) ∙ ap (cond (has r l m) (Some r)) (others rs k l n m d)
    ]

-- lists without doubles that find the same rows
pub agree : (f : Row → ℕ) (xs ys : List Row) → Unique xs → Unique ys → ((k : List ℕ) (n : ℕ) → lookup xs k n ≡ lookup ys k n) → (length xs ≡ length ys) × (total f xs ≡ total f ys)
agree f [] [] u v h = (refl, refl)
agree f [] (y ∷ ys) u v h = absurd (none_some y (h y.key y.seq ∙ found_first y ys y.key y.seq (has_own y y.key y.seq refl refl)))
agree f (x ∷ xs) ys u v h =
    let rest = without ys x.key x.seq in
    let e : lookup ys x.key x.seq ≡ Some x = sym (h x.key x.seq) ∙ found_first x xs x.key x.seq (has_own x x.key x.seq refl refl) in
    let c = counted f ys x.key x.seq x e in
    let step : (k : List ℕ) (n : ℕ) → lookup xs k n ≡ lookup rest k n = λ k n. elim (cases_Bool (has x k n)) [
      | inl t ↦ (
          let p = has_true x k n t in
          let a : lookup xs k n ≡ None = ap (λ l. lookup xs l n) (sym p.0) ∙ ap (lookup xs x.key) (sym p.1) ∙ u.0 in
          let b : lookup rest k n ≡ None = ap (λ l. lookup rest l n) (sym p.0) ∙ ap (lookup rest x.key) (sym p.1) ∙ gone ys x.key x.seq v in
          a ∙ sym b)
      | inr t ↦ sym (found_past x xs k n t) ∙ h k n ∙ sym (others ys x.key k x.seq n (λ r q. (let p = has_true r x.key x.seq q in has_alike r x k n p.0 p.1 ∙ t)))
    ] in
    let r = agree f xs rest u.1 (still_unique ys x.key x.seq v) step in
    (omega (arith, c.0, r.0), omega (arith, c.1, r.1))

-- an order has each row once
none_from : (rs : List Row) (k : List ℕ) (n : ℕ) → ((j : ℕ) → j < length rs → has (get_or rs j no_row) k n ≡ false) → lookup rs k n ≡ None
none_from [] k n h = refl
none_from (r ∷ rs) k n h = found_past r rs k n (h 0 (omega arith)) ∙ none_from rs k n (λ j l. h (suc j) (omega arith))

pub unique_from : (rs : List Row) → ((i j : ℕ) → i < j → j < length rs → has (get_or rs i no_row) (get_or rs j no_row).key (get_or rs j no_row).seq ≡ false) → Unique rs
unique_from [] h = tt
unique_from (r ∷ rs) h = (
  none_from rs r.key r.seq
      (λ j l. has_not (get_or rs j no_row) r.key r.seq (λ e. both_ways _ (h 0 (suc j) (omega arith) (omega arith)) (has_own r (get_or rs j no_row).key (get_or rs j no_row).seq (sym e.0) (sym e.1)))),
  unique_from rs (λ i j a b. h (suc i) (suc j) (omega arith) (omega arith)),
)

pub one_count : OneCount
one_count a b l m e =
    agree size a.order b.order (unique_from a.order l.once) (unique_from b.order m.once) (λ k n. ap (λ (g : List ℕ → ℕ → Option Row). g k n) (sym l.rows ∙ e ∙ m.rows))
