-- What holds of each slot and each number of a list, as one comes in.
use Rattle.std.proofs.Common.{◌≡◌, ℕ, suc, ◌+◌, ◌-◌, ◌<◌, ◌≤◌, Bool, true, cond, List, [], ◌∷◌, ◌++◌, map, length, get_or, take, drop, set, sym, refl, ap, ◌∙◌, subst, inl, inr, arith, length-append, length-set}
use Rattle.std.specs.List.{insert}
use Rattle.std.proofs.lemmas.List.{map-append, take-map, drop-map, get_or-set_same, get_or-set_other, get_or_append_left, get_or_push}
use Rattle.std.proofs.lemmas.List.Edits.{length-insert, get_or-insert_below, get_or-insert_at, get_or-insert_above}
use Rattle.std.proofs.lemmas.Bool.{cases_eq, cases_order, cases_lt, cond-true}
use Rattle.rows.specs.Rows.{Row}
use Rattle.tables.specs.declared.slot.Slot.{Slot}
use Rattle.tables.specs.Slots.{no_slot, Lies, Each, Inside}

-- functions that agree on a list
pub map_same : {A : Type 0} (d : A) (f g : A → Row) (xs : List A) → ((i : ℕ) → i < length xs → f (get_or xs i d) ≡ g (get_or xs i d)) → map f xs ≡ map g xs
map_same d f g [] h = refl
map_same d f g (x ∷ xs) h =
    let a = h 0 (omega arith) in
    let b = map_same d f g xs (λ i l. h (suc i) (omega arith)) in
    (cc)

pub map_inserted : (f : ℕ → Row) (ks : List ℕ) (i n : ℕ) → map f (insert ks i n) ≡ insert (map f ks) i (f n)
map_inserted f ks i n =
    map-append f (take i ks) (n ∷ drop i ks)
    ∙ ap (λ xs. xs ++ f n ∷ map f (drop i ks)) (sym (take-map f i ks))
    ∙ ap (λ xs. take i (map f ks) ++ f n ∷ xs) (sym (drop-map f i ks))

-- what holds of each of a list, and of what comes in, holds of each after it
pub each_set : (P : Slot → Type 0) (ss : List Slot) (i : ℕ) (s : Slot) → Each P ss → P s → Each P (set ss i s)
each_set P ss i s h p j l =
    let long = length-set ss i s in
    elim (cases_eq j i) [
      | inl e ↦ subst P (sym (ap (λ m. get_or (set ss i s) m no_slot) e ∙ get_or-set_same ss i s no_slot (omega arith))) p
      | inr e ↦ subst P (sym (get_or-set_other ss i j s no_slot e)) (h j (omega arith))
    ]

pub each_push : (P : Slot → Type 0) (ss : List Slot) (s : Slot) → Each P ss → P s → Each P (ss ++ s ∷ [])
each_push P ss s h p j l =
    let long = length-append ss (s ∷ []) in
    elim (cases_lt j (length ss)) [
      | inl b ↦ subst P (sym (get_or_append_left ss (s ∷ []) no_slot j b)) (h j b)
      | inr b ↦ (let e : length ss ≡ j = omega arith in subst P (sym (get_or_push ss s no_slot j e)) p)
    ]

pub inside_set : (ks : List ℕ) (i n m : ℕ) → Inside ks m → n < m → Inside (set ks i n) m
inside_set ks i n m h p j l =
    let long = length-set ks i n in
    elim (cases_eq j i) [
      | inl e ↦ (let x : get_or (set ks i n) j 0 ≡ n = ap (λ q. get_or (set ks i n) q 0) e ∙ get_or-set_same ks i n 0 (omega arith) in omega arith)
      | inr e ↦ (let x = get_or-set_other ks i j n 0 e in let y = h j (omega arith) in omega arith)
    ]

pub inside_inserted : (ks : List ℕ) (i n m : ℕ) → i ≤ length ks → Inside ks m → n < m → Inside (insert ks i n) m
inside_inserted ks i n m b h p j l =
    let long = length-insert ks i n b in
    elim (cases_order j i) [
      | inl e ↦ (let x : get_or (insert ks i n) j 0 ≡ n = ap (λ q. get_or (insert ks i n) q 0) e ∙ get_or-insert_at ks i n 0 b in omega arith)
      | inr o ↦ elim o [
        | inl e ↦ (let x = get_or-insert_below ks i n 0 j e b in let y = h j (omega arith) in omega arith)
        | inr e ↦ (
            let f : j ≡ j - 1 + 1 = omega arith in
            let x : get_or (insert ks i n) j 0 ≡ get_or ks (j - 1) 0 = ap (λ q. get_or (insert ks i n) q 0) f ∙ get_or-insert_above ks i n 0 (j - 1) (omega arith) b in
            let y = h (j - 1) (omega arith) in
            omega arith)
      ]
    ]

pub inside_more : (ks : List ℕ) (n m : ℕ) → n ≤ m → Inside ks n → Inside ks m
inside_more ks n m h w j l = let x = w j l in omega arith

pub lies_more : (n m : ℕ) (s : Slot) → n ≤ m → Lies n s → Lies m s
lies_more n m s h l = record { placed = omega (arith, l.placed); marked = l.marked; keyed = l.keyed; valued = l.valued }

-- a number came in where there was room for it
pub came_in : (ks ks' : List ℕ) (i n m : ℕ) (ok : Bool) → ks' ≡ cond ok (insert ks i n) ks → ok ≡ true → n ≡ m → ks' ≡ insert ks i m
came_in ks ks' i n m ok e t f = e ∙ cond-true ok (insert ks i n) ks t ∙ ap (insert ks i) f
