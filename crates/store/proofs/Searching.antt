-- What stands at a place of an ordered index, and what that says of the places around it.
use Rattle.std.proofs.Common.{◌≡◌, ℕ, zero, suc, ◌+◌, ◌<◌, ◌≤◌, List, [], ◌∷◌, length, get_or, Some, None, sym, refl, ap, ◌∙◌, ⊎_elim, arith}
use Rattle.std.proofs.lemmas.List.{get_or_default}
use Rattle.std.proofs.lemmas.Bool.{cases_lt, eq-eqb, ne_eqb, cond-true, cond-false}
use Rattle.store.specs.declared.extent.Extent.{Extent}
use Rattle.store.specs.Index.{extent_of, none, Ascending, Parted, Present, Absent}

abbrev pub id_of : Extent → ℕ
id_of e = e.id

-- an id that stands at no place has no extent
unlisted : (es : List Extent) (id : ℕ) → ((k : ℕ) (d : Extent) → k < length es → (get_or es k d).id ≡ id → ⊥) → extent_of es id ≡ None
unlisted [] id h = refl
unlisted (x ∷ xs) id h =
    cond-false _ (Some x) (extent_of xs id) (ne_eqb id x.id (λ e. h 0 x (omega arith) (sym e)))
    ∙ unlisted xs id (λ k d l. h (suc k) d (omega arith))

-- an id that stands at a place, and at none before it, has the extent there
listed : (es : List Extent) (id n : ℕ) (d : Extent) → n < length es → ((k : ℕ) → k < n → (get_or es k d).id ≡ id → ⊥) → (get_or es n d).id ≡ id → extent_of es id ≡ Some (get_or es n d)
listed [] id n d l h e = absurd (omega arith)
listed (x ∷ xs) id zero d l h e = cond-true _ (Some x) (extent_of xs id) (eq-eqb id x.id (sym e))
listed (x ∷ xs) id (suc n) d l h e =
    cond-false _ (Some x) (extent_of xs id) (ne_eqb id x.id (λ q. h 0 (omega arith) (sym q)))
    ∙ listed xs id n d (omega arith) (λ k b. h (suc k) (omega arith)) e

-- the order of an index, whatever stands for a place past its end
pub ascends : (es : List Extent) → Ascending es → (i j : ℕ) (d : Extent) → i < j → j < length es → (get_or es i d).id < (get_or es j d).id
ascends es up i j d b l =
    let p : (get_or es i d).id ≡ (get_or es i none).id = ap id_of (get_or_default es i d none (omega arith)) in
    let q : (get_or es j d).id ≡ (get_or es j none).id = ap id_of (get_or_default es j d none l) in
    omega (arith, up i j b l)

module _ (es : List Extent) (up : Ascending es) (id n : ℕ) (o : Extent) (l : n < length es) where
  same : (d : Extent) → (get_or es n d).id ≡ (get_or es n o).id
  same d = ap id_of (get_or_default es n d o l)

  pub present : (get_or es n o).id ≡ id → Present es id n
  present e =
      let s : (get_or es n none).id ≡ id = same none ∙ e in
      record { bound = l; here = listed es id n none l (λ k b q. (let r = ascends es up k n none b l in omega arith)) s }

  pub smaller_so_far : (get_or es n o).id < id → (k : ℕ) (d : Extent) → k < n + 1 → (get_or es k d).id < id
  smaller_so_far h k d b =
      let s = same d in
      ⊎_elim
      (λ (a : k < n). (let r = ascends es up k n d a l in omega arith))
      (λ (a : n ≤ k). (let q : k ≡ n = omega arith in rw q (omega arith)))
      (cases_lt k n)

  pub greater_from_here : id < (get_or es n o).id → (k : ℕ) (d : Extent) → n ≤ k → k < length es → id < (get_or es k d).id
  greater_from_here h k d b m =
      let s = same d in
      ⊎_elim
      (λ (a : n < k). (let r = ascends es up n k d a m in omega arith))
      (λ (a : k ≤ n). (let q : k ≡ n = omega arith in rw q (omega arith)))
      (cases_lt n k)

pub absent : (es : List Extent) (id n : ℕ) → Parted es id n → Absent es id n
absent es id n p =
    let apart : (k : ℕ) (d : Extent) → k < length es → (get_or es k d).id ≡ id → ⊥ = λ k d l e.
    ⊎_elim (λ (a : k < n). (let r = p.smaller k d a in omega arith)) (λ (a : n ≤ k). (let r = p.greater k d a l in omega arith)) (cases_lt k n) in
    record { parted = p; nowhere = unlisted es id apart }
