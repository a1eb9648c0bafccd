-- One more extent at its place in an ordered index.
use Rattle.std.proofs.Common.{◌≡◌, ℕ, true, false, cond, eqb, List, [], ◌∷◌, ◌++◌, take, drop, Some, None, sym, refl, ap, ◌∙◌, ⊎_elim, arith}
use Rattle.std.specs.List.{insert}
use Rattle.std.proofs.lemmas.List.{take-append-drop}
use Rattle.std.proofs.lemmas.Bool.{cases_Bool, eqb-true, eqb-false, ne_eqb, cond-true, cond-false}
use Rattle.store.specs.declared.extent.Extent.{Extent}
use Rattle.store.specs.Index.{extent_of}

-- the extents of an index with one more between its parts, of an id that had none
between : (xs ys : List Extent) (e : Extent) → extent_of (xs ++ ys) e.id ≡ None → (k : ℕ) → extent_of (xs ++ e ∷ ys) k ≡ cond (eqb k e.id) (Some e) (extent_of (xs ++ ys) k)
between [] ys e f k = refl
between (x ∷ xs) ys e f k =
    ⊎_elim
    (λ (t : eqb e.id x.id ≡ true). let g = sym (cond-true _ (Some x) (extent_of (xs ++ ys) e.id) t) ∙ f in grind arith)
    (λ (t : eqb e.id x.id ≡ false).
    let g = sym (cond-false _ (Some x) (extent_of (xs ++ ys) e.id) t) ∙ f in
    let later = between xs ys e g k in
    ⊎_elim
    (λ (a : eqb k x.id ≡ true).
    let apart : eqb k e.id ≡ false = ne_eqb k e.id (λ h. eqb-false e.id x.id t (sym h ∙ eqb-true k x.id a)) in
    rw (a, apart))
    (λ (a : eqb k x.id ≡ false). rw a later)
    (cases_Bool (eqb k x.id)))
    (cases_Bool (eqb e.id x.id))

pub extents_inserted : (es es' : List Extent) (e : Extent) (n : ℕ) → es' ≡ insert es n e → extent_of es e.id ≡ None → (k : ℕ) → extent_of es' k ≡ cond (eqb k e.id) (Some e) (extent_of es k)
extents_inserted es es' e n q f k =
    let whole = take-append-drop n es in
    ap (λ xs. extent_of xs k) q
    ∙ between (take n es) (drop n es) e (ap (λ xs. extent_of xs e.id) whole ∙ f) k
    ∙ ap (λ xs. cond (eqb k e.id) (Some e) (extent_of xs k)) whole
