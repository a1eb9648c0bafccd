-- Rows put one behind the other into an empty table: those that stand are the table's.
use Rattle.std.proofs.Common.{◌≡◌, ℕ, true, false, cond, ◌&&◌, ltb, leb, List, [], ◌∷◌, length, is_some, Some, None, Option, sym, refl, ap, ◌∙◌, subst, inl, inr}
use Rattle.std.proofs.lemmas.Bool.{cases_Bool, cond-true, cond-false}
use Rattle.rows.specs.Rows.{Row}
use Rattle.rows.specs.Sizes.{size, total, compacted_size}
use Rattle.mem_table.specs.Order.{has}
use Rattle.mem_table.specs.Meaning.{Held, Meaning, Listed, lookup, with_row, added, all_added}
use Rattle.mem_table.proofs.Keys.{has_true}
use Rattle.mem_table.proofs.Counting.{Unique, found_first, found_past, agree, unique_from}
use Rattle.wal_init.proofs.Standing.{none_where_not}
use Rattle.wal_replay.specs.Rows.{standing, reaches, ripe}

stands_not : (r : Row) (rs : List Row) → is_some (lookup rs r.key r.seq) ≡ true → standing (r ∷ rs) ≡ standing rs
stands_not r rs e = cond-true _ (standing rs) (r ∷ standing rs) e

stands : (r : Row) (rs : List Row) → is_some (lookup rs r.key r.seq) ≡ false → standing (r ∷ rs) ≡ r ∷ standing rs
stands r rs e = cond-false _ (standing rs) (r ∷ standing rs) e

-- what was not put does not stand
not_there : (rs : List Row) (k : List ℕ) (n : ℕ) → lookup rs k n ≡ None → lookup (standing rs) k n ≡ None
not_there [] k n e = refl
not_there (r ∷ rs) k n e =
    elim (cases_Bool (has r k n)) [
      | inl t ↦ (let z : Some r ≡ None = sym (found_first r rs k n t) ∙ e in cc)
      | inr t ↦ (
          let rest = not_there rs k n (sym (found_past r rs k n t) ∙ e) in
          elim (cases_Bool (is_some (lookup rs r.key r.seq))) [
            | inl u ↦ ap (λ xs. lookup xs k n) (stands_not r rs u) ∙ rest
            | inr u ↦ ap (λ xs. lookup xs k n) (stands r rs u) ∙ found_past r (standing rs) k n t ∙ rest
          ])
    ]

-- no two rows that stand have the same key and number
unique : (rs : List Row) → Unique (standing rs)
unique [] = tt
unique (r ∷ rs) =
    elim (cases_Bool (is_some (lookup rs r.key r.seq))) [
      | inl u ↦ subst Unique (sym (stands_not r rs u)) (unique rs)
      | inr u ↦ subst Unique (sym (stands r rs u)) (not_there rs r.key r.seq (none_where_not _ u), unique rs)
    ]

-- what a table holds after the puts
holds : (h : Held) (rs : List Row) (k : List ℕ) (n : ℕ) → (all_added h rs).rows k n ≡ cond (is_some (lookup rs k n)) (lookup (standing rs) k n) (h.rows k n)
holds h [] k n = refl
holds h (r ∷ rs) k n =
    let ih = holds (added h r) rs k n in
    elim (cases_Bool (has r k n)) [
      | inl t ↦ (
          let p = has_true r k n t in
          let own : lookup rs r.key r.seq ≡ lookup rs k n = ap (λ l. lookup rs l r.seq) p.0 ∙ ap (lookup rs k) p.1 in
          let some : is_some (lookup (r ∷ rs) k n) ≡ true = ap is_some (found_first r rs k n t) in
          elim (cases_Bool (is_some (lookup rs k n))) [
            | inl u ↦ ih ∙ cond-true _ (lookup (standing rs) k n) (with_row h.rows r k n) u ∙ ap (λ xs. lookup xs k n) (sym (stands_not r rs (ap is_some own ∙ u))) ∙ sym (cond-true _ (lookup (standing (r ∷ rs)) k n) (h.rows k n) some)
            | inr u ↦ ih ∙ cond-false _ (lookup (standing rs) k n) (with_row h.rows r k n) u ∙ cond-true (has r k n) (Some r) (h.rows k n) t
                ∙ sym (found_first r (standing rs) k n t) ∙ ap (λ xs. lookup xs k n) (sym (stands r rs (ap is_some own ∙ u))) ∙ sym (cond-true _ (lookup (standing (r ∷ rs)) k n) (h.rows k n) some)
          ])
      | inr t ↦ (
          let past : lookup (standing (r ∷ rs)) k n ≡ lookup (standing rs) k n = elim (cases_Bool (is_some (lookup rs r.key r.seq))) [
            | inl v ↦ ap (λ xs. lookup xs k n) (stands_not r rs v)
            | inr v ↦ ap (λ xs. lookup xs k n) (stands r rs v) ∙ found_past r (standing rs) k n t
          ] in
          let same : is_some (lookup (r ∷ rs) k n) ≡ is_some (lookup rs k n) = ap is_some (found_past r rs k n t) in
          let old : with_row h.rows r k n ≡ h.rows k n = cond-false (has r k n) (Some r) (h.rows k n) t in
          ih ∙ ap (cond (is_some (lookup rs k n)) (lookup (standing rs) k n)) old
          ∙ ap (λ x. cond (is_some (lookup rs k n)) x (h.rows k n)) (sym past)
          ∙ ap (λ c. cond c (lookup (standing (r ∷ rs)) k n) (h.rows k n)) (sym same))
    ]

module _ (t t' : Meaning) (rs : List Row) (l : Listed t) (l' : Listed t') (empty : t.order ≡ []) (put : t'.held ≡ all_added t.held rs) where
  same_rows : (k : List ℕ) (n : ℕ) → lookup t'.order k n ≡ lookup (standing rs) k n
  same_rows k n =
      let none : t.held.rows k n ≡ None = ap (λ (f : List ℕ → ℕ → Option Row). f k n) l.rows ∙ ap (λ o. lookup o k n) empty in
      ap (λ (f : List ℕ → ℕ → Option Row). f k n) (sym l'.rows) ∙ ap (λ (h : Held). h.rows k n) put ∙ holds t.held rs k n
      ∙ elim (cases_Bool (is_some (lookup rs k n))) [
        | inl u ↦ cond-true _ (lookup (standing rs) k n) (t.held.rows k n) u
        | inr u ↦ cond-false _ (lookup (standing rs) k n) (t.held.rows k n) u ∙ none ∙ sym (not_there rs k n (none_where_not _ u))
      ]

  -- the table has come to a size where the rows that stand have
  pub weighs : (limit block : ℕ) → reaches limit block t'.order ≡ ripe limit block rs
  weighs limit block =
      let a = agree size t'.order (standing rs) (unique_from t'.order l'.once) (unique rs) same_rows in
      ap (λ n. ltb 0 n && leb limit (compacted_size n (total size t'.order) block)) a.0
      ∙ ap (λ s. ltb 0 (length (standing rs)) && leb limit (compacted_size (length (standing rs)) s block)) a.1
