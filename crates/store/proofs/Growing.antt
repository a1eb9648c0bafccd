-- The files in a text that grows at its end.
use Rattle.std.proofs.Common.{◌≡◌, ℕ, ◌+◌, ◌≤◌, true, false, cond, eqb, List, ◌++◌, length, take, drop, Some, None, Option, sym, refl, ap, ◌∙◌, ⊎_elim, arith, length-drop}
use mathlib.Core.Path.{fun_ext}
use Rattle.std.specs.Option.{option_map}
use Rattle.std.proofs.lemmas.List.{drop-append-le, take-append-le, drop_at, take_all}
use Rattle.std.proofs.lemmas.Bool.{cases_Bool}
use Rattle.store.specs.declared.extent.Extent.{Extent}
use Rattle.store.specs.Meaning.{with_file}
use Rattle.store.specs.Index.{extent_of, bytes_in, files_in, Inside}

-- an extent inside a text has the same bytes after more were appended
old_bytes : (text more : List ℕ) (e : Extent) → e.start + e.len ≤ length text → bytes_in (text ++ more) e ≡ bytes_in text e
old_bytes text more e h =
    let a : e.start ≤ length text = omega arith in
    let b : e.len ≤ length (drop e.start text) = simp length-drop (omega arith) in
    rw (drop-append-le e.start text more a) (take-append-le e.len (drop e.start text) more b)

-- the extent of what was appended
new_bytes : (text more : List ℕ) (e : Extent) → e.start ≡ length text → e.len ≡ length more → bytes_in (text ++ more) e ≡ more
new_bytes text more e p q =
    ap (λ n. take n (drop e.start (text ++ more))) q ∙ ap (take (length more)) (drop_at text more e.start (sym p)) ∙ take_all (length more) more (omega arith)

module _ (es es' : List Extent) (e : Extent) (finds : (k : ℕ) → extent_of es' k ≡ cond (eqb k e.id) (Some e) (extent_of es k))
    (text text' more : List ℕ) (n : ℕ) (w : Inside es n) (all : n ≡ length text) (from : e.start ≡ n) (size : e.len ≡ length more) (grown : text' ≡ text ++ more) where
  file_grown : (k : ℕ) → files_in es' text' k ≡ with_file (files_in es text) e.id more k
  file_grown k =
      let Q : Option Extent → Type 0 = λ o. extent_of es k ≡ o → option_map (bytes_in (text ++ more)) o ≡ option_map (bytes_in text) o in
      let old : (o : Option Extent) → Q o = λ o. elim o as Q [ None ↦ λ _. refl | Some x ↦ λ h. (let b = w k x h in ap Some (old_bytes text more x (omega arith))) ] in
      ap (λ t. option_map (bytes_in t) (extent_of es' k)) grown ∙ ap (option_map (bytes_in (text ++ more))) (finds k)
      ∙ ⊎_elim
      (λ (a : eqb k e.id ≡ true). rw a (ap Some (new_bytes text more e (from ∙ all) size)))
      (λ (a : eqb k e.id ≡ false). rw a (old (extent_of es k) refl))
      (cases_Bool (eqb k e.id))

  pub files_grown : files_in es' text' ≡ with_file (files_in es text) e.id more
  files_grown = fun_ext file_grown
