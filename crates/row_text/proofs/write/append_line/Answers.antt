use Rattle.std.proofs.Common.{◌≡◌, ℕ, List, [], ◌∷◌, ◌++◌, refl, ap, ◌∙◌, append_assoc}
use Rattle.rows.specs.Lines.{letter}
use Rattle.row_text.proofs.write.append_line.Goals as goal

-- what is appended twice is appended together
also : (o p q a b : List ℕ) → a ≡ o ++ p → b ≡ a ++ q → b ≡ o ++ (p ++ q)
also o p q a b e f = f ∙ ap (λ l. l ++ q) e ∙ append_assoc o p q

parts : (n created expires key value : List ℕ) (kind : ℕ) → ((((((n ++ (9 ∷ kind ∷ 9 ∷ [])) ++ (created ++ (9 ∷ []))) ++ (expires ++ (9 ∷ []))) ++ key) ++ (9 ∷ [])) ++ value) ++ (10 ∷ []) ≡ n ++ (9 ∷ kind ∷ 9 ∷ (created ++ (9 ∷ (expires ++ (9 ∷ (key ++ (9 ∷ (value ++ (10 ∷ [])))))))))
parts n created expires key value kind = simp append_assoc refl

-- the parts of a line, with what they are
whole : (o x n n' created expires key value value' : List ℕ) (kind kind' : ℕ) → n ≡ n' → kind ≡ kind' → value ≡ value' → x ≡ o ++ (((((((n ++ (9 ∷ kind ∷ 9 ∷ [])) ++ (created ++ (9 ∷ []))) ++ (expires ++ (9 ∷ []))) ++ key) ++ (9 ∷ [])) ++ value) ++ (10 ∷ [])) → x ≡ o ++ (n' ++ (9 ∷ kind' ∷ 9 ∷ (created ++ (9 ∷ (expires ++ (9 ∷ (key ++ (9 ∷ (value' ++ (10 ∷ []))))))))))
whole o x n n' created expires key value value' kind kind' e f g h =
    h ∙ ap (λ l. o ++ l) (parts n created expires key value kind) ∙ (λ i. o ++ (e i ++ (9 ∷ f i ∷ 9 ∷ (created ++ (9 ∷ (expires ++ (9 ∷ (key ++ (9 ∷ (g i ++ (10 ∷ [])))))))))))

pub returns : goal.returns
returns c =
    whole c.args.out.now.items _ _ _ _ _ _ _ _ _ _ (c.as_bytes.ensures.value ∙ c.format.ensures.text) (c.into.ensures ∙ ap letter c.kind.ensures) c.digits-digits.ensures
    (also _ _ _ _ _ (also _ _ _ _ _ (also _ _ _ _ _ (also _ _ _ _ _ (also _ _ _ _ _ (also _ _ _ _ _ (also _ _ _ _ _
    c.in_ok-extend_from_slice.ensures.items
    c.in_ok-extend_from_slice-2.ensures.items)
    c.in_ok-append_tick.ensures)
    c.in_ok-append_tick-2.ensures)
    c.in_ok-extend_from_slice-3.ensures.items)
    c.in_ok-extend_from_slice-4.ensures.items)
    c.in_ok-extend_from_slice-5.ensures.items)
    c.in_ok-extend_from_slice-6.ensures.items)
