-- The kind field: a letter and a tab.
use Rattle.std.proofs.Common.{◌≡◌, ℕ, ◌<◌, List, [], ◌∷◌, ◌++◌, length, get_or, take, sym, refl, ap, ◌∙◌, arith}
use Rattle.std.proofs.lemmas.List.{length-take, take_more}
use Rattle.rows.specs.declared.types.Kind.{Kind}
use Rattle.rows.specs.declared.types.Kind.TheVariants.{Value, Merge, Tombstone}
use Rattle.rows.specs.Lines.{letter}
use Rattle.rows.specs.Grammar.{Lang, Damaged}
use Rattle.rows.specs.Fields.{KindField}
use Rattle.rows.proofs.Damages.{damaged}
use Rattle.rows.proofs.Chains.{Apart}

-- no letter of a kind stands first
pub first_bad : (t : List ℕ) → (0 < length t → (k : Kind) → get_or t 0 0 ≡ letter k → ⊥) → Damaged (Lang KindField) t 0
first_bad t h =
    damaged (Lang KindField) t 0 (omega arith) (86 ∷ 9 ∷ [], (Value, refl))
    (λ lt v.
    let e = v.1.1 in
    let f : get_or t 0 0 ∷ v.0 ≡ letter v.1.0 ∷ 9 ∷ [] = ap (λ l. l ++ v.0) (sym (take_more t 0 0 lt)) ∙ e in
    h lt v.1.0 (cc))
    (λ m l. omega (arith, length-take m (take 0 t), length-take 0 t, ap length l.1))

-- the letter stands first, and no tab behind it
pub second_bad : (t : List ℕ) (k : Kind) → 0 < length t → get_or t 0 0 ≡ letter k → (1 < length t → get_or t 1 0 ≡ 9 → ⊥) → Damaged (Lang KindField) t 1
second_bad t k some first h =
    let one : take 1 t ≡ get_or t 0 0 ∷ [] = take_more t 0 0 some in
    damaged (Lang KindField) t 1 (omega arith) (9 ∷ [], (k, ap (λ l. l ++ (9 ∷ [])) one ∙ ap (λ b. b ∷ 9 ∷ []) first))
    (λ lt v.
    let e = v.1.1 in
    let two : take 2 t ≡ get_or t 0 0 ∷ get_or t 1 0 ∷ [] = take_more t 1 0 lt ∙ ap (λ l. l ++ (get_or t 1 0 ∷ [])) one in
    let f : get_or t 0 0 ∷ get_or t 1 0 ∷ v.0 ≡ letter v.1.0 ∷ 9 ∷ [] = ap (λ l. l ++ v.0) (sym two) ∙ e in
    h lt (cc))
    (λ m l. omega (arith, length-take m (take 1 t), length-take 1 t, ap length l.1))

letter_same : (a b : Kind) → letter a ≡ letter b → a ≡ b
letter_same Value Value e = refl
letter_same Value Merge e = absurd (omega arith)
letter_same Value Tombstone e = absurd (omega arith)
letter_same Merge Value e = absurd (omega arith)
letter_same Merge Merge e = refl
letter_same Merge Tombstone e = absurd (omega arith)
letter_same Tombstone Value e = absurd (omega arith)
letter_same Tombstone Merge e = absurd (omega arith)
letter_same Tombstone Tombstone e = refl

pub kind_apart : Apart KindField
kind_apart a b x y s t f g e =
    let u : letter a ∷ 9 ∷ s ≡ letter b ∷ 9 ∷ t = ap (λ l. l ++ s) (sym f) ∙ e ∙ ap (λ l. l ++ t) g in
    let v : letter a ≡ letter b = cc in
    (letter_same a b v, f ∙ ap (λ n. n ∷ 9 ∷ []) v ∙ sym g)
