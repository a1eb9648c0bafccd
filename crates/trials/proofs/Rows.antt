-- Why the examples hold.
use Rattle.std.proofs.Common.{◌≡◌, ℕ, zero, suc, ◌<◌, true, [], ◌∷◌, ◌++◌, get_or, None, decimal, sym, refl, ap, ◌∙◌, arith}
use Rattle.std.proofs.lemmas.Fmt.{decimal_digit, decimal_step}
use Rattle.rows.specs.declared.types.Kind.TheVariants.{Tombstone}
use Rattle.rows.specs.Rows.{hex_digit}
use Rattle.rows.specs.Grammar.{Lang, FieldAt, DamageAt}
use Rattle.rows.specs.Fields.{NumberField, KindField, TickField, KeyField, ValueField}
use Rattle.rows.proofs.HexLaws.{stuck}
use Rattle.rows.proofs.LineLaws.{bad_value}
use Rattle.rows.proofs.TextLaws.{text_damage}
use Rattle.trials.specs.Rows.{RowsAndSizes, DamagedLine, text_8}

two : (a b i : ℕ) → hex_digit a ≡ true → hex_digit b ≡ true → i < 2 → hex_digit (get_or (a ∷ b ∷ []) i 0) ≡ true
two a b zero p q lt = p
two a b (suc zero) p q lt = q
two a b (suc (suc i)) p q lt = absurd (omega arith)

four : (a b c d i : ℕ) → hex_digit a ≡ true → hex_digit b ≡ true → hex_digit c ≡ true → hex_digit d ≡ true → i < 4 → hex_digit (get_or (a ∷ b ∷ c ∷ d ∷ []) i 0) ≡ true
four a b c d zero p q r s lt = p
four a b c d (suc zero) p q r s lt = q
four a b c d (suc (suc i)) p q r s lt = two c d i r s (omega arith)

hundred : decimal 100 ≡ 49 ∷ 48 ∷ 48 ∷ []
hundred = decimal_step 100 (omega arith) (omega arith) ∙ ap (λ l. l ++ (48 ∷ [])) (decimal_step 10 (omega arith) (omega arith) ∙ ap (λ l. l ++ (48 ∷ [])) (decimal_digit 1 (omega arith)))

pub sizes : RowsAndSizes
sizes = (
  record { number = omega arith; created = refl; expires = refl; key = (refl, omega arith, λ i lt. four 54 49 51 49 i refl refl refl refl lt); value = (refl, omega arith, λ i lt. four 48 48 102 102 i refl refl refl refl lt) },
  (λ j. decimal_digit 7 (omega arith) j ++ (9 ∷ 86 ∷ 9 ∷ (hundred j ++ (9 ∷ 45 ∷ 9 ∷ 54 ∷ 49 ∷ 51 ∷ 49 ∷ 9 ∷ 48 ∷ 48 ∷ 102 ∷ 102 ∷ 10 ∷ [])))),
  refl,
  refl,
  refl,
)

number : FieldAt NumberField text_8 0 8 2
number = record { after = omega arith; within = omega arith; field = record { above = omega arith; below = omega arith; written = ap (λ l. l ++ (9 ∷ [])) (sym (decimal_digit 8 (omega arith))) } }

kind : FieldAt KindField text_8 2 Tombstone 4
kind = record { after = omega arith; within = omega arith; field = refl }

created : FieldAt TickField text_8 4 None 6
created = record { after = omega arith; within = omega arith; field = record { range = refl; written = refl } }

expires : FieldAt TickField text_8 6 None 8
expires = record { after = omega arith; within = omega arith; field = record { range = refl; written = refl } }

key : FieldAt KeyField text_8 8 (54 ∷ 49 ∷ []) 11
key = record { after = omega arith; within = omega arith; field = record { hex = (refl, omega arith, λ i lt. two 54 49 i refl refl lt); written = refl } }

value : DamageAt (Lang (ValueField Tombstone)) text_8 11 11
value =
    record {
      after = omega arith;
      within = omega arith;
      damage = stuck 0 10 refl (omega arith) (48 ∷ 48 ∷ 10 ∷ []) 0 (record { short = omega arith; digits = λ i lt. absurd (omega arith) }) (omega arith) (λ lt e pairs. omega (arith, e)) (λ lt d less. omega arith);
    }

pub damage : DamagedLine
damage =
    let d = bad_value text_8 0 11 8 2 number Tombstone 4 kind None 6 created None 8 expires (54 ∷ 49 ∷ []) 11 key value in
    let b = text_damage text_8 0 11 [] (omega arith) (record { valid = tt; text = refl }) d in
    record { bad = b.1; place = b.0; line = refl }
