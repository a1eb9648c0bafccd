-- A reader's step, from what is read of a line.
use Rattle.std.proofs.Common.{◌≡◌, ℕ, ◌+◌, ◌-◌, ◌^◌, ◌<◌, ◌≤◌, eqb, ◌==◌, cond, true, false, refl, List, [], ◌∷◌, ◌++◌, length, get_or, take, drop, decimal, sym, ap, ◌∙◌, subst, ⊎_elim, append_assoc, zero-add, arith, length-append, length-drop}
use Rattle.std.proofs.lemmas.Fmt.{decimal_nonempty}
use Rattle.std.proofs.lemmas.List.{take-append-drop, length-take, length-take-le, get_or_append_left}
use Rattle.std.proofs.lemmas.Bool.{ne_eqb, cond_both, cond-false}
use Rattle.std.proofs.str.Laws.{order}
use Rattle.std.specs.List.{filter}
use Rattle.rows.specs.declared.types.Damage.{Damage}
use Rattle.rows.specs.Rows.{Row, Valid, PartOf}
use Rattle.rows.specs.Lines.{line, letter, tick, WellFormed, Longest, ends}
use Rattle.rows.specs.Grammar.{Lang, FieldAt, DamageAt}
use Rattle.rows.specs.Fields.{values, Line}
use Rattle.rows.specs.Reading.{Handed, Reported}
use Rattle.rows.proofs.Lists.{take_plus, drop_on}
use Rattle.rows.proofs.Damages.{none_begins}
use Rattle.rows.proofs.DecimalLaws.{digit_of}
use Rattle.rows.proofs.LineLaws.{line_apart}
use Rattle.rows.proofs.TextLaws.{line_of, row_of_line, same_row, text_damage, line_bytes}

module _ (t : List ℕ) (p : ℕ) where
  parts : (q : ℕ) → p ≤ q → drop p t ≡ take (q - p) (drop p t) ++ drop q t
  parts q le = sym (take-append-drop (q - p) (drop p t)) ∙ ap (λ l. take (q - p) (drop p t) ++ l) (drop_on t p q le)

  pub handed : (q : ℕ) (r : Row) → FieldAt Line t p (values r) q → Handed t p q r
  handed q r f =
      let after = f.after in
      let a = row_of_line r _ f.field in
      let long : length (take (q - p) (drop p t)) ≡ q - p = length-take-le (q - p) (drop p t) (omega (arith, f.within, length-drop p t)) in
      record {
        valid = a.0;
        text = parts q f.after ∙ ap (λ l. l ++ drop q t) a.1;
        place = omega (arith, long, ap length a.1);
      }

  -- where a row's line stands, that row is read
  pub read_back : (q : ℕ) (r w : Row) (rest : List ℕ) → FieldAt Line t p (values r) q → Valid w → drop p t ≡ line w ++ rest → r ≡ w
  read_back q r w rest f v e = same_row r w (line_apart (values r) (values w) _ (line w) (drop q t) rest f.field (line_of w v) (sym (parts q f.after) ∙ e)).0

  pub back_damaged : (q : ℕ) (w : Row) (rest : List ℕ) → DamageAt (Lang Line) t p q → Valid w → drop p t ≡ line w ++ rest → ⊥
  back_damaged q w rest d v e = none_begins d.damage (line w) rest e (values w, line_of w v)

  pub back_end : (w : Row) (rest : List ℕ) → p ≡ length t → drop p t ≡ line w ++ rest → ⊥
  back_end w rest at e = omega (arith, at, line_bytes w, length-drop p t, simp length-append at (ap length e))

  pub reported : (q : ℕ) (d : Damage) → p < length t → DamageAt (Lang Line) t p q → d.place ≡ q → d.line ≡ ends (take q t) + 1 → Reported t p d
  reported q d lt bad at on rows h =
      let b = text_damage t p q rows lt h bad in
      record { bad = b.1; place = subst (Longest WellFormed t) (sym at) b.0; line = on ∙ ap (λ k. ends (take k t) + 1) (sym at) }

-- key and value stand in the text in which a row's line stands
abbrev to_key : Row → List ℕ
to_key r = decimal r.seq ++ (9 ∷ letter r.kind ∷ 9 ∷ (tick r.created ++ (9 ∷ (tick r.expires ++ (9 ∷ [])))))

pub key_in : (t : List ℕ) (p q : ℕ) (r : Row) → Handed t p q r → PartOf t r.key
key_in t p q r h =
    record {
      before = take p t ++ to_key r;
      behind = 9 ∷ (r.value ++ (10 ∷ drop q t));
      whole = sym (take-append-drop p t) ∙ ap (λ l. take p t ++ l) h.text ∙ simp append_assoc refl;
    }

pub value_in : (t : List ℕ) (p q : ℕ) (r : Row) → Handed t p q r → PartOf t r.value
value_in t p q r h =
    record {
      before = take p t ++ (to_key r ++ (r.key ++ (9 ∷ [])));
      behind = 10 ∷ drop q t;
      whole = sym (take-append-drop p t) ∙ ap (λ l. take p t ++ l) h.text ∙ simp append_assoc refl;
    }

-- line ends of a text
ends_le : (bs : List ℕ) → ends bs ≤ length bs
ends_le [] = omega arith
ends_le (b ∷ bs) = omega (arith, ends_le bs, cond_both (eqb b 10) 1 0 (λ x. x ≤ 1) (λ _. omega arith) (λ _. omega arith))

pub length-filter-ends : (bs : List ℕ) → length (filter (λ b. b == 10) bs) ≡ ends bs
length-filter-ends [] = refl
length-filter-ends (b ∷ bs) = elim (b == 10) as (λ v. length (cond v (b ∷ filter (λ x. x == 10) bs) (filter (λ x. x == 10) bs)) ≡ cond v 1 0 + ends bs) [ true ↦ omega (arith, length-filter-ends bs) | false ↦ omega (arith, length-filter-ends bs) ]

ends_append : (xs ys : List ℕ) → ends (xs ++ ys) ≡ ends xs + ends ys
ends_append [] ys = sym (zero-add (ends ys))
ends_append (x ∷ xs) ys = omega (arith, ends_append xs ys)

ends_less : (bs : List ℕ) → 0 < length bs → (get_or bs 0 0 ≡ 10 → ⊥) → ends bs < length bs
ends_less [] h first = absurd (omega arith)
ends_less (b ∷ bs) h first = omega (arith, ends_le bs, cond-false {A = ℕ} (eqb b 10) 1 0 (ne_eqb b 10 first))

-- a line begins with a digit
first_byte : (u s : List ℕ) → 0 < length u → Lang Line (u ++ s) → 48 ≤ get_or u 0 0
first_byte u s some (v, l) =
    let f = l.first in
    let below = f.below in
    let small : v.0 < 2 ^ 64 = omega arith in
    let long = decimal_nonempty v.0 small in
    let d = digit_of v.0 0 small long in
    let e = ap (λ x. get_or x 0 0) (l.whole ∙ ap (λ x. x ++ l.back) f.written ∙ append_assoc (decimal v.0) (9 ∷ []) l.back) in
    omega (arith, d.0, e, get_or_append_left u s 0 0 some, get_or_append_left (decimal v.0) (9 ∷ l.back) 0 0 long)

-- so that the number of a damaged line fits
pub few_ends : (t : List ℕ) (p q : ℕ) → p < length t → DamageAt (Lang Line) t p q → ends (take q t) < length t
few_ends t p q lt d =
    let after = d.after in
    let s : p + (q - p) ≡ q = omega arith in
    let u = take (q - p) (drop p t) in
    let e : ends (take q t) ≡ ends (take p t) + ends u = ap (λ k. ends (take k t)) (sym s) ∙ ap ends (take_plus p (q - p) t) ∙ ends_append (take p t) u in
    let before : ends (take p t) ≤ p = omega (arith, ends_le (take p t), length-take p t) in
    let long : length (take (q - p) (drop p t)) ≡ q - p = length-take-le (q - p) (drop p t) (omega (arith, d.within, length-drop p t)) in
    ⊎_elim
    (λ more.
    let v = d.damage.longest.shared in
    let some : 0 < length (take (q - p) (drop p t)) = omega arith in
    let first = first_byte u v.0 some v.1 in
    omega (arith, e, d.within, ends_less u some (λ ten. omega (arith, first, ten))))
    (λ same. omega (arith, e, ends_le u))
    (order p q)
