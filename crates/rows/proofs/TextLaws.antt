-- Texts of rows: lines one behind the other, and the damage of a text.
use Rattle.std.proofs.Common.{◌≡◌, ℕ, ◌+◌, ◌-◌, ◌<◌, List, [], ◌∷◌, ◌++◌, map, length, take, decimal, sym, refl, ap, ◌∙◌, subst, append_assoc, append-nil, arith, length-append}
use Rattle.std.specs.List.{flat_map, AllByRecursion}
use Rattle.std.proofs.lemmas.Grind.{flat_map-append}
use Rattle.rows.specs.Rows.{Row, Valid}
use Rattle.rows.specs.Lines.{letter, tick, line, TextOf, WellFormed, Longest}
use Rattle.rows.specs.Grammar.{Lang, Many, DamageAt}
use Rattle.rows.specs.Fields.{Values, values, Line}
use Rattle.rows.proofs.Chains.{in_many}
use Rattle.rows.proofs.LineLaws.{line_apart}

-- the line of a valid row is one of the grammar's
pub line_of : (r : Row) → Valid r → Line (values r) (line r)
line_of r v =
    record {
      fore = decimal r.seq ++ (9 ∷ []);
      back = _;
      first = record { above = omega arith; below = omega (arith, v.number); written = refl };
      second = record {
        fore = letter r.kind ∷ 9 ∷ [];
        back = _;
        first = refl;
        second = record {
          fore = tick r.created ++ (9 ∷ []);
          back = _;
          first = record { range = v.created; written = refl };
          second = record {
            fore = tick r.expires ++ (9 ∷ []);
            back = _;
            first = record { range = v.expires; written = refl };
            second = record {
              fore = r.key ++ (9 ∷ []);
              back = r.value ++ (10 ∷ []);
              first = record { hex = v.key; written = refl };
              second = record { hex = v.value; written = refl };
              whole = sym (append_assoc r.key (9 ∷ []) _);
            };
            whole = sym (append_assoc (tick r.expires) (9 ∷ []) _);
          };
          whole = sym (append_assoc (tick r.created) (9 ∷ []) _);
        };
        whole = refl;
      };
      whole = sym (append_assoc (decimal r.seq) (9 ∷ []) _);
    }

pub row_of_line : (r : Row) (w : List ℕ) → Line (values r) w → Valid r × (w ≡ line r)
row_of_line r w l =
    let kind = l.second in
    let created = kind.second in
    let expires = created.second in
    let key = expires.second in
    let tail₁ : key.fore ++ key.back ≡ r.key ++ (9 ∷ (r.value ++ (10 ∷ []))) = (λ i. key.first.written i ++ key.second.written i) ∙ append_assoc r.key (9 ∷ []) _ in
    let tail₂ : expires.fore ++ expires.back ≡ tick r.expires ++ (9 ∷ _) = (λ i. expires.first.written i ++ (key.whole ∙ tail₁) i) ∙ append_assoc (tick r.expires) (9 ∷ []) _ in
    let tail₃ : created.fore ++ created.back ≡ tick r.created ++ (9 ∷ _) = (λ i. created.first.written i ++ (expires.whole ∙ tail₂) i) ∙ append_assoc (tick r.created) (9 ∷ []) _ in
    let tail₄ : kind.fore ++ kind.back ≡ letter r.kind ∷ 9 ∷ _ = (λ i. kind.first i ++ (created.whole ∙ tail₃) i) in (
      record { number = omega (arith, l.first.below); created = created.first.range; expires = expires.first.range; key = key.first.hex; value = key.second.hex },
      l.whole ∙ (λ i. l.first.written i ++ (kind.whole ∙ tail₄) i) ∙ append_assoc (decimal r.seq) (9 ∷ []) _,
    )

abbrev row_from : Values → Row
row_from v = record { seq = v.0; kind = v.1.0; created = v.1.1.0; expires = v.1.1.1.0; key = v.1.1.1.1.0; value = v.1.1.1.1.1 }

pub same_row : (r s : Row) → values r ≡ values s → r ≡ s
same_row r s e = ap row_from e

many_of : (rows : List Row) → AllByRecursion Valid rows → Many Line (map values rows) (flat_map line rows)
many_of [] v = refl
many_of (r ∷ rows) v = (line r, flat_map line rows, line_of r v.0, many_of rows v.1, refl)

rows_of : (vs : List Values) (t : List ℕ) → Many Line vs t → WellFormed t
rows_of [] t e = ([], record { valid = tt; text = e })
rows_of (v ∷ vs) t (x, y, l, more, e) =
    let a = row_of_line (row_from v) x l in
    let b = rows_of vs y more in
    (row_from v ∷ b.0, record { valid = (a.0, b.1.valid); text = e ∙ (λ i. a.1 i ++ b.1.text i) })

to_many : (t : List ℕ) → WellFormed t → Lang (Many Line) t
to_many t w = (map values w.0, subst (Many Line (map values w.0)) (sym w.1.text) (many_of w.0 w.1.valid))

from_many : (t : List ℕ) → Lang (Many Line) t → WellFormed t
from_many t m = rows_of m.0 t m.1

-- damage in a line, behind lines that stand whole
pub text_damage : (t : List ℕ) (p q : ℕ) (rows : List Row) → p < length t → TextOf rows (take p t) → DamageAt (Lang Line) t p q → Longest WellFormed t q × (WellFormed t → ⊥)
text_damage t p q rows lt h d =
    let after = d.after in
    let s : p + (q - p) ≡ q = omega arith in
    let many = subst (Many Line (map values rows)) (sym h.text) (many_of rows h.valid) in
    let b = in_many Line line_apart (map values rows) t p (q - p) lt many d.damage in (
      subst (Longest WellFormed t) s (record {
        within = b.0.within;
        shared = (b.0.shared.0, from_many _ b.0.shared.1);
        stops = λ less v. b.0.stops less (v.0, to_many _ v.1);
      }),
      (λ w. b.1 (to_many t w)),
    )

-- texts one behind the other
every_append : (xs ys : List Row) → AllByRecursion Valid xs → AllByRecursion Valid ys → AllByRecursion Valid (xs ++ ys)
every_append [] ys a b = b
every_append (x ∷ xs) ys a b = (a.0, every_append xs ys a.1 b)

pub text_append : (xs ys : List Row) (s t : List ℕ) → TextOf xs s → TextOf ys t → TextOf (xs ++ ys) (s ++ t)
text_append xs ys s t a b = record { valid = every_append xs ys a.valid b.valid; text = (λ i. a.text i ++ b.text i) ∙ sym (flat_map-append line xs ys) }

pub text_one : (r : Row) → Valid r → TextOf (r ∷ []) (line r)
text_one r v = record { valid = (v, tt); text = sym (append-nil (line r)) }

pub line_bytes : (r : Row) → 0 < length (line r)
line_bytes r = simp length-append (omega arith)
