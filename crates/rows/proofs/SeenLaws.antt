-- Rows that were read from a place on.
use Rattle.std.proofs.Common.{◌≡◌, ℕ, ◌+◌, ◌-◌, ◌*◌, ◌≤◌, List, [], ◌∷◌, ◌++◌, length, take, drop, ℤ, Some, None, Option, sym, refl, ap, ◌∙◌, subst, zero-add, arith, length-append, length-drop}
use Rattle.std.proofs.lemmas.List.{take_at, take_all}
use Rattle.rows.specs.Rows.{Row}
use Rattle.rows.specs.Lines.{line, TextOf}
use Rattle.rows.specs.Sizes.{total, weight, size, tick_size}
use Rattle.rows.specs.Reading.{Handed}
use Rattle.rows.proofs.Lists.{take_plus, drop_on}
use Rattle.rows.proofs.TextLaws.{text_append, text_one}

total_append : (f : Row → ℕ) (xs ys : List Row) → total f (xs ++ ys) ≡ total f xs + total f ys
total_append f [] ys = sym (zero-add (total f ys))
total_append f (x ∷ xs) ys = omega (arith, total_append f xs ys)

-- the n rows that stand in t from s up to p, and what f gives for them in all
pub record Seen (f : Row → ℕ) (t : List ℕ) (s p n b : ℕ) : Type 0 where
  pub from : s ≤ p
  pub within : p ≤ length t
  pub rows : List Row
  pub text : TextOf rows (take (p - s) (drop s t))
  pub count : n ≡ length rows
  pub sum : b ≡ total f rows

pub seen_none : (f : Row → ℕ) (t : List ℕ) (s : ℕ) → s ≤ length t → Seen f t s s 0 0
seen_none f t s le =
    let z : 0 ≡ s - s = omega arith in
    record { from = omega arith; within = le; rows = []; text = record { valid = tt; text = ap (λ k. take k (drop s t)) (sym z) }; count = refl; sum = refl }

line_is : (t : List ℕ) (p q : ℕ) (r : Row) → Handed t p q r → q ≤ length t → take (q - p) (drop p t) ≡ line r
line_is t p q r h le =
    let at = h.place in
    ap (take (q - p)) h.text ∙ take_at (line r) (drop q t) (q - p) (omega arith)

pub seen_more : (f : Row → ℕ) (t : List ℕ) (s p n b q : ℕ) (r : Row) → Seen f t s p n b → Handed t p q r → q ≤ length t → Seen f t s q (n + 1) (b + f r)
seen_more f t s p n b q r g h le =
    let from = g.from in
    let at = h.place in
    let k : (p - s) + (q - p) ≡ q - s = omega arith in
    let w : take (q - s) (drop s t) ≡ take (p - s) (drop s t) ++ line r =
    ap (λ m. take m (drop s t)) (sym k) ∙ take_plus (p - s) (q - p) (drop s t) ∙ ap (λ l. take (p - s) (drop s t) ++ l) (ap (take (q - p)) (drop_on t s p g.from) ∙ line_is t p q r h le) in
    record {
      from = omega arith;
      within = le;
      rows = g.rows ++ (r ∷ []);
      text = subst (TextOf (g.rows ++ (r ∷ []))) (sym w) (text_append g.rows (r ∷ []) _ _ g.text (text_one r h.valid));
      count = omega (arith, g.count, length-append g.rows (r ∷ []));
      sum = omega (arith, g.sum, total_append f g.rows (r ∷ []));
    }

-- with the rows before s, all rows up to p
pub seen_all : (f : Row → ℕ) (t : List ℕ) (s p n b : ℕ) (before : List Row) → (g : Seen f t s p n b) → TextOf before (take s t) → TextOf (before ++ g.rows) (take p t)
seen_all f t s p n b before g h =
    let from = g.from in
    let k : s + (p - s) ≡ p = omega arith in
    subst (TextOf (before ++ g.rows)) (sym (take_plus s (p - s) t) ∙ ap (λ m. take m t) k) (text_append before g.rows _ _ h g.text)

-- and to the end
pub seen_end : (f : Row → ℕ) (t : List ℕ) (s p n b : ℕ) → length t ≤ p → (g : Seen f t s p n b) → TextOf g.rows (drop s t)
seen_end f t s p n b end g = subst (TextOf g.rows) (take_all (p - s) (drop s t) (omega (arith, length-drop s t))) g.text

-- a row has no more bytes than its line
pub weight_le : (r : Row) → weight r + 1 ≤ length (line r)
weight_le r = simp length-append (omega arith)

pub size_le : (r : Row) → size r ≤ 24 * length (line r)
size_le r = omega (arith, weight_le r, tick_le r.created, tick_le r.expires)
  where
    tick_le : (c : Option ℤ) → tick_size c ≤ 8
    tick_le None = omega arith
    tick_le (Some z) = omega arith
