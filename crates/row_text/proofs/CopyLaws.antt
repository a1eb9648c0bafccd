-- Rows of a text written again one by one.
use Rattle.std.proofs.Common.{◌≡◌, ℕ, ◌≤◌, true, List, [], ◌∷◌, ◌++◌, length, take, drop, is_err, Ok, Err, Result, sym, refl, ap, ◌∙◌, subst, append_assoc, append-nil}
use Rattle.std.proofs.lemmas.Bool.{false≢true}
use Rattle.std.proofs.lemmas.List.{take_all, take_at}
use Rattle.row_text.specs.declared.again.RewriteFault.{RewriteFault}
use Rattle.row_text.specs.declared.again.RewriteFault.TheVariants.{Damaged, NoMemory}
use Rattle.rows.specs.Rows.{Row}
use Rattle.row_text.specs.Rewriting.{Begun, Rewrites}
use Rattle.rows.specs.Lines.{line, TextOf, WellFormed}
use Rattle.rows.specs.Reading.{Handed}
use Rattle.rows.proofs.Lists.{take_plus}
use Rattle.rows.proofs.TextLaws.{text_append, text_one}

-- the first p bytes of t are lines, and stand behind what was there before
pub record Copied (t before after : List ℕ) (p : ℕ) : Type 0 where
  pub rows : List Row
  pub text : TextOf rows (take p t)
  pub out : after ≡ before ++ take p t

pub copied_none : (t before : List ℕ) → Copied t before before 0
copied_none t before = record { rows = []; text = record { valid = tt; text = refl }; out = sym (append-nil before) }

-- one row more
pub copied_more : (t u before after then : List ℕ) (p q : ℕ) (r : Row) → u ≡ t → Copied t before after p → Handed u p q r → then ≡ after ++ line r → Copied t before then q
copied_more t u before after then p q r e g a o =
    let h : Handed t p q r = subst (λ l. Handed l p q r) e a in
    let l : take (length (line r)) (drop p t) ≡ line r = ap (take (length (line r))) h.text ∙ take_at (line r) (drop q t) (length (line r)) refl in
    let w : take q t ≡ take p t ++ line r = ap (λ k. take k t) h.place ∙ take_plus p (length (line r)) t ∙ ap (λ x. take p t ++ x) l in
    record {
      rows = g.rows ++ (r ∷ []);
      text = subst (TextOf (g.rows ++ (r ∷ []))) (sym w) (text_append g.rows (r ∷ []) _ _ g.text (text_one r h.valid));
      out = o ∙ ap (λ x. x ++ line r) g.out ∙ append_assoc before (take p t) (line r) ∙ ap (λ x. before ++ x) (sym w);
    }

pub copied_all : (t before after : List ℕ) (p : ℕ) → length t ≤ p → Copied t before after p → WellFormed t × (after ≡ before ++ t)
copied_all t before after p le g =
    let e = take_all p t le in
    ((g.rows, subst (TextOf g.rows) e g.text), g.out ∙ ap (λ x. before ++ x) e)

-- what a refusal left behind is taken away
cut : (before mid after x : List ℕ) (n : ℕ) → n ≡ length before → mid ≡ before ++ x → after ≡ take n mid → after ≡ before
cut before mid after x n long m a = a ∙ ap (take n) m ∙ take_at before x n (sym long)

pub cut_back : (t before mid after : List ℕ) (n : ℕ) (r : Result (Unit {0}) RewriteFault) → is_err r ≡ true → n ≡ length before → Begun t before mid r → after ≡ take n mid → Rewrites t before after r
cut_back t before mid after n (Ok u) e long b a = absurd (false≢true e)
cut_back t before mid after n (Err (Damaged d)) e long b a = (b.0, cut before mid after b.1.0 n long b.1.1 a)
cut_back t before mid after n (Err NoMemory) e long b a = cut before mid after b.0 n long b.1 a
