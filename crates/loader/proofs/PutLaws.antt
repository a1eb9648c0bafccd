-- Rows put one by one.
use Rattle.std.proofs.Common.{◌≡◌, ℕ, ◌+◌, ◌<◌, ◌≤◌, Bool, true, false, cond, List, [], ◌∷◌, ◌++◌, length, get_or, take, drop, is_ok, is_err, Ok, Err, Result, sym, refl, ap, ◌∙◌, subst, inl, inr, arith}
use Rattle.std.specs.List.{flat_map}
use Rattle.std.specs.declared.alloc.AllocError.{AllocError}
use Rattle.std.proofs.lemmas.List.{flat_map_more, take_all, take_at, take_more}
use Rattle.std.proofs.lemmas.Bool.{cases_Bool, cond-true, cond-false, false≢true, true≢false}
use Rattle.causes.specs.Said.{Said, refused}
use Rattle.rows.specs.Rows.{Row}
use Rattle.rows.specs.Lines.{line, TextOf}
use Rattle.rows.specs.Reading.{Handed, Advances}
use Rattle.rows.proofs.Lists.{take_plus}
use Rattle.rows.proofs.TextLaws.{text_append, text_one}
use Rattle.mem_table.specs.declared.fault.TableFault.{TableFault}
use Rattle.mem_table.specs.declared.fault.TableFault.TheVariants.{NoRoom}
use Rattle.mem_table.specs.Calls.{Fit, Put, lacks, put_says}
use Rattle.mem_table.specs.Meaning.{Held, Meaning, added, all_added}
use Rattle.mem_table.specs.Order.{no_row}
use Rattle.mem_table.specs.Said.{fault}
use Rattle.mem_table.proofs.TableLaws.{had_room}
use Rattle.loader.specs.Loads.{Lists, Whole, Stopped}

added_more : (h : Held) (rs : List Row) (r : Row) → all_added h (rs ++ (r ∷ [])) ≡ added (all_added h rs) r
added_more h [] r = refl
added_more h (x ∷ rs) r = added_more (added h x) rs r

fit_more : (h : Held) (rs : List Row) (r : Row) → Fit h rs → lacks (all_added h rs) r ≡ false → Fit h (rs ++ (r ∷ []))
fit_more h [] r f e = (e, tt)
fit_more h (x ∷ rs) r f e = (f.0, fit_more (added h x) rs r f.1 e)

-- the rows of the first p bytes are put
pub record SoFar (t : List ℕ) (before now : Held) (p : ℕ) : Type 0 where
  pub rows : List Row
  pub text : TextOf rows (take p t)
  pub fit : Fit before rows
  pub held : now ≡ all_added before rows

pub begin : (t : List ℕ) (h : Held) → SoFar t h h 0
begin t h = record { rows = []; text = record { valid = tt; text = refl }; fit = tt; held = refl }

number : (f : TableFault) → (fault f).number ≡ 0 → ⊥
number (NoRoom n) e = omega arith

-- a put that is refused had no room, and says the row's number
refused_room : (h : Held) (r : Row) (f : TableFault) → fault f ≡ put_says h r → (lacks h r ≡ true) × (fault f ≡ refused 3 (r.seq ∷ []))
refused_room h r f e =
    elim (cases_Bool (lacks h r)) [
      | inl full ↦ (full, e ∙ cond-true {A = Said} (lacks h r) _ _ full)
      | inr room ↦ absurd (number f (ap (λ s. s.number) (e ∙ cond-false {A = Said} (lacks h r) _ _ room)))
    ]

module _ (t u : List ℕ) (before : Held) (now after : Meaning) (p q : ℕ) (was r : Row) (went : Bool) (e : u ≡ t) (is : went ≡ true) (s : SoFar t before now.held p) (a : Advances u p q was r (Ok went)) where
  handed : Handed t p q r
  handed = subst (λ l. Handed l p q r) e (subst (λ w. Advances u p q was r (Ok w)) is a)

  -- one row more
  pub put_more : Put now after r (Ok tt) → SoFar t before after.held q × (q ≡ p + length (line r))
  put_more w =
      let l : take (length (line r)) (drop p t) ≡ line r = ap (take (length (line r))) handed.text ∙ take_at (line r) (drop q t) (length (line r)) refl in
      let k : take q t ≡ take p t ++ line r = ap (λ n. take n t) handed.place ∙ take_plus p (length (line r)) t ∙ ap (λ x. take p t ++ x) l in
      let room = had_room now.held r (sym w.answer) in (
        record {
          rows = s.rows ++ (r ∷ []);
          text = subst (TextOf (s.rows ++ (r ∷ []))) (sym k) (text_append s.rows (r ∷ []) _ _ s.text (text_one r handed.valid));
          fit = fit_more before s.rows r s.fit (subst (λ h. lacks h r ≡ false) s.held room);
          held = w.held ∙ cond-false {A = Held} (lacks now.held r) _ _ room ∙ ap (λ h. added h r) s.held ∙ sym (added_more before s.rows r);
        },
        handed.place,
      )

  -- or none
  pub put_none : (f : TableFault) → Put now after r (Err f) → Stopped t before after.held (fault f)
  put_none f w =
      let full = refused_room now.held r f w.answer in
      record {
        place = p;
        rows = s.rows;
        text = s.text;
        row = r;
        rest = drop q t;
        next = handed.text;
        fit = s.fit;
        full = subst (λ h. lacks h r ≡ true) s.held full.0;
        held = w.held ∙ cond-true {A = Held} (lacks now.held r) _ _ full.0 ∙ s.held;
        says = full.1;
      }

pub put_all : (t : List ℕ) (before now : Held) (p : ℕ) → length t ≤ p → SoFar t before now p → Whole t before now
put_all t before now p le s = record { rows = s.rows; text = subst (TextOf s.rows) (take_all p t le) s.text; fit = s.fit; held = s.held }

-- one line more of a table's rows
pub list_more : (order : List Row) (i : ℕ) (w : Row) (before out out' : List ℕ) → i < length order → w ≡ get_or order i no_row → out ≡ before ++ flat_map line (take i order) → out' ≡ out ++ line w
    → out' ≡ before ++ flat_map line (take (i + 1) order)
list_more order i w before out out' l is e f =
    f ∙ ap (λ x. x ++ line w) e ∙ ap (λ x. (before ++ flat_map line (take i order)) ++ line x) is ∙ flat_map_more line before (take i order) (get_or order i no_row)
    ∙ ap (λ x. before ++ flat_map line x) (sym (take_more order i no_row l))

-- what want of memory left behind is taken away
pub cut_back : (order : List Row) (before mid after : List ℕ) (n : ℕ) (r : Result (Unit {0}) AllocError) → is_err r ≡ true → n ≡ length before → Lists order before mid r → after ≡ take n mid
    → after ≡ cond (is_ok r) (before ++ flat_map line order) before
cut_back order before mid after n (Ok u) e long b a = absurd (false≢true e)
cut_back order before mid after n (Err f) e long b a = a ∙ ap (take n) b.1 ∙ take_at before b.0 n (sym long)

pub all_listed : (order : List Row) (before after : List ℕ) (r : Result (Unit {0}) AllocError) → is_err r ≡ false → Lists order before after r → after ≡ cond (is_ok r) (before ++ flat_map line order) before
all_listed order before after (Ok u) e b = b
all_listed order before after (Err f) e b = absurd (true≢false e)
