-- A sound text read row by row, and that a text is read in one way only.
use Rattle.std.proofs.Common.{◌≡◌, ℕ, ◌+◌, ◌<◌, ◌≤◌, Bool, true, false, List, [], ◌∷◌, ◌++◌, length, take, drop, Ok, Err, Result, sym, refl, ap, ◌∙◌, subst, ⊎_elim, arith, length-append, length-drop}
use Rattle.std.specs.Result.{IsOk}
use Rattle.std.specs.List.{flat_map, AllByRecursion}
use Rattle.std.proofs.lemmas.List.{take-append-drop, take_at, append_assoc, append_cancel_left}
use Rattle.std.proofs.lemmas.Bool.{cases_order}
use Rattle.rows.specs.declared.types.Damage.{Damage}
use Rattle.rows.specs.Rows.{Row, Valid}
use Rattle.rows.specs.Lines.{line, TextOf, WellFormed, Viable, Longest, DamagedText, ends}
use Rattle.rows.specs.Fields.{values}
use Rattle.rows.specs.Reading.{Handed, Reported, Advances}
use Rattle.rows.proofs.Lists.{take_plus, take_split}
use Rattle.rows.proofs.LineLaws.{line_apart}
use Rattle.rows.proofs.TextLaws.{line_of, same_row, text_append, text_one, line_bytes}
use Rattle.wal_replay.specs.Texts.{Sound, Steps, Moves}

pub whole : (t : List ℕ) (p : ℕ) → Sound t p → WellFormed t
whole t p s = (
  s.before.0 ++ s.behind.0,
  subst (TextOf (s.before.0 ++ s.behind.0)) (take-append-drop p t) (text_append _ _ _ _ s.before.1 s.behind.1),
)

-- a sound text has no damage
pub no_damage : (t : List ℕ) (p : ℕ) (d : Damage) → Sound t p → Reported t p d → ⊥
no_damage t p d s told = (told s.before.0 s.before.1).bad (whole t p s)

-- so a reader goes on there
pub goes_on : (t : List ℕ) (p q : ℕ) (was is : Row) (r : Result Bool Damage) → Sound t p → Advances t p q was is r → IsOk r
goes_on t p q was is (Ok b) s a = refl
goes_on t p q was is (Err d) s a = absurd (no_damage t p d s a.0)

-- damage that is reported at the beginning
pub damage_here : (t u : List ℕ) (p : ℕ) (d : Damage) → u ≡ t → p ≡ 0 → Reported u p d → DamagedText t d
damage_here t u p d e z told =
    subst (λ l. DamagedText l d) e (told [] (record { valid = tt; text = ap (λ n. take n u) z }))

no_line : (r : Row) (rest : List ℕ) → [] ≡ line r ++ rest → ⊥
no_line r rest e = let l = ap length e in omega (arith, l, length-append (line r) rest, line_bytes r)

module _ (t : List ℕ) (p q : ℕ) (was is : Row) where
  before_on : WellFormed (take p t) → Handed t p q is → WellFormed (take q t)
  before_on b h =
      let l : take (length (line is)) (drop p t) ≡ line is = ap (take (length (line is))) h.text ∙ take_at (line is) (drop q t) (length (line is)) refl in
      let k : take q t ≡ take p t ++ line is = ap (λ n. take n t) h.place ∙ take_plus p (length (line is)) t ∙ ap (λ x. take p t ++ x) l in
      (b.0 ++ (is ∷ []), subst (TextOf (b.0 ++ (is ∷ []))) (sym k) (text_append b.0 (is ∷ []) _ _ b.1 (text_one is h.valid)))

  -- the first of the rows ahead is the one that was handed out
  first : (x : Row) (rest : List Row) → TextOf (x ∷ rest) (drop p t) → Handed t p q is → (is ≡ x) × TextOf rest (drop q t)
  first x rest a h =
      let e : line is ++ drop q t ≡ line x ++ flat_map line rest = sym h.text ∙ a.text in
      let v = line_apart (values is) (values x) (line is) (line x) (drop q t) (flat_map line rest) (line_of is h.valid) (line_of x a.valid.0) e in
      let f : drop q t ≡ flat_map line rest = append_cancel_left (line is) _ _ (e ∙ ap (λ z. z ++ flat_map line rest) (sym v.1)) in
      (same_row is x v.0, record { valid = a.valid.1; text = f })

  behind_on : WellFormed (drop p t) → Handed t p q is → WellFormed (drop q t)
  behind_on ([], a) h = absurd (no_line is (drop q t) (sym a.text ∙ h.text))
  behind_on (x ∷ rest, a) h = (rest, (first x rest a h).1)

  moves_at : (r : Bool) → Sound t p → Advances t p q was is (Ok r) → Moves t p q is r
  moves_at true s h = record { steps = steps; sound = record { before = before_on s.before h; behind = behind_on s.behind h } }
    where
      steps : (rest : List Row) → TextOf rest (drop p t) → Steps t p q is true rest
      steps [] a = absurd (no_line is (drop q t) (sym a.text ∙ h.text))
      steps (x ∷ rest) a =
          let f = first x rest a h in
          let at = h.place in
          (refl, f.0, f.1, at ∙ ap (λ y. p + length (line y)) f.0)
  moves_at false s a = record { steps = steps; sound = subst (Sound t) (sym a.1) s }
    where
      steps : (rest : List Row) → TextOf rest (drop p t) → Steps t p q is false rest
      steps [] b = refl
      steps (x ∷ rest) b =
          let l = ap length b.text in
          absurd (omega (arith, l, length-append (line x) (flat_map line rest), line_bytes x, length-drop p t, a.0))

pub moves : (t u : List ℕ) (p q : ℕ) (was is : Row) (r : Bool) → u ≡ t → Sound t p → Advances u p q was is (Ok r) → Moves t p q is r
moves t u p q was is r e s a = moves_at t p q was is r s (subst (λ l. Advances l p q was is (Ok r)) e a)

-- the same text by another name
pub moves_in : (t u : List ℕ) (p q : ℕ) (is : Row) (r : Bool) → u ≡ t → Moves u p q is r → Moves t p q is r
moves_in t u p q is r e m = subst (λ l. Moves l p q is r) e m

-- a text is that of one list of rows
joined_unique : (xs ys : List Row) → AllByRecursion Valid xs → AllByRecursion Valid ys → flat_map line xs ≡ flat_map line ys → xs ≡ ys
joined_unique [] [] v w e = refl
joined_unique [] (y ∷ ys) v w e = absurd (no_line y (flat_map line ys) e)
joined_unique (x ∷ xs) [] v w e = absurd (no_line x (flat_map line xs) (sym e))
joined_unique (x ∷ xs) (y ∷ ys) v w e =
    let p = line_apart (values x) (values y) (line x) (line y) (flat_map line xs) (flat_map line ys) (line_of x v.0) (line_of y w.0) e in
    let f = append_cancel_left (line x) _ _ (e ∙ ap (λ z. z ++ flat_map line ys) (sym p.1)) in
    let a = same_row x y p.0 in
    let b = joined_unique xs ys v.1 w.1 f in
    (λ i. a i ∷ b i)

pub text_unique : (xs ys : List Row) (t : List ℕ) → TextOf xs t → TextOf ys t → xs ≡ ys
text_unique xs ys t a b = joined_unique xs ys a.valid b.valid (sym a.text ∙ b.text)

-- what is viable is viable in part
viable_part : (L : List ℕ → Type 0) (t : List ℕ) (i m : ℕ) → i ≤ m → Viable L (take m t) → Viable L (take i t)
viable_part L t i m le v = (drop i (take m t) ++ v.0, subst L (ap (λ l. l ++ v.0) (take_split t i m le) ∙ append_assoc (take i t) (drop i (take m t)) v.0) v.1)

not_longer : (L : List ℕ → Type 0) (t : List ℕ) (n m : ℕ) → Longest L t n → Longest L t m → n < m → ⊥
not_longer L t n m a b l = a.stops (omega (arith, b.within)) (viable_part L t (n + 1) m (omega arith) b.shared)

pub damage_unique : (t : List ℕ) (d e : Damage) → DamagedText t d → DamagedText t e → (d.line ≡ e.line) × (d.place ≡ e.place)
damage_unique t d e a b =
    let p : d.place ≡ e.place = ⊎_elim (λ q. q) (λ o. ⊎_elim (λ l. absurd (not_longer WellFormed t _ _ a.place b.place l)) (λ l. absurd (not_longer WellFormed t _ _ b.place a.place l)) o) (cases_order d.place e.place) in
    (a.line ∙ ap (λ n. ends (take n t) + 1) p ∙ sym b.line, p)
