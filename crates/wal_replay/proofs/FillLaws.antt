-- The rows of a sound text put into a table that has the room.
use Rattle.std.proofs.Common.{◌≡◌, ℕ, ◌+◌, Bool, true, false, ltb, List, [], ◌∷◌, length, take, drop, Ok, Err, sym, refl, ap, ◌∙◌, subst, arith}
use Rattle.std.proofs.lemmas.Bool.{both_ways, cond-true, cond-false}
use Rattle.causes.specs.Said.{Said}
use Rattle.rows.specs.Rows.{Row}
use Rattle.rows.specs.Lines.{line, TextOf}
use Rattle.mem_table.specs.declared.fault.TableFault.{TableFault}
use Rattle.mem_table.specs.declared.fault.TableFault.TheVariants.{NoRoom}
use Rattle.mem_table.specs.Said as table-said
use Rattle.mem_table.specs.Meaning.{Held, Meaning, Listed, added, all_added}
use Rattle.mem_table.specs.Calls.{Fit, Put, lacks}
use Rattle.wal_replay.specs.Rows.{kept}
use Rattle.wal_replay.specs.Texts.{Sound, Steps, Moves, Roomy, Puts}

-- the rows from place p on are still to be put
pub record Filling (w : ℕ) (t : List ℕ) (before now : Meaning) (p : ℕ) : Type 0 where
  pub rows : List Row
  pub rest : List Row
  pub text : TextOf rows t
  pub ahead : TextOf rest (drop p t)
  pub sound : Sound t p
  pub fit : Fit now.held (kept w rest)
  pub same : all_added now.held (kept w rest) ≡ all_added before.held (kept w rows)
  pub unput : kept w rows ≡ [] → (kept w rest ≡ []) × (now ≡ before)
  pub listed : Listed before → Listed now

pub none_put : (w : ℕ) (t u : List ℕ) (m : Meaning) (p : ℕ) → u ≡ t → p ≡ 0 → Roomy w m.held t → Filling w t m m p
none_put w t u m p e z (rows, text, fit) =
    record {
      rows = rows;
      rest = rows;
      text = text;
      ahead = subst (λ n. TextOf rows (drop n t)) (sym z) text;
      sound = record { before = ([], record { valid = tt; text = ap (λ n. take n t) z }); behind = (rows, subst (λ n. TextOf rows (drop n t)) (sym z) text) };
      fit = fit;
      same = refl;
      unput = λ n. (n, refl);
      listed = λ l. l;
    }

kept_first : (w : ℕ) (r : Row) (rest : List Row) → ltb w r.seq ≡ true → kept w (r ∷ rest) ≡ r ∷ kept w rest
kept_first w r rest e = cond-true (ltb w r.seq) _ _ e

kept_not : (w : ℕ) (r : Row) (rest : List Row) → ltb w r.seq ≡ false → kept w (r ∷ rest) ≡ kept w rest
kept_not w r rest e = cond-false (ltb w r.seq) _ _ e

module _ (w : ℕ) (t : List ℕ) (before now : Meaning) (p q : ℕ) (is : Row) (went : Bool) (e : went ≡ true) (k : Filling w t before now p) (m : Moves t p q is went) where
  -- the row that was read is the first of the rest
  pub record First : Type 0 where
    pub rest : List Row
    pub all : k.rest ≡ is ∷ rest
    pub ahead : TextOf rest (drop q t)
    pub place : q ≡ p + length (line is)

  pub first_of : First
  first_of = by_rest k.rest refl (m.steps k.rest k.ahead)
    where
      by_rest : (rest : List Row) → k.rest ≡ rest → Steps t p q is went rest → First
      by_rest [] a n = absurd (both_ways went n e)
      by_rest (x ∷ rest) a (u, same, b, at) = record { rest = rest; all = a ∙ ap (λ y. y ∷ rest) (sym same); ahead = b; place = at ∙ ap (λ y. p + length (line y)) (sym same) }

  -- a row above the watermark finds room
  pub has_room : ltb w is.seq ≡ true → lacks now.held is ≡ false
  has_room i =
      let f = subst (λ (rs : List Row). Fit now.held (kept w rs)) first_of.all k.fit in
      (subst (Fit now.held) (kept_first w is first_of.rest i) f).0

  pub skip : ltb w is.seq ≡ false → Filling w t before now q
  skip i =
      let f = first_of in
      let s : kept w k.rest ≡ kept w f.rest = ap (kept w) f.all ∙ kept_not w is f.rest i in
      record {
        rows = k.rows;
        rest = f.rest;
        text = k.text;
        ahead = f.ahead;
        sound = m.sound;
        fit = subst (Fit now.held) s k.fit;
        same = ap (all_added now.held) (sym s) ∙ k.same;
        unput = λ n. (sym s ∙ (k.unput n).0, (k.unput n).1);
        listed = k.listed;
      }

  pub put : (after : Meaning) → ltb w is.seq ≡ true → Put now after is (Ok tt) → Filling w t before after q
  put after i c =
      let f = first_of in
      let s : kept w k.rest ≡ is ∷ kept w f.rest = ap (kept w) f.all ∙ kept_first w is f.rest i in
      let room = has_room i in
      let h : after.held ≡ added now.held is = c.held ∙ cond-false {A = Held} (lacks now.held is) _ _ room in
      record {
        rows = k.rows;
        rest = f.rest;
        text = k.text;
        ahead = f.ahead;
        sound = m.sound;
        fit = subst (λ (x : Held). Fit x (kept w f.rest)) (sym h) (subst (Fit now.held) s k.fit).1;
        same = ap (λ (x : Held). all_added x (kept w f.rest)) h ∙ ap (all_added now.held) (sym s) ∙ k.same;
        unput = λ n. (let z : is ∷ kept w f.rest ≡ [] = sym s ∙ (k.unput n).0 in let l = ap length z in absurd (omega (arith, l)));
        listed = λ _. c.listed;
      }

number : (f : TableFault) → (table-said.fault f).number ≡ 0 → ⊥
number (NoRoom n) e = omega arith

-- a put for which there is room is not refused
pub not_refused : (now after : Meaning) (r : Row) (f : TableFault) → lacks now.held r ≡ false → Put now after r (Err f) → ⊥
not_refused now after r f room c = number f (ap (λ (s : Said). s.number) (c.answer ∙ cond-false {A = Said} (lacks now.held r) _ _ room))

pub all_put : (w : ℕ) (t : List ℕ) (before now : Meaning) (p q : ℕ) (is : Row) (went : Bool) → went ≡ false → Filling w t before now p → Moves t p q is went → Puts w before now t
all_put w t before now p q is went e k m = by_rest k.rest refl (m.steps k.rest k.ahead)
  where
    by_rest : (rest : List Row) → k.rest ≡ rest → Steps t p q is went rest → Puts w before now t
    by_rest [] a n = (k.rows, k.text, record { held = ap (λ rs. all_added now.held (kept w rs)) (sym a) ∙ k.same; unput = λ z. (k.unput z).1; listed = k.listed })
    by_rest (x ∷ rest) a n = absurd (both_ways went e n.0)
