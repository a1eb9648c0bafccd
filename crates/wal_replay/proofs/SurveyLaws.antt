-- A text looked over row by row.
use Rattle.std.proofs.Common.{◌≡◌, ℕ, ◌+◌, ◌≤◌, max, Bool, true, false, cond, ltb, List, [], ◌∷◌, length, drop, ℤ, None, fold, sym, refl, ap, ◌∙◌, subst, zero-add, arith}
use Rattle.std.proofs.lemmas.Bool.{both_ways, cond_both}
use Rattle.rows.specs.Rows.{Row}
use Rattle.rows.specs.Lines.{line, TextOf}
use Rattle.rows.specs.Sizes.{weight, total}
use Rattle.rows.specs.Reading.{Lies}
use Rattle.rows.proofs.SeenLaws.{weight_le}
use Rattle.wal_replay.specs.declared.survey.Survey.{Survey}
use Rattle.wal_replay.specs.Rows.{kept, widen, span, raised, latest_tick, latest_seq}
use Rattle.wal_replay.specs.Texts.{Sound, Steps, Moves, see, surveyed}

-- before any row
abbrev pub unseen : ℤ → ℕ → Survey
unseen tick seq = record { span = None; count = 0; bytes = 0; last_tick = tick; last_seq = seq }

-- the rows from place p on are still to be seen
pub record Looked (t : List ℕ) (w : ℕ) (start now : Survey) (p : ℕ) : Type 0 where
  pub rows : List Row
  pub rest : List Row
  pub text : TextOf rows t
  pub ahead : TextOf rest (drop p t)
  pub same : fold (see w) now rest ≡ fold (see w) start rows
  pub sound : Sound t p
  pub few : now.count + now.bytes ≤ p

-- before the first row
pub at_first : (t : List ℕ) (w : ℕ) (start : Survey) (n b : ℕ) → start.count + start.bytes ≡ 0 → Lies t 0 n b → Looked t w start start 0
at_first t w start n b z l = record {
  rows = l.rows;
  rest = l.rows;
  text = l.text;
  ahead = l.text;
  same = refl;
  sound = record { before = ([], record { valid = tt; text = refl }); behind = (l.rows, l.text) };
  few = omega arith;
}

more_counted : (w : ℕ) (s : Survey) (r : Row) → (see w s r).count + (see w s r).bytes ≤ s.count + s.bytes + length (line r)
more_counted w s r =
    let l = weight_le r in
    cond_both (ltb w r.seq) _ _ (λ (x : Survey). x.count + x.bytes ≤ s.count + s.bytes + length (line r)) (λ _. omega arith) (λ _. omega arith)

module _ (t : List ℕ) (w : ℕ) (start now : Survey) (p q : ℕ) (is : Row) (r : Bool) where
  -- one row more
  pub looked_more : r ≡ true → Looked t w start now p → Moves t p q is r → Looked t w start (see w now is) q × (q ≡ p + length (line is))
  looked_more e k m = by_rest k.rest k.ahead k.same (m.steps k.rest k.ahead)
    where
      by_rest : (rest : List Row) → TextOf rest (drop p t) → fold (see w) now rest ≡ fold (see w) start k.rows → Steps t p q is r rest
          → Looked t w start (see w now is) q × (q ≡ p + length (line is))
      by_rest [] a s n = absurd (both_ways r n e)
      by_rest (x ∷ rest) a s (went, same, b, at) =
          let f = k.few in
          let at' : q ≡ p + length (line is) = at ∙ ap (λ y. p + length (line y)) (sym same) in (
            record {
              rows = k.rows;
              rest = rest;
              text = k.text;
              ahead = b;
              same = ap (λ y. fold (see w) (see w now y) rest) same ∙ s;
              sound = m.sound;
              few = omega (arith, more_counted w now is);
            },
            at',
          )

  -- the row that is to be seen is short
  pub looked_few : r ≡ true → Looked t w start now p → Moves t p q is r → q ≤ length t → now.count + now.bytes + weight is + 1 ≤ length t
  looked_few e k m l = let h = looked_more e k m in omega (arith, h.1, weight_le is, k.few)

-- all rows seen, field by field
all_seen : (w : ℕ) (s : Survey) (rows : List Row) → fold (see w) s rows ≡ record { span = fold (λ o r. widen o r.seq) s.span rows; count = s.count + length (kept w rows); bytes = s.bytes + total weight (kept w rows); last_tick = latest_tick s.last_tick (kept w rows); last_seq = latest_seq s.last_seq (kept w rows) }
all_seen w s [] = let a : s.count ≡ s.count + 0 = omega arith in let b : s.bytes ≡ s.bytes + 0 = omega arith in (λ i. record { span = s.span; count = a i; bytes = b i; last_tick = s.last_tick; last_seq = s.last_seq })
all_seen w s (r ∷ rows) = all_seen w (see w s r) rows ∙ by_test (ltb w r.seq) refl
  where
    goal : Bool → Type 0
    goal b =
        let u : Survey = cond b
        (record { span = widen s.span r.seq; count = s.count + 1; bytes = s.bytes + weight r; last_tick = raised s.last_tick r.created; last_seq = max s.last_seq r.seq })
        (record { span = widen s.span r.seq; count = s.count; bytes = s.bytes; last_tick = s.last_tick; last_seq = s.last_seq }) in
        let ks : List Row = cond b (r ∷ kept w rows) (kept w rows) in
        ◌≡◌ {A = Survey} (record { span = fold (λ o x. widen o x.seq) u.span rows; count = u.count + length (kept w rows); bytes = u.bytes + total weight (kept w rows); last_tick = latest_tick u.last_tick (kept w rows); last_seq = latest_seq u.last_seq (kept w rows) })
        (record { span = fold (λ o x. widen o x.seq) (widen s.span r.seq) rows; count = s.count + length ks; bytes = s.bytes + total weight ks; last_tick = latest_tick s.last_tick ks; last_seq = latest_seq s.last_seq ks })

    by_test : (b : Bool) → ltb w r.seq ≡ b → goal (ltb w r.seq)
    by_test true e = subst goal (sym e) (
        let n : s.count + 1 + length (kept w rows) ≡ s.count + length (r ∷ kept w rows) = omega arith in
        let k : s.bytes + weight r + total weight (kept w rows) ≡ s.bytes + total weight (r ∷ kept w rows) = omega arith in
        (λ i. record { span = fold (λ o x. widen o x.seq) (widen s.span r.seq) rows; count = n i; bytes = k i; last_tick = latest_tick (raised s.last_tick r.created) (kept w rows); last_seq = latest_seq (max s.last_seq r.seq) (kept w rows) }))
    by_test false e = subst goal (sym e) refl

pub looked_all : (t : List ℕ) (w : ℕ) (tick : ℤ) (seq : ℕ) (now : Survey) (p q : ℕ) (is : Row) (r : Bool) → r ≡ false
    → Looked t w (unseen tick seq) now p → Moves t p q is r
    → (rows : List Row) × TextOf rows t × (now ≡ surveyed w tick seq rows)
looked_all t w tick seq now p q is r e k m = by_rest k.rest k.same (m.steps k.rest k.ahead)
  where
    by_rest : (rest : List Row) → fold (see w) now rest ≡ fold (see w) (unseen tick seq) k.rows → Steps t p q is r rest → (rows : List Row) × TextOf rows t × (now ≡ surveyed w tick seq rows)
    by_rest [] s n = (k.rows, k.text, s ∙ all_seen w (unseen tick seq) k.rows ∙ tidy)
      where
        tidy : ◌≡◌ {A = Survey} (record { span = span k.rows; count = 0 + length (kept w k.rows); bytes = 0 + total weight (kept w k.rows); last_tick = latest_tick tick (kept w k.rows); last_seq = latest_seq seq (kept w k.rows) }) (surveyed w tick seq k.rows)
        tidy = let a = zero-add (length (kept w k.rows)) in let b = zero-add (total weight (kept w k.rows)) in
            (λ i. record { span = span k.rows; count = a i; bytes = b i; last_tick = latest_tick tick (kept w k.rows); last_seq = latest_seq seq (kept w k.rows) })
    by_rest (x ∷ rest) s n = absurd (both_ways r e n.0)
