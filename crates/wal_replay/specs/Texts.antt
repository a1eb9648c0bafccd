-- The text of a file, read row by row.
use Rattle.std.specs.Prelude.{◌≡◌, ℕ, ◌+◌, max, Bool, true, false, cond, List, [], ◌∷◌, length, take, drop, ℤ, Ok, Err, Result, nat_lt}
use Rattle.rows.specs.declared.types.Damage.{Damage}
use Rattle.rows.specs.Rows.{Row}
use Rattle.rows.specs.Lines.{line, TextOf, WellFormed, DamagedText}
use Rattle.rows.specs.Sizes.{weight, total}
use Rattle.mem_table.specs.Meaning.{Held, Meaning, Listed, all_added}
use Rattle.mem_table.specs.Calls.{Fit}
use Rattle.wal_replay.specs.declared.survey.Survey.{Survey}
use Rattle.wal_replay.specs.Rows.{kept, widen, span, raised, latest_tick, latest_seq}

-- a place between two lines of a sound text
pub record Sound (t : List ℕ) (p : ℕ) : Type 0 where
  pub before : WellFormed (take p t)
  pub behind : WellFormed (drop p t)

-- the first of the rows that lie ahead is handed out, if there is one
abbrev pub Steps : List ℕ → ℕ → ℕ → Row → Bool → List Row → Type 0
Steps t p q is r [] = r ≡ false
Steps t p q is r (x ∷ rest) = (r ≡ true) × (is ≡ x) × TextOf rest (drop q t) × (q ≡ p + length (line x))

pub record Moves (t : List ℕ) (p q : ℕ) (is : Row) (r : Bool) : Type 0 where
  pub steps : (rest : List Row) → TextOf rest (drop p t) → Steps t p q is r rest
  pub sound : Sound t q

-- what is seen with one row more
abbrev pub see : ℕ → Survey → Row → Survey
see w s r =
    cond (nat_lt w r.seq)
    (record { span = widen s.span r.seq; count = s.count + 1; bytes = s.bytes + weight r; last_tick = raised s.last_tick r.created; last_seq = max s.last_seq r.seq })
    (record { span = widen s.span r.seq; count = s.count; bytes = s.bytes; last_tick = s.last_tick; last_seq = s.last_seq })

-- what the rows of a text come to, at a watermark and from a last tick and number on
abbrev pub surveyed : ℕ → ℤ → ℕ → List Row → Survey
surveyed w tick seq rows = record {
  span = span rows;
  count = length (kept w rows);
  bytes = total weight (kept w rows);
  last_tick = latest_tick tick (kept w rows);
  last_seq = latest_seq seq (kept w rows);
}

abbrev pub Surveyed : List ℕ → ℕ → ℤ → ℕ → Result Survey Damage → Type 0
Surveyed t w tick seq (Ok s) = (rows : List Row) × TextOf rows t × (s ≡ surveyed w tick seq rows)
Surveyed t w tick seq (Err d) = DamagedText t d

-- a text's rows above the watermark find room
abbrev pub Roomy : ℕ → Held → List ℕ → Type 0
Roomy w h t = (rows : List Row) × TextOf rows t × Fit h (kept w rows)

-- they are put, in order; a table into which none is put stays as it was
pub record Filled (w : ℕ) (before after : Meaning) (rows : List Row) : Type 0 where
  pub held : after.held ≡ all_added before.held (kept w rows)
  pub unput : kept w rows ≡ [] → after ≡ before
  pub listed : Listed before → Listed after

abbrev pub Puts : ℕ → Meaning → Meaning → List ℕ → Type 0
Puts w before after t = (rows : List Row) × TextOf rows t × Filled w before after rows
