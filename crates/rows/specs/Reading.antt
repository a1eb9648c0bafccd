-- What the calls of a reader promise.
use Rattle.std.specs.Prelude.{◌≡◌, ℕ, ◌+◌, Bool, true, false, List, [], ◌++◌, length, take, drop, None, Option, is_some, Ok, Err, Result}
use Rattle.rows.specs.declared.types.Kind.TheVariants.{Tombstone}
use Rattle.rows.specs.declared.types.Damage.{Damage}
use Rattle.rows.specs.declared.reader.Reader.{Reader}
use Rattle.rows.specs.Rows.{Row, Valid}
use Rattle.rows.specs.Lines.{line, TextOf, DamagedText}
use Rattle.rows.specs.Sizes.{total, weight}
use Rattle.rows.specs.Entries.{row_of}
use Rattle.rows.specs.Fields.{Values, values}
use Rattle.rows.specs.declared.entry.RowEntry.{RowEntry}

-- the text of a reader, and the row that it stands on
abbrev pub text_of : Reader → List ℕ
text_of r = r.text.now

abbrev pub row_under : Reader → Row
row_under r = row_of r.row

-- the fields of an entry's line
abbrev pub values_of : RowEntry → Values
values_of e = values (row_of e)

-- before the first row
abbrev pub no_row : Row
no_row = record { seq = 0; kind = Tombstone; created = None; expires = None; key = []; value = [] }

-- the line of r stands in t from p up to q
pub record Handed (t : List ℕ) (p q : ℕ) (r : Row) : Type 0 where
  pub valid : Valid r
  pub text : drop p t ≡ line r ++ drop q t
  pub place : q ≡ p + length (line r)

-- damage behind rows that stand whole is the damage of the text
abbrev pub Reported : List ℕ → ℕ → Damage → Type 0
Reported t p d = (rows : List Row) → TextOf rows (take p t) → DamagedText t d

-- `advance` at place p of t, on a row: the place and the row afterwards
abbrev pub Advances : List ℕ → ℕ → ℕ → Row → Row → Result Bool Damage → Type 0
Advances t p q was is (Ok true) = Handed t p q is
Advances t p q was is (Ok false) = (p ≡ length t) × (q ≡ p) × (is ≡ was)
Advances t p q was is (Err d) = Reported t p d × (q ≡ p) × (is ≡ was)

-- whether there was a next row
abbrev pub went : Result (Option RowEntry) Damage → Result Bool Damage
went (Ok next) = Ok (is_some next)
went (Err d) = Err d

-- where the line of a row stands, that row is handed out
abbrev pub ReadsBack : List ℕ → ℕ → Row → Result Bool Damage → Type 0
ReadsBack t p is r = (w : Row) (rest : List ℕ) → Valid w → drop p t ≡ line w ++ rest → (r ≡ Ok true) × (is ≡ w)

-- the rest of t from p on has n rows, whose keys and values have b bytes
pub record Lies (t : List ℕ) (p n b : ℕ) : Type 0 where
  pub rows : List Row
  pub text : TextOf rows (drop p t)
  pub count : n ≡ length rows
  pub bytes : b ≡ total weight rows

abbrev pub LiesAhead : List ℕ → ℕ → Result (ℕ × ℕ) Damage → Type 0
LiesAhead t p (Ok x) = Lies t p x.0 x.1
LiesAhead t p (Err d) = Reported t p d
