-- What the rows of files come to.
use Rattle.std.specs.Prelude.{ℕ, min, max, Bool, cond, ◌&&◌, ◌||◌, ltb, List, [], ◌∷◌, length, ℤ, is_some, Some, None, fold, filter, Option, nat_le, nat_lt}
use Rattle.std.specs.Int.{int_max}
use Rattle.rows.specs.Rows.{Row}
use Rattle.rows.specs.Sizes.{weight, size, total, compacted_size}
use Rattle.mem_table.specs.Meaning.{Held, lookup}

-- the rows above the watermark
abbrev pub kept : ℕ → List Row → List Row
kept w rows = filter (λ r. ltb w r.seq) rows

-- the least and the greatest number, which no rows have none of
abbrev pub widen : Option (ℕ × ℕ) → ℕ → Option (ℕ × ℕ)
widen None n = Some (n, n)
widen (Some p) n = Some (min p.0 n, max p.1 n)

abbrev pub span : List Row → Option (ℕ × ℕ)
span rows = fold (λ s r. widen s r.seq) None rows

-- a tick raised by the creation of a row, where it has one
abbrev pub raised : ℤ → Option ℤ → ℤ
raised t None = t
raised t (Some c) = int_max t c

-- the last tick and the last number with these rows
abbrev pub latest_tick : ℤ → List Row → ℤ
latest_tick t rows = fold (λ z r. raised z r.created) t rows

abbrev pub latest_seq : ℕ → List Row → ℕ
latest_seq n rows = fold (λ k r. max k r.seq) n rows

-- the rows need more puts or bytes than are left
abbrev pub crowds : Held → List Row → Bool
crowds h rows = nat_lt h.puts (length rows) || nat_lt h.bytes (total weight rows)

-- of rows put one behind the other those that stand: of one key and number the last
abbrev pub standing : List Row → List Row
standing [] = []
standing (r ∷ rs) = cond (is_some (lookup rs r.key r.seq)) (standing rs) (r ∷ standing rs)

-- rows whose table has come to a compacted size; without rows it never has
abbrev pub reaches : ℕ → ℕ → List Row → Bool
reaches limit block rows = nat_lt 0 (length rows) && nat_le limit (compacted_size (length rows) (total size rows) block)

-- a table into which these rows were put is to be handed out
abbrev pub ripe : ℕ → ℕ → List Row → Bool
ripe limit block put = reaches limit block (standing put)
