-- The text of rows, and what damage is.
use Rattle.std.specs.Prelude.{◌≡◌, ℕ, ◌+◌, ◌<◌, ◌≤◌, cond, List, [], ◌∷◌, ◌++◌, length, take, ℤ, Some, None, Ok, Err, decimal, Option, Result, ◌==◌, ◌≢◌}
use Rattle.std.specs.List.{flat_map, AllByRecursion}
use Rattle.std.specs.Fmt.{signed_decimal}
use Rattle.rows.specs.declared.types.Kind.{Kind}
use Rattle.rows.specs.declared.types.Kind.TheVariants.{Value, Merge, Tombstone}
use Rattle.rows.specs.declared.types.UnknownKind.{UnknownKind}
use Rattle.rows.specs.declared.types.Damage.{Damage}
use Rattle.rows.specs.Rows.{Row, Valid}

-- V, M and T
abbrev pub letter : Kind → ℕ
letter Value = 86
letter Merge = 77
letter Tombstone = 84

-- the kind that a letter stands for, or a letter that stands for none
abbrev pub ReadsKind : ℕ → Result Kind UnknownKind → Type 0
ReadsKind b (Ok k) = b ≡ letter k
ReadsKind b (Err e) = (e.0 ≡ b) × ((k : Kind) → b ≢ letter k)

-- a tick is decimal, a lone minus where there is none
abbrev pub tick : Option ℤ → List ℕ
tick None = 45 ∷ []
tick (Some z) = signed_decimal z

-- the line of a row: six fields parted by tabs (byte 9) and ended by byte 10
abbrev pub line : Row → List ℕ
line r =
    decimal r.seq ++ (9 ∷ letter r.kind ∷ 9 ∷ (tick r.created ++ (9 ∷ (tick r.expires
    ++ (9 ∷ (r.key ++ (9 ∷ (r.value ++ (10 ∷ [])))))))))

-- t is the lines of these rows
pub record TextOf (rows : List Row) (t : List ℕ) : Type 0 where
  pub valid : AllByRecursion Valid rows
  pub text : t ≡ flat_map line rows

abbrev pub WellFormed : List ℕ → Type 0
WellFormed t = (rows : List Row) × TextOf rows t

-- some text of L begins with p
abbrev pub Viable : (List ℕ → Type 0) → List ℕ → Type 0
Viable L p = (s : List ℕ) × L (p ++ s)

-- n is the length of the longest beginning of t that is viable
pub record Longest (L : List ℕ → Type 0) (t : List ℕ) (n : ℕ) : Type 0 where
  pub within : n ≤ length t
  pub shared : Viable L (take n t)
  pub stops : n < length t → Viable L (take (n + 1) t) → ⊥

-- how many lines end in a text
abbrev pub ends : List ℕ → ℕ
ends [] = 0
ends (b ∷ bs) = cond (b == 10) 1 0 + ends bs

-- t is not well-formed, and d says where
pub record DamagedText (t : List ℕ) (d : Damage) : Type 0 where
  pub bad : WellFormed t → ⊥
  pub place : Longest WellFormed t d.place
  pub line : d.line ≡ ends (take d.place t) + 1
