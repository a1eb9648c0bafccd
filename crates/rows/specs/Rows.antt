-- What a row is.
use Rattle.std.specs.Prelude.{◌≡◌, ℕ, ◌%◌, ◌^◌, ◌<◌, ◌≤◌, Bool, true, ◌&&◌, ◌||◌, List, [], ◌++◌, length, ℤ, Some, None, Option, nat_le, nat_lt, slice_index}
use Rattle.std.specs.Int.Signed.{mag}
use Rattle.rows.specs.declared.types.Kind.{Kind}
use Rattle.rows.specs.declared.types.Kind.TheVariants.{Value as KValue, Merge as KMerge, Tombstone as KTombstone}
use Rattle.rows.specs.declared.types.ValueDeletable.{ValueDeletable}
use Rattle.rows.specs.declared.types.ValueDeletable.TheVariants.{Value, Merge, Tombstone}

-- key and value are hexadecimal digits
pub record Row : Type 0 where
  pub seq : ℕ
  pub kind : Kind
  pub created : Option ℤ
  pub expires : Option ℤ
  pub key : List ℕ
  pub value : List ℕ

abbrev pub kind_of : ValueDeletable → Kind
kind_of (Value x) = KValue
kind_of (Merge x) = KMerge
kind_of Tombstone = KTombstone

-- the digits of the value field
abbrev pub digits_of : ValueDeletable → List ℕ
digits_of (Value x) = x.now
digits_of (Merge x) = x.now
digits_of Tombstone = []

-- the digits that a value of a kind has: a tombstone has none
abbrev pub digits_for : Kind → List ℕ → List ℕ
digits_for KValue digits = digits
digits_for KMerge digits = digits
digits_for KTombstone digits = []

abbrev pub row : ℕ → Option ℤ → Option ℤ → List ℕ → ValueDeletable → Row
row n c x k v = record { seq = n; kind = kind_of v; created = c; expires = x; key = k; value = digits_of v }

-- 0 to 9 and a to f
abbrev pub hex_digit : ℕ → Bool
hex_digit b = (nat_le 48 b && nat_le b 57) || (nat_le 97 b && nat_le b 102)

-- at most `most` hexadecimal digits, in pairs
abbrev pub Hex : ℕ → List ℕ → Type 0
Hex most h = (length h % 2 ≡ 0) × (length h ≤ most) × ((i : ℕ) → i < length h → hex_digit (slice_index h i) ≡ true)

-- a tick is a number of 64 bits with a sign: `mag z` is n both for n and for −(n + 1)
abbrev pub fits : Option ℤ → Bool
fits None = true
fits (Some z) = nat_lt (mag z) (2 ^ 63)

-- how many digits the value of a row may have
abbrev pub room : Kind → ℕ
room KValue = 2048
room KMerge = 2048
room KTombstone = 0

-- what a line can hold
pub record Valid (r : Row) : Type 0 where
  pub number : r.seq < 2 ^ 64
  pub created : fits r.created ≡ true
  pub expires : fits r.expires ≡ true
  pub key : Hex 128 r.key
  pub value : Hex (room r.kind) r.value

-- p stands somewhere in t
pub record PartOf (t p : List ℕ) : Type 0 where
  pub before : List ℕ
  pub behind : List ℕ
  pub whole : t ≡ before ++ (p ++ behind)
