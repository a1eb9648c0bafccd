-- An index of the extents of files in one text, in the order of their ids.
use Rattle.std.specs.Prelude.{◌≡◌, ℕ, ◌+◌, ◌<◌, ◌≤◌, cond, List, [], ◌∷◌, length, get_or, take, drop, Some, None, Option, ◌==◌, slice_index_or}
use Rattle.std.specs.Option.{option_map}
use Rattle.store.specs.declared.extent.Extent.{Extent}

-- the extent of an id
abbrev pub extent_of : List Extent → ℕ → Option Extent
extent_of [] id = None
extent_of (e ∷ es) id = cond (id == e.id) (Some e) (extent_of es id)

-- the bytes in an extent
abbrev pub bytes_in : List ℕ → Extent → List ℕ
bytes_in text e = take e.len (drop e.start text)

abbrev pub files_in : List Extent → List ℕ → ℕ → Option (List ℕ)
files_in es text id = option_map (bytes_in text) (extent_of es id)

-- each extent lies within n bytes, and is no longer than a file may be
abbrev pub Inside : List Extent → ℕ → Type 0
Inside es n = (id : ℕ) (e : Extent) → extent_of es id ≡ Some e → (e.start + e.len ≤ n) × (e.len ≤ 16384)

abbrev pub none : Extent
none = record { id = 0; start = 0; len = 0 }

abbrev pub Ascending : List Extent → Type 0
Ascending es = (i j : ℕ) → i < j → j < length es → (get_or es i none).id < (get_or es j none).id

-- the ids before place n are smaller than this one, and those from there on greater
pub record Parted (es : List Extent) (id n : ℕ) : Type 0 where
  pub bound : n ≤ length es
  pub smaller : (k : ℕ) (d : Extent) → k < n → (get_or es k d).id < id
  pub greater : (k : ℕ) (d : Extent) → n ≤ k → k < length es → id < (get_or es k d).id

-- the extent of the id stands at place n
pub record Present (es : List Extent) (id n : ℕ) : Type 0 where
  pub bound : n < length es
  pub here : extent_of es id ≡ Some (slice_index_or es n none)

-- the id has no extent, and its place would be n
pub record Absent (es : List Extent) (id n : ℕ) : Type 0 where
  pub parted : Parted es id n
  pub nowhere : extent_of es id ≡ None
