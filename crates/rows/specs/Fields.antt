-- The six fields of a line, each with the byte that ends it.
use Rattle.std.specs.Prelude.{◌≡◌, ℕ, ◌+◌, ◌-◌, ◌*◌, ◌^◌, ◌<◌, ◌≤◌, Bool, true, ◌⊎◌, List, [], ◌∷◌, ◌++◌, ℤ, decimal, Option}
use Rattle.rows.specs.declared.types.Kind.{Kind}
use Rattle.rows.specs.Rows.{Row, Hex, fits, room}
use Rattle.rows.specs.Lines.{letter, tick}
use Rattle.rows.specs.Grammar.{Then}

-- a decimal number from low to top, and the tab after it
pub record Decimal (low top n : ℕ) (w : List ℕ) : Type 0 where
  pub above : low ≤ n
  pub below : n ≤ top
  pub written : w ≡ decimal n ++ (9 ∷ [])

-- hexadecimal digits in pairs, at most `most`, and the byte `end` after them
pub record HexField (most end : ℕ) (h w : List ℕ) : Type 0 where
  pub hex : Hex most h
  pub written : w ≡ h ++ (end ∷ [])

abbrev pub NumberField : ℕ → List ℕ → Type 0
NumberField = Decimal 0 (2 ^ 64 - 1)

abbrev pub KindField : Kind → List ℕ → Type 0
KindField k w = w ≡ letter k ∷ 9 ∷ []

pub record TickField (c : Option ℤ) (w : List ℕ) : Type 0 where
  pub range : fits c ≡ true
  pub written : w ≡ tick c ++ (9 ∷ [])

abbrev pub KeyField : List ℕ → List ℕ → Type 0
KeyField = HexField 128 9

abbrev pub ValueField : Kind → List ℕ → List ℕ → Type 0
ValueField k = HexField (room k) 10

-- what follows each field, from the last one back
abbrev pub FromKey : Kind → List ℕ × List ℕ → List ℕ → Type 0
FromKey k = Then KeyField (λ _. ValueField k)

abbrev pub FromExpires : Kind → Option ℤ × (List ℕ × List ℕ) → List ℕ → Type 0
FromExpires k = Then TickField (λ _. FromKey k)

abbrev pub FromCreated : Kind → Option ℤ × (Option ℤ × (List ℕ × List ℕ)) → List ℕ → Type 0
FromCreated k = Then TickField (λ _. FromExpires k)

abbrev pub FromKind : Kind × (Option ℤ × (Option ℤ × (List ℕ × List ℕ))) → List ℕ → Type 0
FromKind = Then KindField FromCreated

abbrev pub Values : Type 0
Values = ℕ × (Kind × (Option ℤ × (Option ℤ × (List ℕ × List ℕ))))

abbrev pub Line : Values → List ℕ → Type 0
Line = Then NumberField (λ _. FromKind)

abbrev pub values : Row → Values
values r = (r.seq, (r.kind, (r.created, (r.expires, (r.key, r.value)))))

-- the digit b may follow those of n, of which there are none at first
pub record Follows (low top n : ℕ) (first : Bool) (b : ℕ) : Type 0 where
  pub digit : 48 ≤ b
  pub nine : b ≤ 57
  pub lead : (first ≡ true) ⊎ (0 < n)
  pub above : low ≤ n * 10 + (b - 48)
  pub below : n * 10 + (b - 48) ≤ top
