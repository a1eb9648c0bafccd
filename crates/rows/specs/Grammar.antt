-- Languages of fields: a field is a relation between a value and its text.
use Rattle.std.specs.Prelude.{◌≡◌, ℕ, ◌-◌, ◌≤◌, List, [], ◌∷◌, ◌++◌, length, take, drop, Ok, Err, Result}
use Rattle.std.specs.Borrow.{Bor}
use Rattle.rows.specs.Lines.{Longest}

-- the texts that F has for some value
abbrev pub Lang : {A : Type 0} → (A → List ℕ → Type 0) → List ℕ → Type 0
Lang {A = A} F w = (a : A) × F a w

-- t begins with no text of L, and n is the length of its longest viable beginning
pub record Damaged (L : List ℕ → Type 0) (t : List ℕ) (n : ℕ) : Type 0 where
  pub longest : Longest L t n
  pub none : (m : ℕ) → L (take m t) → ⊥

-- a text of F, and after it one of G, which may depend on what the first says
pub record Then {A B : Type 0} (F : A → List ℕ → Type 0) (G : A → B → List ℕ → Type 0) (ab : A × B) (w : List ℕ) : Type 0 where
  pub fore : List ℕ
  pub back : List ℕ
  pub first : F ab.0 fore
  pub second : G ab.0 ab.1 back
  pub whole : w ≡ fore ++ back

-- texts of F one after another
abbrev pub Many : {A : Type 0} → (A → List ℕ → Type 0) → List A → List ℕ → Type 0
Many F [] w = w ≡ []
Many F (a ∷ more) w = (x : List ℕ) × (y : List ℕ) × F a x × Many F more y × (w ≡ x ++ y)

-- a text of F for a stands in t from place i up to place e
pub record FieldAt {A : Type 0} (F : A → List ℕ → Type 0) (t : List ℕ) (i : ℕ) (a : A) (e : ℕ) : Type 0 where
  pub after : i ≤ e
  pub within : e ≤ length t
  pub field : F a (take (e - i) (drop i t))

-- no text of L stands in t from place i on, and what could be one ends at place p
pub record DamageAt (L : List ℕ → Type 0) (t : List ℕ) (i p : ℕ) : Type 0 where
  pub after : i ≤ p
  pub within : p ≤ length t
  pub damage : Damaged L (drop i t) (p - i)

-- t begins with a text of F for a, and rest is what follows it
pub record FrontOf {A : Type 0} (F : A → List ℕ → Type 0) (t : List ℕ) (a : A) (rest : List ℕ) : Type 0 where
  pub fore : List ℕ
  pub field : F a fore
  pub whole : t ≡ fore ++ rest

-- t begins with no text of L, and what could be one ends where left begins
pub record StuckAt (L : List ℕ → Type 0) (t left : List ℕ) : Type 0 where
  pub within : length left ≤ length t
  pub damage : Damaged L t (length t - length left)

-- what a reader of F answers at the front of t: a value, by its meaning, and the text behind it, or the text from the damage on
abbrev pub ReadAs : {V A : Type 0} → (V → A) → (A → List ℕ → Type 0) → List ℕ → Result (V × Bor (List ℕ)) (Bor (List ℕ)) → Type 0
ReadAs f F t (Ok x) = FrontOf F t (f x.0) x.1.now
ReadAs f F t (Err left) = StuckAt (Lang F) t left.now

-- a value that means itself
abbrev pub same : {A : Type 0} → A → A
same a = a

-- a part of a text means its bytes
abbrev pub bytes : Bor (List ℕ) → List ℕ
bytes part = part.now
