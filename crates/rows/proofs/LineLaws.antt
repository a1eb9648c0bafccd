-- The fields of a line, one behind the other.
use Rattle.std.proofs.Common.{◌≡◌, ℕ, ◌-◌, ◌<◌, List, [], ◌∷◌, ◌++◌, length, drop, ℤ, Option, refl, arith, length-append}
use Rattle.std.proofs.lemmas.List.{length-take}
use Rattle.rows.specs.declared.types.Kind.{Kind}
use Rattle.rows.specs.declared.types.Kind.TheVariants.{Value, Merge, Tombstone}
use Rattle.rows.specs.Grammar.{Lang, Then, FieldAt, DamageAt}
use Rattle.rows.specs.Fields.{NumberField, KindField, TickField, KeyField, ValueField, FromKey, FromExpires, FromCreated, FromKind, Values, Line}
use Rattle.rows.proofs.Chains.{Apart, then_apart, at_first, at_second, at_both}
use Rattle.rows.proofs.DecimalLaws.{decimal_apart}
use Rattle.rows.proofs.KindLaws.{kind_apart}
use Rattle.rows.proofs.TickLaws.{tick_apart, tick_none}
use Rattle.rows.proofs.HexLaws.{hex_apart, hex_none}

number_apart : Apart NumberField
number_apart = decimal_apart 0 _ (omega arith) (omega arith) (omega arith)

key_apart : Apart KeyField
key_apart = hex_apart 128 9 refl (omega arith)

value_apart : (k : Kind) → Apart (ValueField k)
value_apart Value = hex_apart 2048 10 refl (omega arith)
value_apart Merge = hex_apart 2048 10 refl (omega arith)
value_apart Tombstone = hex_apart 0 10 refl (omega arith)

pub line_apart : Apart Line
line_apart =
    then_apart NumberField (λ _. FromKind) number_apart (λ _. then_apart KindField FromCreated kind_apart (λ k.
    then_apart TickField (λ _. FromExpires k) tick_apart (λ _. then_apart TickField (λ _. FromKey k) tick_apart (λ _.
    then_apart KeyField (λ _. ValueField k) key_apart (λ _. value_apart k)))))

-- something can follow each field
value_some : (k : Kind) → (w : List ℕ) × Lang (ValueField k) w
value_some Value = hex_none 2048 10 refl (omega arith)
value_some Merge = hex_none 2048 10 refl (omega arith)
value_some Tombstone = hex_none 0 10 refl (omega arith)

then_some : {A B : Type 0} (F : A → List ℕ → Type 0) (G : A → B → List ℕ → Type 0) → (w : List ℕ) × Lang F w → ((a : A) → (w : List ℕ) × Lang (G a) w) → (w : List ℕ) × Lang (Then F G) w
then_some F G f g = let h = g f.1.0 in (f.0 ++ h.0, ((f.1.0, h.1.0), record { fore = f.0; back = h.0; first = f.1.1; second = h.1.1; whole = refl }))

from_key : (k : Kind) → (w : List ℕ) × Lang (FromKey k) w
from_key k = then_some KeyField (λ _. ValueField k) (hex_none 128 9 refl (omega arith)) (λ _. value_some k)

from_expires : (k : Kind) → (w : List ℕ) × Lang (FromExpires k) w
from_expires k = then_some TickField (λ _. FromKey k) tick_none (λ _. from_key k)

from_created : (k : Kind) → (w : List ℕ) × Lang (FromCreated k) w
from_created k = then_some TickField (λ _. FromExpires k) tick_none (λ _. from_expires k)

from_kind : (w : List ℕ) × Lang FromKind w
from_kind = then_some KindField FromCreated (84 ∷ 9 ∷ [], (Tombstone, refl)) from_created

-- damage in each field, behind those that stand whole
module _ (t : List ℕ) (i p : ℕ) where
  pub bad_number : DamageAt (Lang NumberField) t i p → DamageAt (Lang Line) t i p
  bad_number d = at_first NumberField (λ _. FromKind) t i (λ _. from_kind) p d

  module _ (n a : ℕ) (f₁ : FieldAt NumberField t i n a) where
    behind_number : DamageAt (Lang FromKind) t a p → DamageAt (Lang Line) t i p
    behind_number d = at_second NumberField (λ _. FromKind) t i number_apart n a p f₁ d

    pub bad_kind : DamageAt (Lang KindField) t a p → DamageAt (Lang Line) t i p
    bad_kind d = behind_number (at_first KindField FromCreated t a from_created p d)

    module _ (k : Kind) (b : ℕ) (f₂ : FieldAt KindField t a k b) where
      behind_kind : DamageAt (Lang (FromCreated k)) t b p → DamageAt (Lang Line) t i p
      behind_kind d = behind_number (at_second KindField FromCreated t a kind_apart k b p f₂ d)

      pub bad_created : DamageAt (Lang TickField) t b p → DamageAt (Lang Line) t i p
      bad_created d = behind_kind (at_first TickField (λ _. FromExpires k) t b (λ _. from_expires k) p d)

      module _ (c : Option ℤ) (e : ℕ) (f₃ : FieldAt TickField t b c e) where
        behind_created : DamageAt (Lang (FromExpires k)) t e p → DamageAt (Lang Line) t i p
        behind_created d = behind_kind (at_second TickField (λ _. FromExpires k) t b tick_apart c e p f₃ d)

        pub bad_expires : DamageAt (Lang TickField) t e p → DamageAt (Lang Line) t i p
        bad_expires d = behind_created (at_first TickField (λ _. FromKey k) t e (λ _. from_key k) p d)

        module _ (x : Option ℤ) (g : ℕ) (f₄ : FieldAt TickField t e x g) where
          behind_expires : DamageAt (Lang (FromKey k)) t g p → DamageAt (Lang Line) t i p
          behind_expires d = behind_created (at_second TickField (λ _. FromKey k) t e tick_apart x g p f₄ d)

          pub bad_key : DamageAt (Lang KeyField) t g p → DamageAt (Lang Line) t i p
          bad_key d = behind_expires (at_first KeyField (λ _. ValueField k) t g (λ _. value_some k) p d)

          module _ (y : List ℕ) (h : ℕ) (f₅ : FieldAt KeyField t g y h) where
            pub bad_value : DamageAt (Lang (ValueField k)) t h p → DamageAt (Lang Line) t i p
            bad_value d = behind_expires (at_second KeyField (λ _. ValueField k) t g key_apart y h p f₅ d)

            pub whole_line : (v : List ℕ) → FieldAt (ValueField k) t h v p → FieldAt Line t i (n, (k, (c, (x, (y, v))))) p
            whole_line v f₆ =
                at_both NumberField (λ _. FromKind) t i n _ a p f₁ (at_both KindField FromCreated t a k _ b p f₂
                (at_both TickField (λ _. FromExpires k) t b c _ e p f₃ (at_both TickField (λ _. FromKey k) t e x _ g p f₄
                (at_both KeyField (λ _. ValueField k) t g y v h p f₅ f₆))))

-- a line has some bytes
pub line_some : (t : List ℕ) (i : ℕ) (r : Values) (e : ℕ) → FieldAt Line t i r e → i < e
line_some t i r e f =
    let q = f.field in
    let a = simp length-append at (ap_length q.first.written) in
    let b = simp length-append at (ap_length q.whole) in
    omega (arith, a, b, length-take (e - i) (drop i t))
  where
    ap_length : {x y : List ℕ} → x ≡ y → length x ≡ length y
    ap_length e = λ j. length (e j)
