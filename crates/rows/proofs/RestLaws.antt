-- The fields of a line, each read from what the one before it left.
use Rattle.std.proofs.Common.{ℕ, ◌-◌, List, length, ℤ, Option}
use Rattle.rows.specs.declared.types.Kind.{Kind}
use Rattle.rows.specs.Grammar.{Lang, FieldAt, DamageAt, FrontOf, StuckAt}
use Rattle.rows.specs.Fields.{NumberField, KindField, TickField, KeyField, ValueField, Line}
use Rattle.rows.proofs.Damages.{From, field_at, damage_in, left_within, from_start, stuck_from, front_from}
use Rattle.rows.proofs.LineLaws.{bad_number, bad_kind, bad_created, bad_expires, bad_key, bad_value, whole_line}

-- damage in what is left of t, where it is damage of the line
spread : (L : List ℕ → Type 0) (t left : List ℕ) (i : ℕ) (r : List ℕ) → From t i r → StuckAt L r left → (DamageAt L t i (length t - length left) → DamageAt (Lang Line) t 0 (length t - length left)) → StuckAt (Lang Line) t left
spread L t left i r from d bad = stuck_from (Lang Line) t left (bad (damage_in t i r from L left d)) (left_within t i r from L left d)

module _ (t left : List ℕ) where
  pub stuck_number : StuckAt (Lang NumberField) t left → StuckAt (Lang Line) t left
  stuck_number d = spread _ t left 0 t (from_start t) d (bad_number t 0 _)

  module _ (n : ℕ) (r₁ : List ℕ) (f₁ : FrontOf NumberField t n r₁) where
    a₁ : FieldAt NumberField t 0 n (length t - length r₁) × From t (length t - length r₁) r₁
    a₁ = field_at t 0 t (from_start t) NumberField n r₁ f₁

    pub stuck_kind : StuckAt (Lang KindField) r₁ left → StuckAt (Lang Line) t left
    stuck_kind d = spread _ t left _ r₁ a₁.1 d (bad_kind t 0 _ n (length t - length r₁) a₁.0)

    module _ (k : Kind) (r₂ : List ℕ) (f₂ : FrontOf KindField r₁ k r₂) where
      a₂ : FieldAt KindField t (length t - length r₁) k (length t - length r₂) × From t (length t - length r₂) r₂
      a₂ = field_at t (length t - length r₁) r₁ a₁.1 KindField k r₂ f₂

      pub stuck_created : StuckAt (Lang TickField) r₂ left → StuckAt (Lang Line) t left
      stuck_created d = spread _ t left _ r₂ a₂.1 d (bad_created t 0 _ n (length t - length r₁) a₁.0 k (length t - length r₂) a₂.0)

      module _ (c : Option ℤ) (r₃ : List ℕ) (f₃ : FrontOf TickField r₂ c r₃) where
        a₃ : FieldAt TickField t (length t - length r₂) c (length t - length r₃) × From t (length t - length r₃) r₃
        a₃ = field_at t (length t - length r₂) r₂ a₂.1 TickField c r₃ f₃

        pub stuck_expires : StuckAt (Lang TickField) r₃ left → StuckAt (Lang Line) t left
        stuck_expires d = spread _ t left _ r₃ a₃.1 d (bad_expires t 0 _ n (length t - length r₁) a₁.0 k (length t - length r₂) a₂.0 c (length t - length r₃) a₃.0)

        module _ (x : Option ℤ) (r₄ : List ℕ) (f₄ : FrontOf TickField r₃ x r₄) where
          a₄ : FieldAt TickField t (length t - length r₃) x (length t - length r₄) × From t (length t - length r₄) r₄
          a₄ = field_at t (length t - length r₃) r₃ a₃.1 TickField x r₄ f₄

          pub stuck_key : StuckAt (Lang KeyField) r₄ left → StuckAt (Lang Line) t left
          stuck_key d = spread _ t left _ r₄ a₄.1 d (bad_key t 0 _ n (length t - length r₁) a₁.0 k (length t - length r₂) a₂.0 c (length t - length r₃) a₃.0 x (length t - length r₄) a₄.0)

          module _ (y : List ℕ) (r₅ : List ℕ) (f₅ : FrontOf KeyField r₄ y r₅) where
            a₅ : FieldAt KeyField t (length t - length r₄) y (length t - length r₅) × From t (length t - length r₅) r₅
            a₅ = field_at t (length t - length r₄) r₄ a₄.1 KeyField y r₅ f₅

            pub stuck_value : StuckAt (Lang (ValueField k)) r₅ left → StuckAt (Lang Line) t left
            stuck_value d = spread _ t left _ r₅ a₅.1 d (bad_value t 0 _ n (length t - length r₁) a₁.0 k (length t - length r₂) a₂.0 c (length t - length r₃) a₃.0 x (length t - length r₄) a₄.0 y (length t - length r₅) a₅.0)

            pub front_line : (v : List ℕ) → FrontOf (ValueField k) r₅ v left → FrontOf Line t (n, (k, (c, (x, (y, v))))) left
            front_line v f₆ =
                let a₆ = field_at t (length t - length r₅) r₅ a₅.1 (ValueField k) v left f₆ in
                front_from Line t _ left (whole_line t 0 _ n (length t - length r₁) a₁.0 k (length t - length r₂) a₂.0 c (length t - length r₃) a₃.0 x (length t - length r₄) a₄.0 y (length t - length r₅) a₅.0 v a₆.0) a₆.1
