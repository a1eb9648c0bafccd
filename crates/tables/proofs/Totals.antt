-- Sums over rows.
use Rattle.std.proofs.Common.{◌≡◌, ℕ, zero, suc, ◌+◌, ◌*◌, ◌<◌, ◌≤◌, List, [], ◌∷◌, ◌++◌, length, get_or, take, drop, set, ℤ, Some, None, Option, ap, arith}
use Rattle.std.specs.List.{insert}
use Rattle.std.proofs.lemmas.List.{take-append-drop}
use Rattle.rows.specs.Rows.{Row}
use Rattle.rows.specs.Sizes.{weight, tick_size, size, total}
use Rattle.mem_table.specs.Order.{no_row}

module _ (f : Row → ℕ) where
  total_append : (xs ys : List Row) → total f (xs ++ ys) ≡ total f xs + total f ys
  total_append [] ys = omega arith
  total_append (x ∷ xs) ys = let h = total_append xs ys in omega arith

  pub total_set : (rs : List Row) (i : ℕ) (r : Row) → i < length rs → total f (set rs i r) + f (get_or rs i no_row) ≡ total f rs + f r
  total_set [] i r l = absurd (omega arith)
  total_set (x ∷ rs) zero r l = omega arith
  total_set (x ∷ rs) (suc i) r l = let h = total_set rs i r (omega arith) in omega arith

  pub total_inserted : (rs : List Row) (i : ℕ) (r : Row) → total f (insert rs i r) ≡ total f rs + f r
  total_inserted rs i r =
      let a = total_append (take i rs) (r ∷ drop i rs) in
      let b = total_append (take i rs) (drop i rs) in
      let c = ap (total f) (take-append-drop i rs) in
      omega arith

tick_most : (t : Option ℤ) → tick_size t ≤ 8
tick_most None = omega arith
tick_most (Some t) = omega arith

-- a size is little more than a weight
pub size_most : (r : Row) → size r ≤ weight r + 24
size_most r = let a = tick_most r.created in let b = tick_most r.expires in omega arith

pub sizes_most : (rs : List Row) → total size rs ≤ total weight rs + 24 * length rs
sizes_most [] = omega arith
sizes_most (r ∷ rs) = let a = size_most r in let h = sizes_most rs in omega arith
