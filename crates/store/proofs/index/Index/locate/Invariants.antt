use Rattle.std.proofs.Common.{ℕ, ◌-◌, ◌<◌, ◌≤◌, length, get_or, vec_items}
use Rattle.store.specs.declared.extent.Extent.{Extent}
use Rattle.store.proofs.index.Index.locate.Given as goal

abbrev pub invariant-loop-low : goal.invariant-loop-low
invariant-loop-low l =
    (l.low ≤ l.high)
    × (l.high ≤ length (vec_items l.self.extents))
    × ((k : ℕ) (d : Extent) → k < l.low → (get_or (vec_items l.self.extents) k d).id < l.id)
    × ((k : ℕ) (d : Extent) → l.high ≤ k → k < length (vec_items l.self.extents) → l.id < (get_or (vec_items l.self.extents) k d).id)

abbrev pub decreases-loop-low : goal.decreases-loop-low
decreases-loop-low l = l.high - l.low
