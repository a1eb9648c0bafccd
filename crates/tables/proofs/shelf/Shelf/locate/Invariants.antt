use Rattle.std.proofs.Common.{◌-◌, ◌≤◌, length}
use Rattle.tables.specs.Ranks.{Front, Back}
use Rattle.tables.specs.Shelves.{order_of}
use Rattle.tables.proofs.shelf.Shelf.locate.Given as goal

abbrev pub invariant-loop-low : goal.invariant-loop-low
invariant-loop-low l =
    (l.low ≤ l.high)
    × (l.high ≤ length (order_of l.self))
    × Front (order_of l.self) l.key l.seq l.low
    × Back (order_of l.self) l.key l.seq l.high

abbrev pub decreases-loop-low : goal.decreases-loop-low
decreases-loop-low l = l.high - l.low
