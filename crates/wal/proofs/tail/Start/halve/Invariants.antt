use Rattle.std.proofs.Common.{◌-◌, ◌^◌, ◌≤◌}
use Rattle.wal.specs.Tails.{behind}
use Rattle.wal.specs.Asking.{Same}
use Rattle.wal.proofs.Halving.{Between}
use Rattle.wal.proofs.tail.Start.halve.Given as goal

abbrev pub invariant-loop-left : goal.invariant-loop-left
invariant-loop-left g l =
    let m = g.S.Store.means in
    (l.heads ≤ l.absent - 1)
    × (l.right ≤ 2 ^ 48)
    × Same (m l.initial.store) (m l.store)
    × Between (behind (m l.initial.store).held l.self.id) (l.absent - 1) l.left l.right (l.absent - 1 - l.heads)

abbrev pub decreases-loop-left : goal.decreases-loop-left
decreases-loop-left g l = l.right - l.left
