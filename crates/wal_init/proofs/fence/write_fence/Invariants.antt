use Rattle.std.proofs.Common.{◌≡◌, ◌+◌, ◌-◌, ◌<◌, true}
use Rattle.wal_init.specs.Fences.{Tried}
use Rattle.wal_init.proofs.fence.write_fence.Given as goal

abbrev pub invariant-loop-id : goal.invariant-loop-id
invariant-loop-id g l = (l.id.number ≡ l.fn.start.number + l.attempts) × (l.attempts < 4096) × Tried (g.S.Store.means l.initial.store).held l.fn.start.number l.id.number
    × ((g.S.Store.means l.store).held ≡ (g.S.Store.means l.initial.store).held)
    × ((g.S.Store.means l.initial.store).steady ≡ true → (g.S.Store.means l.store).steady ≡ true)

abbrev pub decreases-loop-id : goal.decreases-loop-id
decreases-loop-id g l = 4096 - l.attempts
