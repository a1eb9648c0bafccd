use Rattle.std.proofs.Common.{◌+◌, ◌-◌}
use Rattle.wal_replay.specs.Replays.{front, fence}
use Rattle.wal_replay.proofs.Reading.{SoFar}
use Rattle.wal_replay.proofs.replay.WalReplayIterator.read_on.Given as goal

abbrev pub invariant-loop-applied_any : goal.invariant-loop-applied_any
invariant-loop-applied_any g l =
    SoFar (g.S.Store.means l.initial.store) (g.S.Store.means l.store) l.initial.self l.self (g.T.Table.means l.initial.table) (g.T.Table.means l.table) l.initial.buffer l.buffer l.applied_any

abbrev pub decreases-loop-applied_any : goal.decreases-loop-applied_any
decreases-loop-applied_any g l = fence l.self + 1 - front l.self
