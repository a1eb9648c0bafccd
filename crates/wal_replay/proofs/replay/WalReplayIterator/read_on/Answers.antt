use Rattle.std.proofs.Common.{ap}
use Rattle.wal_replay.specs.Replays.{handed}
use Rattle.wal_replay.proofs.Reading.{one_more, cut, refused, ended}
use Rattle.wal_replay.proofs.replay.WalReplayIterator.read_on.Goals as goal

pub returns-in-Err : goal.returns-in-Err
returns-in-Err g c =
    refused _ _ _ _ _ _ _ _ c.loop-applied_any.applied_any c.loop-applied_any.invariant _ _ _ _ c.in-Err.fault _ c.close-in-Err.result c.in-Err.ensures c.close-in-Err.ensures.state c.close-in-Err.ensures.answer

pub returns-in-Ok-false : goal.returns-in-Ok-false
returns-in-Ok-false g c =
    ended _ _ _ _ _ _ _ _ c.loop-applied_any.applied_any c.loop-applied_any.invariant _ _ _ _ c.in-Ok-false.field-0 c.in-Ok-false.field-0-test _ c.close.result c.in-Ok-false.ensures c.close.ensures.state c.close.ensures.answer

pub returns-then-is_ripe : goal.returns-then-is_ripe
returns-then-is_ripe g c =
    cut _ _ _ _ _ _ _ _ c.loop-applied_any.applied_any c.loop-applied_any.invariant _ _ _ _ c.in-Ok-true.field-0 c.in-Ok-true.field-0-test c.in-Ok-true.ensures c.is_ripe.result c.is_ripe.ensures c.if-is_ripe.true c.self.inside.last (ap handed c.self.view_is)

pub loop-applied_any-preserved : goal.loop-applied_any-preserved
loop-applied_any-preserved g c =
    one_more _ _ _ _ _ _ _ _ c.loop-applied_any.applied_any c.loop-applied_any.invariant _ _ _ _ c.in-Ok-true.field-0 c.in-Ok-true.field-0-test c.in-Ok-true.ensures c.is_ripe.result c.is_ripe.ensures c.if-is_ripe.false
