use Rattle.std.proofs.Common.{◌+◌, ◌-◌, ◌≤◌, length}
use Rattle.rows.specs.Sizes.{weight}
use Rattle.rows.proofs.SeenLaws.{Seen}
use Rattle.rows.proofs.reader.Reader.look_ahead.Given as goal

abbrev pub invariant-loop-guard : goal.invariant-loop-guard
invariant-loop-guard l = Seen weight l.text l.start l.guard.place.now l.rows l.bytes × (l.rows + l.bytes + l.start ≤ l.guard.place.now)

abbrev pub decreases-loop-guard : goal.decreases-loop-guard
decreases-loop-guard l = length l.text - l.guard.place.now
