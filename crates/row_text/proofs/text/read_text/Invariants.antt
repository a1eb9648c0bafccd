use Rattle.std.proofs.Common.{◌≡◌, ◌-◌, ◌*◌, ◌≤◌, length}
use Rattle.rows.specs.Sizes.{size}
use Rattle.rows.proofs.SeenLaws.{Seen}
use Rattle.row_text.proofs.text.read_text.Given as goal

abbrev pub invariant-loop-row : goal.invariant-loop-row
invariant-loop-row l = (l.reader.text.now ≡ l.text) × Seen size l.text 0 l.reader.place l.rows l.size × (l.rows ≤ l.reader.place) × (l.size ≤ 24 * l.reader.place)

abbrev pub decreases-loop-row : goal.decreases-loop-row
decreases-loop-row l = length l.text - l.reader.place
