use Rattle.std.proofs.Common.{◌≡◌, ◌-◌, length, vec_items}
use Rattle.row_text.proofs.CopyLaws.{Copied}
use Rattle.row_text.proofs.again.append_rows.Given as goal

abbrev pub invariant-loop-row : goal.invariant-loop-row
invariant-loop-row l = (l.reader.text.now ≡ l.text) × Copied l.text (vec_items l.initial.out) (vec_items l.out) l.reader.place

abbrev pub decreases-loop-row : goal.decreases-loop-row
decreases-loop-row l = length l.text - l.reader.place
