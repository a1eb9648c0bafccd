use Rattle.std.proofs.Common.{◌≡◌, ◌-◌, length}
use Rattle.loader.proofs.PutLaws.{SoFar}
use Rattle.loader.proofs.loading.put_rows.Given as goal

abbrev pub invariant-loop-table : goal.invariant-loop-table
invariant-loop-table g l =
    let m = g.T.Table.means in
    (l.reader.text.now ≡ l.text) × SoFar l.text (m l.initial.table).held (m l.table).held l.reader.place

abbrev pub decreases-loop-table : goal.decreases-loop-table
decreases-loop-table g l = length l.text - l.reader.place
