use Rattle.std.proofs.Common.{◌≡◌, ◌-◌, length}
use Rattle.wal_replay.proofs.FillLaws.{Filling}
use Rattle.wal_replay.proofs.filling.put_rows.Given as goal

abbrev pub invariant-loop-reader : goal.invariant-loop-reader
invariant-loop-reader g l =
    let m = g.T.Table.means in
    (l.reader.text.now ≡ l.text) × Filling l.watermark l.text (m l.initial.table) (m l.table) l.reader.place

abbrev pub decreases-loop-reader : goal.decreases-loop-reader
decreases-loop-reader g l = length l.text - l.reader.place
