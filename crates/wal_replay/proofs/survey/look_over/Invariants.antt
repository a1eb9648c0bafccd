use Rattle.std.proofs.Common.{◌≡◌, ◌-◌, length}
use Rattle.wal_replay.proofs.SurveyLaws.{Looked}
use Rattle.wal_replay.proofs.survey.look_over.Given as goal

abbrev pub invariant-loop-reader : goal.invariant-loop-reader
invariant-loop-reader l = (l.reader.text.now ≡ l.text) × Looked l.text l.watermark l.initial.seen l.seen l.reader.place

abbrev pub decreases-loop-reader : goal.decreases-loop-reader
decreases-loop-reader l = length l.text - l.reader.place
